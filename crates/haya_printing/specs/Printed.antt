-- Entries as lines of text, as the readers of lines read them.
use Rattle.std.specs.Prelude.{ℕ, ◌+◌, List, [], ◌∷◌, ◌++◌, Option, None, Some, option_and_then, codes}
use Rattle.std.specs.Fmt.{decimal}
use Rattle.haya_text.specs.Printing.{to_serialized}
use Rattle.haya_text.specs.Texts.{TextView}
use Rattle.haya_numbers.specs.NumericRoundTrip.{round_trip_text as number_text}
use Rattle.haya_numbers.specs.PagesRoundTrip.{round_trip_text as pages_text}
use Rattle.haya_people.specs.Person.{PersonView}
use Rattle.haya_people.specs.PersonText.{person_text}
use Rattle.haya_people.specs.Roles.{RoleView, RolesView, role_name}
use Rattle.haya_time.specs.DatePrinted.{date_text}
use Rattle.haya_time.specs.DurationPrint.{duration_text, range_text}
use Rattle.haya_values.specs.MaybeTyped.{TypedOrText, Typed, Text}
use Rattle.haya_values.specs.Publisher.{PublisherView}
use Rattle.haya_values.specs.Url.{UrlView}
use Rattle.haya_entry.specs.EntryType.{type_name, in_lower_case}
use Rattle.haya_entry.specs.SerialNumber.{serial_text}
use Rattle.haya_entry.specs.Tree.{Tree, Trees, Fields, node, no_trees, one_more}
use Rattle.haya_lines.specs.Signs.{tab, equals_sign, colon, line_feed}

-- ---- items of a line, before what follows them

-- a tab, a name, `=` and a text
abbrev pub item : List ℕ → List ℕ → List ℕ → List ℕ
item name text rest = tab ∷ name ++ (equals_sign ∷ text ++ rest)

-- an item of a value, where there is one
abbrev pub also : {V : Type 0} → List ℕ → (V → List ℕ) → Option V → List ℕ → List ℕ
also name print None rest = rest
also name print (Some v) rest = item name (print v) rest

-- an item of each value
abbrev pub each : {V : Type 0} → List ℕ → (V → List ℕ) → List V → List ℕ → List ℕ
each name print [] rest = rest
each name print (v ∷ vs) rest = item name (print v) (each name print vs rest)

-- the same of a list, where there is one
abbrev pub also_each : {V : Type 0} → List ℕ → (V → List ℕ) → Option (List V) → List ℕ → List ℕ
also_each name print None rest = rest
also_each name print (Some vs) rest = each name print vs rest

-- ---- the texts of values

-- the long form
abbrev pub long_text : TextView → List ℕ
long_text t = to_serialized t.value

-- the text of a typed value, or the text that is kept
abbrev pub typed_text : {V : Type 0} → (V → List ℕ) → TypedOrText V → List ℕ
typed_text text_of (Typed v) = text_of v
typed_text text_of (Text text) = text

abbrev pub url_text : UrlView → List ℕ
url_text u = u.value

-- ---- the fields of an entry, before what follows them

-- an item of a person, behind a role and a colon
unfoldable pub affiliated_item : RoleView → PersonView → List ℕ → List ℕ
affiliated_item role p rest =
    tab ∷ codes "affiliated"
    ++ (equals_sign ∷ role_name role ++ (colon ∷ person_text p ++ rest))

-- an item of each person in a role, and of each in each role
abbrev pub role_items : RoleView → List PersonView → List ℕ → List ℕ
role_items role [] rest = rest
role_items role (p ∷ ps) rest = affiliated_item role p (role_items role ps rest)

abbrev pub roles_items : List RolesView → List ℕ → List ℕ
roles_items [] rest = rest
roles_items (r ∷ rs) rest = role_items r.role r.names (roles_items rs rest)

abbrev pub also_roles : Option (List RolesView) → List ℕ → List ℕ
also_roles None rest = rest
also_roles (Some rs) rest = roles_items rs rest

abbrev pub text_items : Fields → List ℕ → List ℕ
text_items f rest =
    also (codes "title") long_text f.title
    (also (codes "location") long_text f.location
    (also (codes "organization") long_text f.organization
    (also (codes "archive") long_text f.archive
    (also (codes "archive-location") long_text f.archive_location
    (also (codes "call-number") long_text f.call_number
    (also (codes "note") long_text f.note
    (also (codes "abstract") long_text f.abstract_
    (also (codes "genre") long_text f.genre rest))))))))

abbrev pub publisher_name : Option PublisherView → Option TextView
publisher_name publisher = option_and_then (λ p. p.name) publisher

abbrev pub people_items : Fields → List ℕ → List ℕ
people_items f rest =
    also_each (codes "author") person_text f.authors
    (also_each (codes "editor") person_text f.editors
    (also_roles f.affiliated
    (also (codes "date") date_text f.date
    (also (codes "publisher") long_text (publisher_name f.publisher)
    (also (codes "url") url_text f.url rest)))))

abbrev pub number_items : Fields → List ℕ → List ℕ
number_items f rest =
    also (codes "issue") (typed_text number_text) f.issue
    (also (codes "chapter") (typed_text number_text) f.chapter
    (also (codes "volume") (typed_text number_text) f.volume
    (also (codes "edition") (typed_text number_text) f.edition
    (also (codes "volume-total") number_text f.volume_total
    (also (codes "page-total") number_text f.page_total
    (also (codes "page-range") (typed_text pages_text) f.page_range
    (also (codes "time-range") (typed_text range_text) f.time_range
    (also (codes "runtime") (typed_text duration_text) f.runtime rest))))))))

-- the serial number under a key, by a name
abbrev pub also_serial : List ℕ → List ℕ → Fields → List ℕ → List ℕ
also_serial name key f rest = also name (λ text. text) (serial_text key f.serial_number) rest

abbrev pub last_items : Fields → List ℕ → List ℕ
last_items f rest =
    also_serial (codes "serial-number") (codes "serial") f
    (also_serial (codes "doi") (codes "doi") f
    (also_serial (codes "isbn") (codes "isbn") f
    (also_serial (codes "issn") (codes "issn") f
    (also_serial (codes "pmid") (codes "pmid") f
    (also_serial (codes "pmcid") (codes "pmcid") f
    (also_serial (codes "arxiv") (codes "arxiv") f
    (also (codes "language") (λ text. text) f.language rest)))))))

-- an item of each value of a field that a line has a name for
abbrev pub field_items : Fields → List ℕ → List ℕ
field_items f rest = text_items f (people_items f (number_items f (last_items f rest)))

-- ---- lines

-- the depth, the key, the type in lower case
abbrev pub head_text : ℕ → Fields → List ℕ → List ℕ
head_text d f rest =
    decimal d ++ (tab ∷ f.key ++ (tab ∷ in_lower_case (type_name f.entry_type) ++ rest))

-- the line of an entry at a depth
abbrev pub line_text : ℕ → Fields → List ℕ
line_text d f = head_text d f (field_items f []) ++ line_feed ∷ []

-- the lines of an entry at a depth, and of its parents, one deeper
abbrev mutual
  pub lines_text : ℕ → Tree → List ℕ
  lines_text d (node f ps) = line_text d f ++ all_lines_text (d + 1) ps

  pub all_lines_text : ℕ → Trees → List ℕ
  all_lines_text d no_trees = []
  all_lines_text d (one_more t ts) = lines_text d t ++ all_lines_text d ts

-- the lines of an entry of a library
abbrev pub entry_text : Tree → List ℕ
entry_text t = lines_text 0 t
