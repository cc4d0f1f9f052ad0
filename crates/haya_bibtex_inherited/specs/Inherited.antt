-- The fields that an entry has, its own and those that it inherits; and the entries of a library.
use Rattle.std.specs.Prelude.{◌≡◌, ◌↔◌, ◌+◌, ◌<◌, ℕ, Bool, true, List, [], ◌∷◌, ◌++◌}
use Rattle.std.specs.Prelude.{Contains, Option, Some, None, codes, filter, fold, get_or}
use Rattle.std.specs.Prelude.{if◌then◌else◌, length, map}
use Rattle.std.specs.List.{filter_map, flat_map, list_any}
use Rattle.std.specs.Str.{bytes_eq}
use Rattle.haya_bibtex_inherited.specs.Changes.{changes_between, date_names, keeps_name, new_name}
use Rattle.haya_bibtex_inherited.specs.Entries.{EntryBytes, FieldBytes, has_field}
use Rattle.haya_bibtex_inherited.specs.Graphs.{Graph, Leads, targets}
use Rattle.haya_bibtex_inherited.specs.References.{ReferenceBytes, position_of, references}
use Rattle.haya_bibtex_inherited.specs.declared.changes.Changes.{Changes}
use Rattle.haya_bibtex_inherited.specs.declared.reference.Link.{Link}

-- ---- fields that are given
-- a field under the name that its name changes to; the field itself, if it is inherited so
abbrev pub field_under : Option (List ℕ) → List ℕ → List FieldBytes
field_under None t = []
field_under (Some n) t = record { name = n; text = t } ∷ []

abbrev pub renamed_field : Changes → FieldBytes → List FieldBytes
renamed_field c f = field_under (new_name c f.name) f.text

abbrev pub kept_field : Changes → Bool → FieldBytes → List FieldBytes
kept_field c dated f = if keeps_name c dated f.name then f ∷ [] else []

-- a field whose name isn't there yet comes behind the others
abbrev pub with_field : List FieldBytes → FieldBytes → List FieldBytes
with_field fs f = if has_field fs f.name then fs else fs ++ f ∷ []

abbrev pub with_fields : List FieldBytes → List FieldBytes → List FieldBytes
with_fields fs gs = fold with_field fs gs

abbrev pub has_date : List FieldBytes → Bool
has_date fs = list_any (has_field fs) date_names

-- fields, and what a source gives of its own: names that change go first
abbrev pub with_given : Changes → List FieldBytes → List FieldBytes → List FieldBytes
with_given c fs gs =
    with_fields (with_fields fs (flat_map (renamed_field c) gs))
    (flat_map (kept_field c (has_date fs)) gs)

-- ---- sources
-- a reference, and where the entry with its key is
pub record Source : Type 0 where
  pub link : Link
  pub key : List ℕ
  pub position : Option ℕ

abbrev pub source_of : List EntryBytes → ReferenceBytes → Source
source_of es r = record { link = r.link; key = r.key; position = position_of es r.key }

abbrev pub sources : List EntryBytes → EntryBytes → List Source
sources es e = map (source_of es) (references e)

-- each entry refers to those whose keys it has
abbrev pub entry_targets : List EntryBytes → EntryBytes → List ℕ
entry_targets es e = filter_map (λ s. s.position) (sources es e)

abbrev pub reference_graph : List EntryBytes → Graph
reference_graph es = map (entry_targets es) es

-- which of the entries that are referred to refer back, themselves or by others
abbrev pub TellsBack : Graph → (ℕ → ℕ → Bool) → Type 0
TellsBack g back = (i j : ℕ) → i < length g → Contains (targets g i) j →
    (back j i ≡ true) ↔ Leads g j i

-- the key of a source is that of no entry, or leads in a circle
abbrev pub leads_nowhere_else : (ℕ → ℕ → Bool) → ℕ → Option ℕ → Bool
leads_nowhere_else back i None = true
leads_nowhere_else back i (Some j) = back j i

abbrev pub is_passed_over : (ℕ → ℕ → Bool) → ℕ → Source → Bool
is_passed_over back i s = leads_nowhere_else back i s.position

-- ---- all fields
abbrev pub no_entry : EntryBytes
no_entry = record { kind = []; key = []; fields = [] }

abbrev pub entry_at : List EntryBytes → ℕ → EntryBytes
entry_at es i = get_or es i no_entry

-- what an entry, of which these fields are there, has of a source, whose fields are known
abbrev pub with_source_at : (ℕ → ℕ → Bool) → List EntryBytes → List (List FieldBytes) → ℕ →
    List FieldBytes → Link → Option ℕ → List FieldBytes
with_source_at back es all i fs l None = fs
with_source_at back es all i fs l (Some j) =
    if back j i then fs
    else with_given (changes_between l (entry_at es j).kind (entry_at es i).kind) fs
    (get_or all j [])

abbrev pub with_source : (ℕ → ℕ → Bool) → List EntryBytes → List (List FieldBytes) → ℕ →
    List FieldBytes → Source → List FieldBytes
with_source back es all i fs s = with_source_at back es all i fs s.link s.position

-- the fields of an entry, where all fields of all entries are known: its own, and what each of its
-- sources gives
abbrev pub all_fields : (ℕ → ℕ → Bool) → List EntryBytes → List (List FieldBytes) → ℕ →
    List FieldBytes
all_fields back es all i =
    fold (with_source back es all i) (entry_at es i).fields (sources es (entry_at es i))

-- each entry has its own fields and what its sources have to give, those that they inherit too
pub record AreAllFields (back : ℕ → ℕ → Bool) (es : List EntryBytes)
    (all : List (List FieldBytes)) : Type 0 where
  pub as_many : length all ≡ length es
  pub each : (i : ℕ) → i < length es → get_or all i [] ≡ all_fields back es all i

-- ---- the library
-- the entries with these fields, but those of the type `xdata`
abbrev pub entries_with : List EntryBytes → List (List FieldBytes) → List EntryBytes
entries_with [] all = []
entries_with (e ∷ es) [] = []
entries_with (e ∷ es) (fs ∷ all) =
    if bytes_eq e.kind (codes "xdata") then entries_with es all
    else record { kind = e.kind; key = e.key; fields = fs } ∷ entries_with es all

-- the references that are passed over, of entries from a position on
abbrev pub reference_of : Source → ReferenceBytes
reference_of s = record { link = s.link; key = s.key }

abbrev pub passed_over_from : (ℕ → ℕ → Bool) → ℕ → List (List Source) → List ReferenceBytes
passed_over_from back i [] = []
passed_over_from back i (ss ∷ sss) =
    map reference_of (filter (is_passed_over back i) ss) ++ passed_over_from back (i + 1) sss

-- the entries of the library, and the references that are passed over
pub record IsLibrary (es library : List EntryBytes) (passed : List ReferenceBytes) : Type 0 where
  pub back : ℕ → ℕ → Bool
  pub circles : TellsBack (reference_graph es) back
  pub all : List (List FieldBytes)
  pub fields : AreAllFields back es all
  pub entries : library ≡ entries_with es all
  pub passed_over : passed ≡ passed_over_from back 0 (map (sources es) es)
