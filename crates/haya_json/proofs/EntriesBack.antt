-- What is printed of an entry is read as the entry, where its values are.
use Rattle.std.proofs.Common.{◌≡◌, ℕ, ◌+◌, Bool, true, false, List, [], ◌∷◌, Option, None, Some, Result, Ok, refl, sym, ap, ◌∙◌}
use Rattle.std.specs.Prelude.{codes, if◌then◌else◌}
use Rattle.std.specs.Str.{bytes_eq}
use Rattle.std.proofs.lemmas.Slice.Eq.{bytes_eq-Decides}
use Rattle.json.specs.Json as json
use Rattle.json.specs.Json.{Json, Members}
use Rattle.json.specs.Find.{is_null, get_member}
use Rattle.haya_time.specs.DurationPrint.{duration_text, range_text}
use Rattle.haya_entry.specs.ParentTypes.{default_parent}
use Rattle.haya_entry.specs.Tree.{Tree, Trees, Fields, node, no_trees, one_more, fields, trees, tree_list, with_parents, new_entry}
use Rattle.haya_entry.specs.declared.types.EntryType.{EntryType}
use Rattle.haya_entry.specs.declared.types.EntryType.TheVariants.{Article, Chapter, Entry, Anthos, Report, Thesis, Web, Scene, Artwork, Patent, Case, Newspaper, Legislation, Manuscript, Post, Misc, Performance, Periodical, Proceedings, Book, Blog, Reference, Conference, Anthology, Repository, Thread, Video, Audio, Exhibition, Original}
use Rattle.haya_json.specs.Refusal.{Refusal, and_then, within, to_member}
use Rattle.haya_json.specs.Notes.{LostView}
use Rattle.haya_json.specs.LostParts.{date_part, format_part, many_lost, parts_lost, person_part, publisher_part, range_part, roles_part, url_part}
use Rattle.haya_json.specs.Fields.{EntryView, FieldView, entry_alone, none_lost, read_into}
use Rattle.haya_json.specs.Parts.{member_of, plain_of}
use Rattle.haya_json.specs.Values.{format_of, persons_of, affiliated_of, date_of, publisher_of, url_of, number_of, number_or_text_of, pages_or_text_of, range_or_text_of, duration_or_text_of, serials_of}
use Rattle.haya_json.specs.Entries.{ParentsView, entry_of, after_member, entry_said, items_said, key_among, kind_of, members_said, missing_in, one_parent, parents_said, type_missing, type_of, with_item, with_member}
use Rattle.haya_json.specs.Libraries.{entries_of, library_of}
use Rattle.haya_json.specs.Printed.{also, one_or_many_json, format_json, person_json, roles_json, date_json, publisher_json, url_json, pages_json, typed_json, number_json, number_or_text_json, serial_json, type_json, field_members, json_of, parent_members, item_list, library_members, library_json}
use Rattle.haya_json.proofs.Solids.{RefusesNull, solid, format_of_null, persons_of_null, affiliated_of_null, date_of_null, publisher_of_null, url_of_null, number_of_null, number_or_text_of_null, pages_or_text_of_null, range_or_text_of_null, duration_or_text_of_null, serials_of_null, plain_of_null}
use Rattle.haya_json.specs.Told.{entries_told}
use Rattle.haya_json.proofs.NoneLost.{affiliated_none, date_none, format_none, persons_none, publisher_none, range_none, url_none}
use Rattle.haya_json.proofs.TextsRead.{ok_same}
use Rattle.haya_json.specs.ReadBack.{IsBack, FieldsAreBack, TreeIsBack, TreesAreBack, EntriesAreBack}

type_solid : (kind : EntryType) → is_null (type_json kind) ≡ false
unfolding type_json
type_solid kind = refl

-- ---- the type and the key

type_back : (kind : EntryType) → type_of (type_json kind) ≡ Ok kind
unfolding type_json
type_back Article = refl
type_back Chapter = refl
type_back Entry = refl
type_back Anthos = refl
type_back Report = refl
type_back Thesis = refl
type_back Web = refl
type_back Scene = refl
type_back Artwork = refl
type_back Patent = refl
type_back Case = refl
type_back Newspaper = refl
type_back Legislation = refl
type_back Manuscript = refl
type_back Post = refl
type_back Misc = refl
type_back Performance = refl
type_back Periodical = refl
type_back Proceedings = refl
type_back Book = refl
type_back Blog = refl
type_back Reference = refl
type_back Conference = refl
type_back Anthology = refl
type_back Repository = refl
type_back Thread = refl
type_back Video = refl
type_back Audio = refl
type_back Exhibition = refl
type_back Original = refl

-- a member with another name than the one that is looked for
other_name : {V : Type 0} (wanted name : List ℕ) (print : V → Json) (o : Option V) (ms : Members) → bytes_eq name wanted ≡ false
    → get_member wanted ms ≡ None → get_member wanted (also name print o ms) ≡ None
other_name wanted name print None ms other none = none
other_name wanted name print (Some v) ms other none = rw (none, other) refl

no_parent_type : (key : List ℕ) (ps : Trees) → get_member (codes "type") (parent_members key ps) ≡ None
no_parent_type key no_trees = refl
no_parent_type key (one_more t no_trees) = refl
no_parent_type key (one_more t (one_more u us)) = refl

no_field_type : (f : Fields) (ms : Members) → get_member (codes "type") ms ≡ None → get_member (codes "type") (field_members f ms) ≡ None
no_field_type f ms none =
    other_name _ _ _ f.title _ refl
    (other_name _ _ _ f.location _ refl
    (other_name _ _ _ f.organization _ refl
    (other_name _ _ _ f.archive _ refl
    (other_name _ _ _ f.archive_location _ refl
    (other_name _ _ _ f.call_number _ refl
    (other_name _ _ _ f.note _ refl
    (other_name _ _ _ f.abstract_ _ refl
    (other_name _ _ _ f.genre _ refl
    (other_name _ _ _ f.authors _ refl
    (other_name _ _ _ f.editors _ refl
    (other_name _ _ _ f.affiliated _ refl
    (other_name _ _ _ f.date _ refl
    (other_name _ _ _ f.publisher _ refl
    (other_name _ _ _ f.url _ refl
    (other_name _ _ _ f.issue _ refl
    (other_name _ _ _ f.chapter _ refl
    (other_name _ _ _ f.volume _ refl
    (other_name _ _ _ f.edition _ refl
    (other_name _ _ _ f.volume_total _ refl
    (other_name _ _ _ f.page_total _ refl
    (other_name _ _ _ f.page_range _ refl
    (other_name _ _ _ f.time_range _ refl
    (other_name _ _ _ f.runtime _ refl
    (other_name _ _ _ f.serial_number _ refl
    (other_name _ _ _ f.language _ refl
    none)))))))))))))))))))))))))

no_parent_key : (key : List ℕ) (ps : Trees) → get_member (codes "key") (parent_members key ps) ≡ None
no_parent_key key no_trees = refl
no_parent_key key (one_more t no_trees) = refl
no_parent_key key (one_more t (one_more u us)) = refl

no_field_key : (f : Fields) (ms : Members) → get_member (codes "key") ms ≡ None → get_member (codes "key") (field_members f ms) ≡ None
no_field_key f ms none =
    other_name _ _ _ f.title _ refl
    (other_name _ _ _ f.location _ refl
    (other_name _ _ _ f.organization _ refl
    (other_name _ _ _ f.archive _ refl
    (other_name _ _ _ f.archive_location _ refl
    (other_name _ _ _ f.call_number _ refl
    (other_name _ _ _ f.note _ refl
    (other_name _ _ _ f.abstract_ _ refl
    (other_name _ _ _ f.genre _ refl
    (other_name _ _ _ f.authors _ refl
    (other_name _ _ _ f.editors _ refl
    (other_name _ _ _ f.affiliated _ refl
    (other_name _ _ _ f.date _ refl
    (other_name _ _ _ f.publisher _ refl
    (other_name _ _ _ f.url _ refl
    (other_name _ _ _ f.issue _ refl
    (other_name _ _ _ f.chapter _ refl
    (other_name _ _ _ f.volume _ refl
    (other_name _ _ _ f.edition _ refl
    (other_name _ _ _ f.volume_total _ refl
    (other_name _ _ _ f.page_total _ refl
    (other_name _ _ _ f.page_range _ refl
    (other_name _ _ _ f.time_range _ refl
    (other_name _ _ _ f.runtime _ refl
    (other_name _ _ _ f.serial_number _ refl
    (other_name _ _ _ f.language _ refl
    none)))))))))))))))))))))))))

kind_found : (default : Option EntryType) (kind : EntryType) (ms : Members) → get_member (codes "type") ms ≡ None
    → kind_of default (json.object (json.member (codes "type") (type_json kind) ms)) ≡ kind
kind_found default kind ms none = rw (none, type_solid kind, type_back kind) refl

type_there : (default : Option EntryType) (kind : EntryType) (ms : Members) → get_member (codes "type") ms ≡ None
    → type_missing default (json.object (json.member (codes "type") (type_json kind) ms)) ≡ []
type_there None kind ms none = rw (none, type_solid kind) refl
type_there (Some d) kind ms none = by (member_of (codes "type") (json.object (json.member (codes "type") (type_json kind) ms)))
  where
    by : (o : Option Json) → missing_in (Some d) o ≡ []
    by None = refl
    by (Some j) = refl

-- ---- the fields

module _ (key : List ℕ) (default : Option EntryType) (kind : EntryType) where
  -- an entry without parents
  abbrev alone : Fields → EntryView
  alone f = entry_alone (node f no_trees)

  step : {V : Type 0} (name : List ℕ) (read : Json → Result V Refusal) (lost : Json → List LostView) (print : V → Json) (put : Option V → Fields) (o : Option V) (ms : Members) (f : Fields)
      → RefusesNull read → ((v : V) → lost (print v) ≡ [])
      → ((j : Json) (ps : ParentsView) → is_null j ≡ false
      → with_member default name j ps (node f no_trees)
      ≡ (let field : FieldView V = read_into (read j) (lost j) None in record { entry = node (put field.after) no_trees; lost = field.lost }))
      → put None ≡ f → IsBack read print o
      → members_said key default kind (also name print o ms) (alone f) ≡ members_said key default kind ms (alone (put o))
  step name read lost print put None ms f refuses none asks same back = ap (λ g. members_said key default kind ms (alone g)) (sym same)
  step {V = V} name read lost print put (Some v) ms f refuses none asks same back =
      ap (λ w. members_said key default kind ms (after_member name [] w))
      (asks (print v) _ (solid read (print v) v refuses back) ∙ ap of_field (ap (λ r. read_into r (lost (print v)) None) back ∙ ap (λ l. read_into (Ok v) l None) (none v)))
    where
      of_field : FieldView V → EntryView
      of_field field = record { entry = node (put field.after) no_trees; lost = field.lost }

  title_step : (o : Option _) (ms : Members) (f : Fields) → f.title ≡ None → IsBack format_of format_json o
      → members_said key default kind (also (codes "title") format_json o ms) (alone f) ≡ members_said key default kind ms (alone (record f { title = o }))
  title_step o ms f none back =
      step (codes "title") format_of (parts_lost format_part (codes "title")) format_json (λ x. record f { title = x }) o ms f format_of_null (format_none (codes "title")) (λ j ps nn. rw (nn, none) refl) (ap (λ x. record f { title = x }) (sym none)) back

  location_step : (o : Option _) (ms : Members) (f : Fields) → f.location ≡ None → IsBack format_of format_json o
      → members_said key default kind (also (codes "location") format_json o ms) (alone f) ≡ members_said key default kind ms (alone (record f { location = o }))
  location_step o ms f none back =
      step (codes "location") format_of (parts_lost format_part (codes "location")) format_json (λ x. record f { location = x }) o ms f format_of_null (format_none (codes "location")) (λ j ps nn. rw (nn, none) refl) (ap (λ x. record f { location = x }) (sym none)) back

  organization_step : (o : Option _) (ms : Members) (f : Fields) → f.organization ≡ None → IsBack format_of format_json o
      → members_said key default kind (also (codes "organization") format_json o ms) (alone f) ≡ members_said key default kind ms (alone (record f { organization = o }))
  organization_step o ms f none back =
      step (codes "organization") format_of (parts_lost format_part (codes "organization")) format_json (λ x. record f { organization = x }) o ms f format_of_null (format_none (codes "organization")) (λ j ps nn. rw (nn, none) refl) (ap (λ x. record f { organization = x }) (sym none)) back

  archive_step : (o : Option _) (ms : Members) (f : Fields) → f.archive ≡ None → IsBack format_of format_json o
      → members_said key default kind (also (codes "archive") format_json o ms) (alone f) ≡ members_said key default kind ms (alone (record f { archive = o }))
  archive_step o ms f none back =
      step (codes "archive") format_of (parts_lost format_part (codes "archive")) format_json (λ x. record f { archive = x }) o ms f format_of_null (format_none (codes "archive")) (λ j ps nn. rw (nn, none) refl) (ap (λ x. record f { archive = x }) (sym none)) back

  archive_location_step : (o : Option _) (ms : Members) (f : Fields) → f.archive_location ≡ None → IsBack format_of format_json o
      → members_said key default kind (also (codes "archive-location") format_json o ms) (alone f) ≡ members_said key default kind ms (alone (record f { archive_location = o }))
  archive_location_step o ms f none back =
      step (codes "archive-location") format_of (parts_lost format_part (codes "archive-location")) format_json (λ x. record f { archive_location = x }) o ms f format_of_null (format_none (codes "archive-location")) (λ j ps nn. rw (nn, none) refl) (ap (λ x. record f { archive_location = x }) (sym none)) back

  call_number_step : (o : Option _) (ms : Members) (f : Fields) → f.call_number ≡ None → IsBack format_of format_json o
      → members_said key default kind (also (codes "call-number") format_json o ms) (alone f) ≡ members_said key default kind ms (alone (record f { call_number = o }))
  call_number_step o ms f none back =
      step (codes "call-number") format_of (parts_lost format_part (codes "call-number")) format_json (λ x. record f { call_number = x }) o ms f format_of_null (format_none (codes "call-number")) (λ j ps nn. rw (nn, none) refl) (ap (λ x. record f { call_number = x }) (sym none)) back

  note_step : (o : Option _) (ms : Members) (f : Fields) → f.note ≡ None → IsBack format_of format_json o
      → members_said key default kind (also (codes "note") format_json o ms) (alone f) ≡ members_said key default kind ms (alone (record f { note = o }))
  note_step o ms f none back =
      step (codes "note") format_of (parts_lost format_part (codes "note")) format_json (λ x. record f { note = x }) o ms f format_of_null (format_none (codes "note")) (λ j ps nn. rw (nn, none) refl) (ap (λ x. record f { note = x }) (sym none)) back

  abstract__step : (o : Option _) (ms : Members) (f : Fields) → f.abstract_ ≡ None → IsBack format_of format_json o
      → members_said key default kind (also (codes "abstract") format_json o ms) (alone f) ≡ members_said key default kind ms (alone (record f { abstract_ = o }))
  abstract__step o ms f none back =
      step (codes "abstract") format_of (parts_lost format_part (codes "abstract")) format_json (λ x. record f { abstract_ = x }) o ms f format_of_null (format_none (codes "abstract")) (λ j ps nn. rw (nn, none) refl) (ap (λ x. record f { abstract_ = x }) (sym none)) back

  genre_step : (o : Option _) (ms : Members) (f : Fields) → f.genre ≡ None → IsBack format_of format_json o
      → members_said key default kind (also (codes "genre") format_json o ms) (alone f) ≡ members_said key default kind ms (alone (record f { genre = o }))
  genre_step o ms f none back =
      step (codes "genre") format_of (parts_lost format_part (codes "genre")) format_json (λ x. record f { genre = x }) o ms f format_of_null (format_none (codes "genre")) (λ j ps nn. rw (nn, none) refl) (ap (λ x. record f { genre = x }) (sym none)) back

  authors_step : (o : Option _) (ms : Members) (f : Fields) → f.authors ≡ None → IsBack persons_of (one_or_many_json person_json) o
      → members_said key default kind (also (codes "author") (one_or_many_json person_json) o ms) (alone f) ≡ members_said key default kind ms (alone (record f { authors = o }))
  authors_step o ms f none back =
      step (codes "author") persons_of (many_lost person_part (codes "author")) (one_or_many_json person_json) (λ x. record f { authors = x }) o ms f persons_of_null (persons_none (codes "author")) (λ j ps nn. rw (nn, none) refl) (ap (λ x. record f { authors = x }) (sym none)) back

  editors_step : (o : Option _) (ms : Members) (f : Fields) → f.editors ≡ None → IsBack persons_of (one_or_many_json person_json) o
      → members_said key default kind (also (codes "editor") (one_or_many_json person_json) o ms) (alone f) ≡ members_said key default kind ms (alone (record f { editors = o }))
  editors_step o ms f none back =
      step (codes "editor") persons_of (many_lost person_part (codes "editor")) (one_or_many_json person_json) (λ x. record f { editors = x }) o ms f persons_of_null (persons_none (codes "editor")) (λ j ps nn. rw (nn, none) refl) (ap (λ x. record f { editors = x }) (sym none)) back

  affiliated_step : (o : Option _) (ms : Members) (f : Fields) → f.affiliated ≡ None → IsBack affiliated_of (one_or_many_json roles_json) o
      → members_said key default kind (also (codes "affiliated") (one_or_many_json roles_json) o ms) (alone f) ≡ members_said key default kind ms (alone (record f { affiliated = o }))
  affiliated_step o ms f none back =
      step (codes "affiliated") affiliated_of (many_lost roles_part (codes "affiliated")) (one_or_many_json roles_json) (λ x. record f { affiliated = x }) o ms f affiliated_of_null (affiliated_none (codes "affiliated")) (λ j ps nn. rw (nn, none) refl) (ap (λ x. record f { affiliated = x }) (sym none)) back

  date_step : (o : Option _) (ms : Members) (f : Fields) → f.date ≡ None → IsBack date_of date_json o
      → members_said key default kind (also (codes "date") date_json o ms) (alone f) ≡ members_said key default kind ms (alone (record f { date = o }))
  date_step o ms f none back =
      step (codes "date") date_of (parts_lost date_part (codes "date")) date_json (λ x. record f { date = x }) o ms f date_of_null (date_none (codes "date")) (λ j ps nn. rw (nn, none) refl) (ap (λ x. record f { date = x }) (sym none)) back

  publisher_step : (o : Option _) (ms : Members) (f : Fields) → f.publisher ≡ None → IsBack publisher_of publisher_json o
      → members_said key default kind (also (codes "publisher") publisher_json o ms) (alone f) ≡ members_said key default kind ms (alone (record f { publisher = o }))
  publisher_step o ms f none back =
      step (codes "publisher") publisher_of (parts_lost publisher_part (codes "publisher")) publisher_json (λ x. record f { publisher = x }) o ms f publisher_of_null (publisher_none (codes "publisher")) (λ j ps nn. rw (nn, none) refl) (ap (λ x. record f { publisher = x }) (sym none)) back

  url_step : (o : Option _) (ms : Members) (f : Fields) → f.url ≡ None → IsBack url_of url_json o
      → members_said key default kind (also (codes "url") url_json o ms) (alone f) ≡ members_said key default kind ms (alone (record f { url = o }))
  url_step o ms f none back =
      step (codes "url") url_of (parts_lost url_part (codes "url")) url_json (λ x. record f { url = x }) o ms f url_of_null (url_none (codes "url")) (λ j ps nn. rw (nn, none) refl) (ap (λ x. record f { url = x }) (sym none)) back

  issue_step : (o : Option _) (ms : Members) (f : Fields) → f.issue ≡ None → IsBack number_or_text_of number_or_text_json o
      → members_said key default kind (also (codes "issue") number_or_text_json o ms) (alone f) ≡ members_said key default kind ms (alone (record f { issue = o }))
  issue_step o ms f none back =
      step (codes "issue") number_or_text_of none_lost number_or_text_json (λ x. record f { issue = x }) o ms f number_or_text_of_null (λ v. refl) (λ j ps nn. rw (nn, none) refl) (ap (λ x. record f { issue = x }) (sym none)) back

  chapter_step : (o : Option _) (ms : Members) (f : Fields) → f.chapter ≡ None → IsBack number_or_text_of number_or_text_json o
      → members_said key default kind (also (codes "chapter") number_or_text_json o ms) (alone f) ≡ members_said key default kind ms (alone (record f { chapter = o }))
  chapter_step o ms f none back =
      step (codes "chapter") number_or_text_of none_lost number_or_text_json (λ x. record f { chapter = x }) o ms f number_or_text_of_null (λ v. refl) (λ j ps nn. rw (nn, none) refl) (ap (λ x. record f { chapter = x }) (sym none)) back

  volume_step : (o : Option _) (ms : Members) (f : Fields) → f.volume ≡ None → IsBack number_or_text_of number_or_text_json o
      → members_said key default kind (also (codes "volume") number_or_text_json o ms) (alone f) ≡ members_said key default kind ms (alone (record f { volume = o }))
  volume_step o ms f none back =
      step (codes "volume") number_or_text_of none_lost number_or_text_json (λ x. record f { volume = x }) o ms f number_or_text_of_null (λ v. refl) (λ j ps nn. rw (nn, none) refl) (ap (λ x. record f { volume = x }) (sym none)) back

  edition_step : (o : Option _) (ms : Members) (f : Fields) → f.edition ≡ None → IsBack number_or_text_of number_or_text_json o
      → members_said key default kind (also (codes "edition") number_or_text_json o ms) (alone f) ≡ members_said key default kind ms (alone (record f { edition = o }))
  edition_step o ms f none back =
      step (codes "edition") number_or_text_of none_lost number_or_text_json (λ x. record f { edition = x }) o ms f number_or_text_of_null (λ v. refl) (λ j ps nn. rw (nn, none) refl) (ap (λ x. record f { edition = x }) (sym none)) back

  volume_total_step : (o : Option _) (ms : Members) (f : Fields) → f.volume_total ≡ None → IsBack number_of number_json o
      → members_said key default kind (also (codes "volume-total") number_json o ms) (alone f) ≡ members_said key default kind ms (alone (record f { volume_total = o }))
  volume_total_step o ms f none back =
      step (codes "volume-total") number_of none_lost number_json (λ x. record f { volume_total = x }) o ms f number_of_null (λ v. refl) (λ j ps nn. rw (nn, none) refl) (ap (λ x. record f { volume_total = x }) (sym none)) back

  page_total_step : (o : Option _) (ms : Members) (f : Fields) → f.page_total ≡ None → IsBack number_of number_json o
      → members_said key default kind (also (codes "page-total") number_json o ms) (alone f) ≡ members_said key default kind ms (alone (record f { page_total = o }))
  page_total_step o ms f none back =
      step (codes "page-total") number_of none_lost number_json (λ x. record f { page_total = x }) o ms f number_of_null (λ v. refl) (λ j ps nn. rw (nn, none) refl) (ap (λ x. record f { page_total = x }) (sym none)) back

  page_range_step : (o : Option _) (ms : Members) (f : Fields) → f.page_range ≡ None → IsBack pages_or_text_of pages_json o
      → members_said key default kind (also (codes "page-range") pages_json o ms) (alone f) ≡ members_said key default kind ms (alone (record f { page_range = o }))
  page_range_step o ms f none back =
      step (codes "page-range") pages_or_text_of none_lost pages_json (λ x. record f { page_range = x }) o ms f pages_or_text_of_null (λ v. refl) (λ j ps nn. rw (nn, none) refl) (ap (λ x. record f { page_range = x }) (sym none)) back

  time_range_step : (o : Option _) (ms : Members) (f : Fields) → f.time_range ≡ None → IsBack range_or_text_of (typed_json range_text) o
      → members_said key default kind (also (codes "time-range") (typed_json range_text) o ms) (alone f) ≡ members_said key default kind ms (alone (record f { time_range = o }))
  time_range_step o ms f none back =
      step (codes "time-range") range_or_text_of (parts_lost range_part (codes "time-range")) (typed_json range_text) (λ x. record f { time_range = x }) o ms f range_or_text_of_null (range_none (codes "time-range") range_text) (λ j ps nn. rw (nn, none) refl) (ap (λ x. record f { time_range = x }) (sym none)) back

  runtime_step : (o : Option _) (ms : Members) (f : Fields) → f.runtime ≡ None → IsBack duration_or_text_of (typed_json duration_text) o
      → members_said key default kind (also (codes "runtime") (typed_json duration_text) o ms) (alone f) ≡ members_said key default kind ms (alone (record f { runtime = o }))
  runtime_step o ms f none back =
      step (codes "runtime") duration_or_text_of none_lost (typed_json duration_text) (λ x. record f { runtime = x }) o ms f duration_or_text_of_null (λ v. refl) (λ j ps nn. rw (nn, none) refl) (ap (λ x. record f { runtime = x }) (sym none)) back

  serial_number_step : (o : Option _) (ms : Members) (f : Fields) → f.serial_number ≡ None → IsBack serials_of serial_json o
      → members_said key default kind (also (codes "serial-number") serial_json o ms) (alone f) ≡ members_said key default kind ms (alone (record f { serial_number = o }))
  serial_number_step o ms f none back =
      step (codes "serial-number") serials_of none_lost serial_json (λ x. record f { serial_number = x }) o ms f serials_of_null (λ v. refl) (λ j ps nn. rw (nn, none) refl) (ap (λ x. record f { serial_number = x }) (sym none)) back

  language_step : (o : Option _) (ms : Members) (f : Fields) → f.language ≡ None → IsBack plain_of json.string o
      → members_said key default kind (also (codes "language") json.string o ms) (alone f) ≡ members_said key default kind ms (alone (record f { language = o }))
  language_step o ms f none back =
      step (codes "language") plain_of none_lost json.string (λ x. record f { language = x }) o ms f plain_of_null (λ v. refl) (λ j ps nn. rw (nn, none) refl) (ap (λ x. record f { language = x }) (sym none)) back

  fields_back : (f : Fields) (ms : Members) → FieldsAreBack f
      → members_said key default kind (field_members f ms) (entry_alone (new_entry key kind)) ≡ members_said key default kind ms (alone (record f { key = key; entry_type = kind }))
  fields_back f ms back =
      title_step f.title _ _ refl back.title
      ∙ location_step f.location _ _ refl back.location
      ∙ organization_step f.organization _ _ refl back.organization
      ∙ archive_step f.archive _ _ refl back.archive
      ∙ archive_location_step f.archive_location _ _ refl back.archive_location
      ∙ call_number_step f.call_number _ _ refl back.call_number
      ∙ note_step f.note _ _ refl back.note
      ∙ abstract__step f.abstract_ _ _ refl back.abstract_
      ∙ genre_step f.genre _ _ refl back.genre
      ∙ authors_step f.authors _ _ refl back.authors
      ∙ editors_step f.editors _ _ refl back.editors
      ∙ affiliated_step f.affiliated _ _ refl back.affiliated
      ∙ date_step f.date _ _ refl back.date
      ∙ publisher_step f.publisher _ _ refl back.publisher
      ∙ url_step f.url _ _ refl back.url
      ∙ issue_step f.issue _ _ refl back.issue
      ∙ chapter_step f.chapter _ _ refl back.chapter
      ∙ volume_step f.volume _ _ refl back.volume
      ∙ edition_step f.edition _ _ refl back.edition
      ∙ volume_total_step f.volume_total _ _ refl back.volume_total
      ∙ page_total_step f.page_total _ _ refl back.page_total
      ∙ page_range_step f.page_range _ _ refl back.page_range
      ∙ time_range_step f.time_range _ _ refl back.time_range
      ∙ runtime_step f.runtime _ _ refl back.runtime
      ∙ serial_number_step f.serial_number _ _ refl back.serial_number
      ∙ language_step f.language _ _ refl back.language

-- ---- an entry from its members

abbrev body : Fields → Trees → Members
body f ps = field_members f (parent_members f.key ps)

abbrev all_members : Fields → Trees → Option (List ℕ) → Members
all_members f ps own = json.member (codes "type") (type_json f.entry_type) (also (codes "key") json.string own (body f ps))

type_set : (default : Option EntryType) (kind : EntryType) (parents : ParentsView) (t : Tree)
    → with_member default (codes "type") (type_json kind) parents t ≡ entry_alone t
type_set default kind parents t = rw (type_solid kind, type_back kind) refl

-- the members of an entry set what it has, and nothing is lost
from_members : (key : List ℕ) (default : Option EntryType) (f : Fields) (ps : Trees) (own : Option (List ℕ))
    → key_among key default (json.object (all_members f ps own)) ≡ f.key
    → members_said f.key default f.entry_type (also (codes "key") json.string own (body f ps)) (entry_alone (new_entry f.key f.entry_type)) ≡ entry_alone (node f ps)
    → entry_said key default (json.object (all_members f ps own)) ≡ Ok (entry_alone (node f ps))
from_members key default f ps own keyed bodied =
    let all = all_members f ps own in
    let others = also (codes "key") json.string own (body f ps) in
    let kind = f.entry_type in
    let none : get_member (codes "type") others ≡ None = other_name (codes "type") (codes "key") json.string own (body f ps) refl (no_field_type f _ (no_parent_type f.key ps)) in
    ap Ok
    (ap (λ k. members_said (key_among key default (json.object all)) default k all (record { entry = new_entry (key_among key default (json.object all)) k; lost = type_missing default (json.object all) })) (kind_found default kind others none)
    ∙ ap (λ l. members_said (key_among key default (json.object all)) default kind all (record { entry = new_entry (key_among key default (json.object all)) kind; lost = l })) (type_there default kind others none)
    ∙ ap (λ k. members_said k default kind all (entry_alone (new_entry k kind))) keyed
    ∙ ap (λ w. members_said f.key default kind others (after_member (codes "type") [] w)) (type_set default kind (parents_said f.key (default_parent kind) (type_json kind)) (new_entry f.key kind))
    ∙ bodied)

trees-tree_list : (ts : Trees) → trees (tree_list ts) ≡ ts
trees-tree_list no_trees = refl
trees-tree_list (one_more t ts) = ap (one_more t) (trees-tree_list ts)

-- these parents, of which nothing is lost
abbrev only : List Tree → ParentsView
only ts = record { entries = ts; lost = [] }

first_item : (key : List ℕ) (default : EntryType) (n : ℕ) (t : Tree) (ts : Trees) → entry_said key (Some default) (json_of (Some key) t) ≡ Ok (entry_alone t)
    → items_said key default (n + 1) (item_list key ts) ≡ only (tree_list ts) → items_said key default n (json.item (json_of (Some key) t) (item_list key ts)) ≡ only (t ∷ tree_list ts)
first_item key default n t ts first rest =
    ap (λ r. with_item n r (items_said key default (n + 1) (item_list key ts))) first
    ∙ ap (λ qs. with_item n (Ok (entry_alone t)) qs) rest

-- the parents are set
parents_set : (key : List ℕ) (default : Option EntryType) (kind : EntryType) (j : Json) (f : Fields) (ps : List Tree) → is_null j ≡ false → parents_said key (default_parent kind) j ≡ only ps
    → members_said key default kind (json.member (codes "parent") j json.no_members) (entry_alone (node f no_trees)) ≡ entry_alone (with_parents ps (node f no_trees))
parents_set key default kind j f ps solid said = rw (solid, said) refl

some_back : (key : List ℕ) (default : Option EntryType) (kind : EntryType) (t : Tree) (ts : Trees) (f : Fields)
    → entry_said key (Some (default_parent kind)) (json_of (Some key) t) ≡ Ok (entry_alone t)
    → items_said key (default_parent kind) (0 + 1) (item_list key ts) ≡ only (tree_list ts)
    → members_said key default kind (parent_members key (one_more t ts)) (entry_alone (node f no_trees)) ≡ entry_alone (node f (one_more t ts))
some_back key default kind (node g qs) no_trees f first rest =
    parents_set key default kind (json_of (Some key) (node g qs)) f (node g qs ∷ []) refl (alone_said first)
  where
    alone_said : entry_said key (Some (default_parent kind)) (json_of (Some key) (node g qs)) ≡ Ok (entry_alone (node g qs)) → parents_said key (default_parent kind) (json_of (Some key) (node g qs)) ≡ only (node g qs ∷ [])
    alone_said h = ap one_parent (ok_same h)
some_back key default kind t (one_more u us) f first rest =
    parents_set key default kind (json.array (item_list key (one_more t (one_more u us)))) f (t ∷ tree_list (one_more u us)) refl (first_item key (default_parent kind) 0 t (one_more u us) first rest)
    ∙ ap (λ qs. entry_alone (node f (one_more t qs))) (trees-tree_list (one_more u us))

mutual
  pub parent_back : (key : List ℕ) (default : EntryType) (t : Tree) → TreeIsBack t → entry_said key (Some default) (json_of (Some key) t) ≡ Ok (entry_alone t)
  parent_back key default (node f ps) back =
      by (fields_back f.key (Some default) f.entry_type f _ back.0 ∙ parents_back f.key (Some default) f.entry_type ps f back.1) (bytes_eq key f.key) refl
    where
      by : members_said f.key (Some default) f.entry_type (body f ps) (entry_alone (new_entry f.key f.entry_type)) ≡ entry_alone (node f ps) → (b : Bool) → bytes_eq key f.key ≡ b
          → entry_said key (Some default) (json.object (all_members f ps (if b then None else Some f.key))) ≡ Ok (entry_alone (node f ps))
      by bodied true same = from_members key (Some default) f ps None (rw (no_field_key f (parent_members f.key ps) (no_parent_key f.key ps)) ((bytes_eq-Decides key f.key).0 same)) bodied
      by bodied false other = from_members key (Some default) f ps (Some f.key) (rw (no_field_key f (parent_members f.key ps) (no_parent_key f.key ps)) refl) bodied

  parents_back : (key : List ℕ) (default : Option EntryType) (kind : EntryType) (ps : Trees) (f : Fields) → TreesAreBack ps
      → members_said key default kind (parent_members key ps) (entry_alone (node f no_trees)) ≡ entry_alone (node f ps)
  parents_back key default kind no_trees f back = refl
  parents_back key default kind (one_more t ts) f back =
      some_back key default kind t ts f (parent_back key (default_parent kind) t back.0) (items_back key (default_parent kind) (0 + 1) ts back.1)

  items_back : (key : List ℕ) (default : EntryType) (n : ℕ) (ts : Trees) → TreesAreBack ts → items_said key default n (item_list key ts) ≡ only (tree_list ts)
  items_back key default n no_trees back = refl
  items_back key default n (one_more t ts) back =
      first_item key default n t ts (parent_back key default t back.0) (items_back key default (n + 1) ts back.1)

-- what is printed of an entry of a library is read as the entry, and nothing is lost of it
pub all_back : (t : Tree) → TreeIsBack t → entry_said (fields t).key None (json_of None t) ≡ Ok (entry_alone t)
all_back (node f ps) back =
    from_members f.key None f ps None refl (fields_back f.key None f.entry_type f _ back.0 ∙ parents_back f.key None f.entry_type ps f back.1)

pub entry_back : (t : Tree) → TreeIsBack t → entry_of (fields t).key None (json_of None t) ≡ Ok t
entry_back t back = ap (λ r. and_then r (λ v. Ok v.entry)) (all_back t back)

members_back : (ts : List Tree) → EntriesAreBack ts → entries_of (library_members ts) ≡ Ok ts
members_back [] back = refl
members_back (t ∷ ts) back =
    ap (λ r. and_then (within (to_member (fields t).key) r) (λ u. and_then (entries_of (library_members ts)) (λ us. Ok (u ∷ us)))) (entry_back t back.0)
    ∙ ap (λ r. and_then r (λ us. Ok (t ∷ us))) (members_back ts back.1)

-- the JSON of a library says the library
pub library_back : (ts : List Tree) → EntriesAreBack ts → library_of (library_json ts) ≡ Ok ts
library_back ts back = members_back ts back

-- and nothing is told of it
pub none_told : (ts : List Tree) → EntriesAreBack ts → entries_told (library_members ts) ≡ []
none_told [] back = refl
none_told (t ∷ ts) back = rw (all_back t back.0, none_told ts back.1) refl
