-- What is printed of a library whose values are as their types say can be read as JSON.
use Rattle.std.proofs.Common.{◌≡◌, ◌≢◌, ◌≤◌, ℕ, List, [], ◌∷◌, Option, None, Some, refl, sym, ap, subst}
use Rattle.std.specs.Prelude.{codes, map, IfSome}
use Rattle.std.specs.List.{AllPairs}
use Rattle.json.specs.Json as json
use Rattle.json.specs.Json.{Members, max_depth}
use Rattle.json.specs.Strict.{keys}
use Rattle.json.specs.Tree.{depth as nesting}
use Rattle.haya_text.specs.Texts.{TextView}
use Rattle.haya_time.specs.DurationPrint.{duration_text, range_text}
use Rattle.haya_entry.specs.Tree.{Tree, Trees, Fields, node, no_trees, one_more}
use Rattle.haya_entry.specs.declared.types.EntryType.{EntryType}
use Rattle.hayagriva.specs.Library.{key_of, AreDistinct}
use Rattle.haya_json.specs.Printed.{one_or_many_json, format_json, person_json, roles_json, date_json, publisher_json, url_json, pages_json, typed_json, number_json, number_or_text_json, serial_json, type_json, key_of_its_own, field_members, json_of, parent_members, item_list, library_members, library_json}
use Rattle.haya_json.specs.ReadBack.{EntrySaysItself, SaysItself}
use Rattle.haya_json.specs.Readable.{FieldsAreReadable, TreeIsReadable, TreesAreReadable, EntriesAreReadable}
use Rattle.haya_json.proofs.EntriesBack.{entry_back, library_back}
use Rattle.haya_json.proofs.FieldsBack.{weaken, always, entries_back, tree_back}
use Rattle.haya_json.proofs.Sounds.{IsSound, MembersAreSound, ItemsAreSound, among_none, among_gone, Built, built_none, built_one, built_also, object_sound, text_sound, format_sound, persons_sound, affiliated_sound, date_sound, publisher_sound, url_sound, number_sound, number_or_text_sound, pages_sound, typed_sound, serial_sound}

-- the names of the fields, and then these
abbrev field_names : List (List ℕ) → List (List ℕ)
field_names ns =
    codes "title" ∷ codes "location" ∷ codes "organization" ∷ codes "archive" ∷ codes "archive-location" ∷ codes "call-number" ∷ codes "note" ∷ codes "abstract" ∷ codes "genre"
    ∷ codes "author" ∷ codes "editor" ∷ codes "affiliated" ∷ codes "date" ∷ codes "publisher" ∷ codes "url" ∷ codes "issue" ∷ codes "chapter" ∷ codes "volume" ∷ codes "edition"
    ∷ codes "volume-total" ∷ codes "page-total" ∷ codes "page-range" ∷ codes "time-range" ∷ codes "runtime" ∷ codes "serial-number" ∷ codes "language" ∷ ns

built_fields : (f : Fields) {ms : Members} {ns : List (List ℕ)} → FieldsAreReadable f → Built ms ns → Built (field_members f ms) (field_names ns)
built_fields f r rest =
    built_also (codes "title") format_json f.title (texts f.title)
    (built_also (codes "location") format_json f.location (texts f.location)
    (built_also (codes "organization") format_json f.organization (texts f.organization)
    (built_also (codes "archive") format_json f.archive (texts f.archive)
    (built_also (codes "archive-location") format_json f.archive_location (texts f.archive_location)
    (built_also (codes "call-number") format_json f.call_number (texts f.call_number)
    (built_also (codes "note") format_json f.note (texts f.note)
    (built_also (codes "abstract") format_json f.abstract_ (texts f.abstract_)
    (built_also (codes "genre") format_json f.genre (texts f.genre)
    (built_also (codes "author") (one_or_many_json person_json) f.authors (always (λ v. IsSound ((one_or_many_json person_json) v)) f.authors persons_sound)
    (built_also (codes "editor") (one_or_many_json person_json) f.editors (always (λ v. IsSound ((one_or_many_json person_json) v)) f.editors persons_sound)
    (built_also (codes "affiliated") (one_or_many_json roles_json) f.affiliated (always (λ v. IsSound ((one_or_many_json roles_json) v)) f.affiliated affiliated_sound)
    (built_also (codes "date") date_json f.date (weaken _ (λ v. IsSound (date_json v)) f.date date_sound r.date)
    (built_also (codes "publisher") publisher_json f.publisher (always (λ v. IsSound (publisher_json v)) f.publisher publisher_sound)
    (built_also (codes "url") url_json f.url (weaken _ (λ v. IsSound (url_json v)) f.url url_sound r.url)
    (built_also (codes "issue") number_or_text_json f.issue (weaken _ (λ v. IsSound (number_or_text_json v)) f.issue number_or_text_sound r.issue)
    (built_also (codes "chapter") number_or_text_json f.chapter (weaken _ (λ v. IsSound (number_or_text_json v)) f.chapter number_or_text_sound r.chapter)
    (built_also (codes "volume") number_or_text_json f.volume (weaken _ (λ v. IsSound (number_or_text_json v)) f.volume number_or_text_sound r.volume)
    (built_also (codes "edition") number_or_text_json f.edition (weaken _ (λ v. IsSound (number_or_text_json v)) f.edition number_or_text_sound r.edition)
    (built_also (codes "volume-total") number_json f.volume_total (weaken _ (λ v. IsSound (number_json v)) f.volume_total number_sound r.volume_total)
    (built_also (codes "page-total") number_json f.page_total (weaken _ (λ v. IsSound (number_json v)) f.page_total number_sound r.page_total)
    (built_also (codes "page-range") pages_json f.page_range (weaken _ (λ v. IsSound (pages_json v)) f.page_range pages_sound r.page_range)
    (built_also (codes "time-range") (typed_json range_text) f.time_range (always (λ v. IsSound ((typed_json range_text) v)) f.time_range (typed_sound range_text))
    (built_also (codes "runtime") (typed_json duration_text) f.runtime (always (λ v. IsSound ((typed_json duration_text) v)) f.runtime (typed_sound duration_text))
    (built_also (codes "serial-number") serial_json f.serial_number (weaken _ (λ v. IsSound (serial_json v)) f.serial_number serial_sound r.serial_number)
    (built_also (codes "language") json.string f.language (always (λ v. IsSound (json.string v)) f.language text_sound)
    rest)))))))))))))))))))))))))
  where
    texts : (o : Option TextView) → IfSome o (λ v. IsSound (format_json v))
    texts o = always (λ v. IsSound (format_json v)) o format_sound

type_sound : (kind : EntryType) → IsSound (type_json kind)
unfolding type_json
type_sound kind = (tt, tt)

mutual
  tree_sound : (below : Option (List ℕ)) (t : Tree) → TreeIsReadable t → IsSound (json_of below t)
  tree_sound below (node f ps) r =
      let own = key_of_its_own below f.key in
      object_sound
      (built_one (codes "type") (type_json f.entry_type) (type_sound f.entry_type)
      (built_also (codes "key") json.string own (always (λ v. IsSound (json.string v)) own text_sound) (built_fields f r.0 (built_parents f.key ps r.1))))
      refl

  built_parents : (key : List ℕ) (ps : Trees) → TreesAreReadable ps → Built (parent_members key ps) (codes "parent" ∷ [])
  built_parents key no_trees r = record { among = among_gone _ _ _ among_none; sound = (tt, tt) }
  built_parents key (one_more t no_trees) r = built_one (codes "parent") (json_of (Some key) t) (tree_sound (Some key) t r.0) built_none
  built_parents key (one_more t (one_more u us)) r =
      let one = tree_sound (Some key) t r.0 in
      let rest = list_sound key (one_more u us) r.1 in
      built_one (codes "parent") (json.array (json.item (json_of (Some key) t) (item_list key (one_more u us)))) ((one.0, rest.0), (one.1, rest.1)) built_none

  list_sound : (key : List ℕ) (ts : Trees) → TreesAreReadable ts → ItemsAreSound (item_list key ts)
  list_sound key no_trees r = (tt, tt)
  list_sound key (one_more t ts) r =
      let one = tree_sound (Some key) t r.0 in
      let rest = list_sound key ts r.1 in
      ((one.0, rest.0), (one.1, rest.1))

-- an entry whose values are as their types say
pub entry_says_itself : (t : Tree) → TreeIsReadable t → EntrySaysItself t
entry_says_itself t r = let sound = tree_sound None t r in record { numbers = sound.0; unique = sound.1; read = entry_back t (tree_back t r) }

entries_sound : (ts : List Tree) → EntriesAreReadable ts → MembersAreSound (library_members ts)
entries_sound [] r = (tt, tt)
entries_sound (t ∷ ts) r =
    let one = tree_sound None t r.0 in
    let rest = entries_sound ts r.1 in
    ((one.0, rest.0), (one.1, rest.1))

library_keys : (ts : List Tree) → keys (library_members ts) ≡ map key_of ts
library_keys [] = refl
library_keys (t ∷ ts) = ap (λ ks. key_of t ∷ ks) (library_keys ts)

-- a library whose values are as their types say
pub says_itself : (library : List Tree) → EntriesAreReadable library → AreDistinct library → nesting (library_json library) ≤ max_depth → SaysItself library
says_itself library r distinct shallow =
    let members = entries_sound library r in
    record {
      nests = shallow;
      numbers = members.0;
      unique = (subst (AllPairs (λ a b. a ≢ b)) (sym (library_keys library)) distinct, members.1);
      read = library_back library (entries_back library r);
    }
