-- What an entry says: the entry of its fields, with the parents that they make, and what is passed
-- over.
use Rattle.std.specs.Prelude.{ℕ, ◌++◌, not, List, [], ◌∷◌, filter, fold, map, is_some, Option, string_bytes, if◌then◌else◌}
use Rattle.haya_entry.specs.Tree.{Tree, new_entry, view}
use Rattle.haya_bibtex_inherited.specs.Entries.{EntryBytes, FieldBytes}
use Rattle.haya_bibtex_entries.specs.Dates.{date_rows}
use Rattle.haya_bibtex_entries.specs.Drafts.{RowView, SoFar, draft_of, entry_made, with_rows}
use Rattle.haya_bibtex_entries.specs.Kinds.{kind_named, kind_of}
use Rattle.haya_bibtex_entries.specs.Numbers.{number_rows, own_number_rows}
use Rattle.haya_bibtex_entries.specs.People.{people_rows}
use Rattle.haya_bibtex_entries.specs.Places.{is_placed}
use Rattle.haya_bibtex_entries.specs.Publishers.{publisher_rows}
use Rattle.haya_bibtex_entries.specs.Serials.{archive_rows, plain_rows}
use Rattle.haya_bibtex_entries.specs.Sources.{source_rows}
use Rattle.haya_bibtex_entries.specs.Titles.{other_title_rows, title_rows}
use Rattle.haya_bibtex_entries.specs.declared.kinds.Kind.{Kind}
use Rattle.haya_bibtex_entries.specs.declared.reading.Reading.{Reading}

-- the table of all fields, part by part, of an entry of this type
abbrev pub tables : List ℕ → Kind → List FieldBytes → List (List (Option RowView))
tables name k fs =
    title_rows k fs
    ∷ other_title_rows k fs
    ∷ people_rows k fs
    ∷ publisher_rows k fs
    ∷ number_rows k fs
    ∷ own_number_rows fs
    ∷ archive_rows k fs
    ∷ plain_rows k fs
    ∷ date_rows k fs
    ∷ source_rows name fs
    ∷ []

-- a type that isn't known is passed over, with the sign `@` in front
abbrev pub type_passed : List ℕ → List FieldBytes → List (List ℕ)
type_passed name fs = if is_some (kind_named name fs) then [] else (64 ∷ name) ∷ []

-- the names of the fields that have no place
abbrev pub unplaced_of : Kind → List FieldBytes → List FieldBytes → List (List ℕ)
unplaced_of k fs those = filter (λ n. not (is_placed k fs n)) (map (λ f. f.name) those)

abbrev pub unplaced : Kind → List FieldBytes → List (List ℕ)
unplaced k fs = unplaced_of k fs fs

-- the entry with its key and type alone
abbrev pub at_first : EntryBytes → Kind → SoFar
at_first e k = record {
  draft = draft_of (new_entry e.key k.entry);
  passed_over = type_passed e.kind e.fields ++ unplaced k e.fields;
}

-- all rows of the tables, in order
abbrev pub filled : EntryBytes → Kind → SoFar
filled e k = fold (λ s rows. with_rows e.key rows s) (at_first e k) (tables e.kind k e.fields)

-- what an entry says, and the names under which something of it is passed over
pub record EntrySaid : Type 0 where
  pub entry : Tree
  pub passed_over : List (List ℕ)

abbrev pub said_of : SoFar → EntrySaid
said_of s = record { entry = entry_made s.draft; passed_over = s.passed_over }

unfoldable pub entry_said : EntryBytes → EntrySaid
entry_said e = said_of (filled e (kind_of e.kind e.fields))

-- ---- of the code's values

abbrev pub reading_view : Reading → EntrySaid
reading_view r =
    record { entry = view r.entry; passed_over = map string_bytes r.passed_over.items }
