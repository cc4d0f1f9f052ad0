-- The entries that one entry makes: its own, and the parents that its fields go to.
use Rattle.std.specs.Prelude.{ℕ, List, [], ◌∷◌, ◌++◌, Option, None, Some, fold, map, string_bytes}
use Rattle.haya_entry.specs.Tree.{Tree, new_entry, view, with_parents}
use Rattle.haya_entry.specs.declared.types.EntryType.{EntryType}
use Rattle.haya_entry.specs.declared.types.EntryType.TheVariants as type
use Rattle.haya_bibtex_entries.specs.Values.{FieldValue, with_value}
use Rattle.haya_bibtex_entries.specs.declared.draft.Draft.{Draft}
use Rattle.haya_bibtex_entries.specs.declared.draft.Level.{Level}
use Rattle.haya_bibtex_entries.specs.declared.draft.Level.TheVariants as level

-- the entry's own, and each parent that a field went to: none, or one
pub record DraftView : Type 0 where
  pub own : Tree
  pub host : List Tree
  pub conference : List Tree
  pub main : List Tree
  pub series : List Tree
  pub original : List Tree

-- an entry of its own, and no parents
abbrev pub draft_of : Tree → DraftView
draft_of own = record {
  own = own;
  host = [];
  conference = [];
  main = [];
  series = [];
  original = [];
}

-- a parent with a value, which is made where it isn't there yet
abbrev pub parent_with : List ℕ → EntryType → FieldValue → List Tree → List Tree
parent_with key kind v [] = with_value v (new_entry key kind) ∷ []
parent_with key kind v (t ∷ ts) = with_value v t ∷ ts

-- a value goes to one of the entries
abbrev pub draft_with : List ℕ → Level → FieldValue → DraftView → DraftView
draft_with key level.Own v d = record d { own = with_value v d.own }
draft_with key (level.Host kind) v d = record d { host = parent_with key kind v d.host }
draft_with key level.Conference v d =
    record d { conference = parent_with key type.Conference v d.conference }
draft_with key level.Main v d = record d { main = parent_with key type.Anthology v d.main }
draft_with key level.Series v d = record d { series = parent_with key type.Anthology v d.series }
draft_with key level.Original v d =
    record d { original = parent_with key type.Original v d.original }

-- an entry in these parents, and they alone where there is none
abbrev pub below : List Tree → List Tree → List Tree
below [] parents = parents
below (t ∷ ts) parents = with_parents parents t ∷ ts

-- The entry appears in its host, that at the conference, that in the work of several volumes, and
-- that in the series, as far as they are made. The original comes last among the entry's parents.
abbrev pub parents_made : DraftView → List Tree
parents_made d = below d.host (below d.conference (below d.main d.series)) ++ d.original

abbrev pub entry_made : DraftView → Tree
entry_made d = with_parents (parents_made d) d.own

-- ---- rows: what some fields say together

-- a value, if they say one, to which entry it goes, and the names under which something of them is
-- passed over
pub record RowView : Type 0 where
  pub level : Level
  pub value : Option FieldValue
  pub passed_over : List (List ℕ)

-- the entries so far, and all that is passed over
pub record SoFar : Type 0 where
  pub draft : DraftView
  pub passed_over : List (List ℕ)

abbrev pub draft_with_any : List ℕ → Level → Option FieldValue → DraftView → DraftView
draft_with_any key l None d = d
draft_with_any key l (Some v) d = draft_with key l v d

abbrev pub with_row : List ℕ → RowView → SoFar → SoFar
with_row key r s = record {
  draft = draft_with_any key r.level r.value s.draft;
  passed_over = s.passed_over ++ r.passed_over;
}

-- a row that isn't there changes nothing
abbrev pub with_any_row : List ℕ → Option RowView → SoFar → SoFar
with_any_row key None s = s
with_any_row key (Some r) s = with_row key r s

abbrev pub with_rows : List ℕ → List (Option RowView) → SoFar → SoFar
with_rows key rows s = fold (λ so_far r. with_any_row key r so_far) s rows

-- ---- of the code's values

abbrev pub draft_view : Draft → DraftView
draft_view d = record {
  own = view d.own;
  host = map view d.host.items;
  conference = map view d.conference.items;
  main = map view d.main.items;
  series = map view d.series.items;
  original = map view d.original.items;
}

abbrev pub so_far : Draft → SoFar
so_far d = record { draft = draft_view d; passed_over = map string_bytes d.passed_over.items }
