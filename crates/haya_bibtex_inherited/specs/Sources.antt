-- Sources of entries by value.
use Rattle.std.specs.Prelude.{◌≡◌, ℕ, List, Vec, map}
use Rattle.std.specs.BTreeMap.{BTreeMap, get_by}
use Rattle.std.specs.Borrow.{Bor}
use Rattle.std.specs.Cmp.Lexicographic.{slice_cmp}
use Rattle.std.specs.Ordering.{nat_cmp}
use Rattle.haya_bibtex_inherited.specs.Entries.{EntryBytes}
use Rattle.haya_bibtex_inherited.specs.Inherited.{Source}
use Rattle.haya_bibtex_inherited.specs.References.{position_of}
use Rattle.haya_bibtex_inherited.specs.declared.source.Source.{Source as FoundSource}

abbrev pub source_view : FoundSource → Source
source_view s = record {
  link = s.reference.link;
  key = s.reference.key.now;
  position = s.position;
}

abbrev pub sources_view : List FoundSource → List Source
sources_view ss = map source_view ss

abbrev pub all_sources_view : {Z : Type 0} → List (Vec FoundSource Z) → List (List Source)
all_sources_view all = map (λ v. sources_view v.items) all

-- the map has for each key the place of the first entry that has it
abbrev pub ArePositions : List EntryBytes → BTreeMap (Bor (List ℕ)) ℕ → Type 0
ArePositions es m = (key : List ℕ) →
    get_by (λ k. slice_cmp nat_cmp key k.now) m ≡ position_of es key
