use Rattle.std.proofs.Common.{◌≡◌, [], drop}
use Rattle.json.specs.Value.{items_view}
use Rattle.haya_json.specs.Notes.{all_kept, notes_view}
use Rattle.haya_csl.specs.Libraries.{items_pushed}
use Rattle.haya_csl.specs.Told.{items_told}
use Rattle.haya_csl.proofs.libraries.read_items.Given as goal

-- the library of all items is what those left make of the library so far, and what is kept of the
-- notes of all is what is kept so far, and then of those left
abbrev pub invariant-items : goal.invariant-items
invariant-items l = record {
  library :
      items_pushed l.by [] 0 (items_view l.items.items)
      ≡ items_pushed l.by l.library l.place (items_view (drop l.place l.items.items));
  notes :
      all_kept (items_told l.by [] (items_view l.items.items)) (notes_view l.initial.notes)
      ≡ all_kept (items_told l.by l.library (items_view (drop l.place l.items.items))) (notes_view l.notes);
}
