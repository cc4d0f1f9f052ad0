use Rattle.std.specs.Vec.Iter.{into_iter_items}
use Rattle.std.proofs.Common.{◌≡◌}
use Rattle.haya_json.specs.Notes.{all_kept, losts_view, notes_under, notes_view}
use Rattle.haya_json.proofs.notes.Notes.add_all.Given as goal

-- what is kept so far, after the notes left, is what is kept after all
abbrev pub invariant-losts : goal.invariant-losts
invariant-losts l =
    all_kept (notes_under l.key (losts_view (into_iter_items l.lost-iterator))) (notes_view l.self)
    ≡ all_kept (notes_under l.key (losts_view l.fn.losts.items)) (notes_view l.fn.self)
