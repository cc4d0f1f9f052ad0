use Rattle.std.specs.Vec.Iter.{into_iter_items}
use Rattle.std.proofs.Common.{◌≡◌, ◌++◌}
use Rattle.haya_json.specs.Notes.{all_behind, losts_view}
use Rattle.haya_json.specs.Refusal.{to_member}
use Rattle.haya_json.proofs.losts.all_in_member.Given as goal

-- those so far, and then those left, are all of them
abbrev pub invariant-losts : goal.invariant-losts
invariant-losts l =
    losts_view l.all.items ++ all_behind (to_member l.name) (losts_view (into_iter_items l.lost-iterator))
    ≡ all_behind (to_member l.name) (losts_view l.fn.losts.items)
