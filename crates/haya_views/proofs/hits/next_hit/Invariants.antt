use Rattle.std.proofs.Common.{◌≡◌}
use Rattle.haya_views.specs.Hits.{hits_from}
use Rattle.haya_views.proofs.hits.next_hit.Given as goal

-- the hits from here on are those from the first place on
abbrev pub invariant-missed : goal.invariant-missed
invariant-missed l = hits_from l.selector l.library l.from ≡ hits_from l.selector l.library l.place
