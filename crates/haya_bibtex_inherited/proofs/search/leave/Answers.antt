use Rattle.std.proofs.Common.{refl, arith}
use Rattle.haya_bibtex_inherited.proofs.Leaving.{IsLeaving-more, IsLeaving-start, IsLeaving-known}
use Rattle.haya_bibtex_inherited.proofs.search.leave.Goals as goal

pub way-init : goal.way-init
way-init c = record {
  leaving = IsLeaving-start _ _ _ c.args.start c.requires.start c.requires.opened;
  rank = c.len-rank.ensures;
  starts = refl;
  arrows = refl;
}

pub index_mut-requires : goal.index_mut-requires
index_mut-requires c =
    let known = (IsLeaving-known _ _ _ _ _ _ _ _ c.in-Some.node c.requires.on_way c.way.invariant.leaving c.in-Some.ensures.1).2 in
    omega (arith, known, c.way.search.places.ok)

pub way-preserved : goal.way-preserved
way-preserved c = record {
  leaving = IsLeaving-more _ _ _ _ _ _ _ _ _ c.in-Some.node c.len-rank.result c.requires.on_way c.requires.opened c.way.invariant.leaving
      c.in-Some.ensures.0 c.in-Some.ensures.1 c.in_ok-push.ensures.items (omega (arith, c.len-rank.ensures, c.args.search.now.order.ok));
  rank = c.len-rank.ensures;
  starts = c.way.invariant.starts;
  arrows = c.way.invariant.arrows;
}
