use Rattle.std.proofs.Common.{◌≡◌, vec_len}
use Rattle.haya_bibtex_inherited.proofs.Leaving.{IsLeaving}
use Rattle.haya_bibtex_inherited.proofs.search.leave.Given as goal

abbrev pub invariant-way : goal.invariant-way
invariant-way l = record {
  leaving : IsLeaving l.fn.search.places.items l.fn.search.way.items l.fn.search.order.items l.start l.search.places.items l.search.way.items l.search.order.items;
  rank : l.rank ≡ vec_len l.fn.search.order;
  starts : l.search.starts.items ≡ l.fn.search.starts.items;
  arrows : l.search.arrows.items ≡ l.fn.search.arrows.items;
}

abbrev pub decreases-way : goal.decreases-way
decreases-way l = vec_len l.search.way
