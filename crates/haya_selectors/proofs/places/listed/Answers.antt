use Rattle.std.proofs.Common.{◌∙◌, ap, arith, length, refl, sym}
use Rattle.std.specs.List.{range_with_len}
use Rattle.std.proofs.lemmas.Iterator.{items_from_collect, YieldsList-from_range}
use Rattle.std.proofs.lemmas.List.{length-map}
use Rattle.haya_entry.specs.Tree.{view}
use Rattle.haya_selectors.proofs.places.listed.Goals as goal

pub returns : goal.returns
returns c =
    let n = length c.args.parents.now in
    let e = items_from_collect _ c.collect.ensures.ran (YieldsList-from_range 0 n n refl (omega arith)) in
    (rw c.in_ok-collect.was at e) ∙ ap (range_with_len 0) (sym (length-map c.args.parents.now view))
