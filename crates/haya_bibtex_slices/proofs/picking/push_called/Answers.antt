use Rattle.std.proofs.Common.{◌≡◌, true, arith}
use Rattle.haya_bibtex_slices.proofs.Picked.{called_from}
use Rattle.haya_bibtex_slices.proofs.picking.push_called.Goals as goal

pub returns : goal.returns
returns c so =
    let called : c.is_called.result ≡ true = grind (arith, c.if-not-is_called.false) in
    called_from c.args.items.now c.args.place c.index-items-place.result c.args.key.now _ _ (omega arith) c.index-items-place.is
    (c.is_called.ensures called) c.in_ok-push.ensures.items
