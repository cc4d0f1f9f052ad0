use Rattle.std.proofs.Common.{◌≡◌, ap, append-nil, map, subst, sym}
use Rattle.haya_entry.specs.Tree.{fields, node, trees, view}
use Rattle.haya_printing.specs.LeftOut.{Alone, IsPrintable, Over, named}
use Rattle.haya_printing.proofs.Leaving.{no_parents_over, parents_over}
use Rattle.haya_printing.proofs.printable.over_parents.Goals as goal

pub returns-then-branch : goal.returns-then-branch
returns-then-branch c =
    Over (view c.set_parents.new.self) (parents_over (map view c.args.parents.items) (view c.args.entry) (view c.set_parents.new.self) c.requires.alone c.set_parents.ensures)
    (c.in_ok-is_printable.ensures.yes c.if-branch.true) (sym (append-nil (named c.args.left_out.now)))

pub returns : goal.returns
returns c =
    let t = view c.args.entry in
    let ps = map view c.args.parents.items in
    let over : view c.set_parents.new.self ≡ node (fields t) (trees ps) = parents_over ps t (view c.set_parents.new.self) c.requires.alone c.set_parents.ensures in
    let alone = no_parents_over ps (map view c.new.result.items) t (view c.set_parents.new.self) (view c.set_parents-2.new.self) c.requires.alone c.set_parents.ensures (ap (map view) c.new.ensures.items) c.set_parents-2.ensures in
    Alone (view c.set_parents-2.new.self) alone.0 (subst IsPrintable (sym alone.1) c.requires.printable)
    (λ printable. c.in_ok-is_printable.ensures.no c.if-branch.false (subst IsPrintable (sym over) printable)) c.in_ok-name_part.ensures
