use Rattle.std.proofs.Common.{◌≡◌, ◌+◌, ◌≤◌, [], List, ℕ, None, get_or, true, sym, ◌∙◌, arith}
use Rattle.std.specs.Borrow.{Bor}
use Rattle.haya_yaml.specs.Spans.{is_as_deep}
use Rattle.haya_yaml.specs.declared.spans.Span.{Span}
use Rattle.haya_yaml.proofs.Depths.{passed}
use Rattle.haya_yaml.proofs.spans.as_deep.Goals as goal

pub lines-preserved : goal.lines-preserved
lines-preserved c =
    let none : Span = record { depth = None; more = 0 } in
    let empty : Bor (List ℕ) = record { ref_ptr = (0, 0); now = [] } in
    let depth = (get_or c.args.spans.now c.args.place none).depth in
    let at = c.lines.next in
    let to = c.saturating_add-next.result in
    let deep : is_as_deep depth (get_or c.args.spans.now at none).depth ≡ true = sym c.is_as_deep.ensures ∙ c.if-is_as_deep.true in
    let up : at ≤ to = omega (arith, c.saturating_add.ensures, c.saturating_add-next.ensures, c.lines.auto.next-fits.fits) in
    let last : to ≤ at + (get_or c.args.spans.now at none).more + 1 = omega (arith, c.saturating_add.ensures, c.saturating_add-next.ensures) in (
      omega (arith, c.lines.invariant.0, up),
      passed depth c.args.spans.now c.args.lines.now (c.args.place + 1) at to none empty c.requires.spans c.lines-test.true
          (omega (arith, c.lines.invariant.0)) up last deep c.lines.invariant.1,
    )
