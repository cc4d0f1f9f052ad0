use Rattle.std.proofs.Common.{◌++◌, ◌∙◌, ap, arith}
use Rattle.std.specs.Prelude.{string_bytes}
use Rattle.haya_printing.proofs.EntryLines.{fed}
use Rattle.haya_printing.proofs.lines.push_line.Goals as goal

pub returns : goal.returns
returns c =
    fed (string_bytes c.args.lines.now) (string_bytes c.push_items.new.lines) (string_bytes c.push.new.self) _ c.in_ok-push_items.ensures
    (c.in_ok-push.ensures.bytes ∙ ap (λ l. string_bytes c.push_items.new.lines ++ l) (c.in_ok-push.ensures.ascii (omega arith)))
