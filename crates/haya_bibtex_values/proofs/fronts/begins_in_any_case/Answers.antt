use Rattle.std.proofs.Common.{sym, ◌∙◌}
use Rattle.haya_bibtex_values.proofs.ShortTexts.{none_left_in_any_case}
use Rattle.haya_bibtex_values.proofs.fronts.begins_in_any_case.Goals as goal

pub returns-in_default : goal.returns-in_default
returns-in_default c =
    sym (c.bytes.invariant ∙ none_left_in_any_case c.args.front.now c.bytes.left.now c.bytes.byte-index c.bytes-test.true (rw c.in_default.is at c.split_first.ensures.cases))
