use Rattle.std.proofs.Common.{Some, sym, ap, ◌∙◌}
use Rattle.haya_questions.proofs.QuoteLemmas.{unquoted-bare}
use Rattle.haya_questions.proofs.test_text.unquoted.Goals as goal

pub returns-in_ok-from_str-in-None : goal.returns-in_ok-from_str-in-None
returns-in_ok-from_str-in-None c = ap Some c.in_ok-from_str-in-None.ensures.ok ∙ sym (unquoted-bare c.args.text.now c.in-None.ensures.cases)
