use Rattle.haya_latex.proofs.LiteralTexts.{one_run}
use Rattle.haya_latex.proofs.text.one_run.Goals as goal

pub returns-clause-bytes : goal.returns-clause-bytes
returns-clause-bytes c =
    one_run c.in_ok-from_str.field-0 c.push.new.self.items c.args.text.now (rw c.in_ok-runs.ensures.items at c.in_ok-push.ensures.items)
    c.in_ok-from_str.ensures.ok c.requires.bytes
