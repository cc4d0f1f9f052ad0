use Rattle.std.proofs.Common.{[], refl}
use Rattle.haya_command.specs.Streamed.{end_text}
use Rattle.haya_command.proofs.Streams.{appends_none, on_err}
use Rattle.haya_command.proofs.asker.end_asking.Goals as goal

-- no memory for the line: nothing is printed
pub returns-in_err-line-clause-begun : goal.returns-in_err-line-clause-begun
returns-in_err-line-clause-begun g c =
    on_err c.from_residual.result ([], end_text c.args.asker.options.now c.args.asker.hits, refl, appends_none (g.W.Write.contents c.args.out.now))
