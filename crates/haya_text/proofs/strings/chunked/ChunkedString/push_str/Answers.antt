use Rattle.std.proofs.Common.{ap, sym, ◌∙◌}
use Rattle.std.proofs.lemmas.Result.{on_ok_weaker}
use Rattle.haya_text.specs.Chunks.{characters, chunks}
use Rattle.haya_text.proofs.Pushes.{AllUtf8-chunks, characters-grow_last}
use Rattle.haya_text.proofs.strings.chunked.ChunkedString.push_str.Goals as goal

pub returns-then-ends_in-clause-grows : goal.returns-then-ends_in-clause-grows
returns-then-ends_in-clause-grows c =
    on_ok_weaker c.grow_last.result (λ e. ap characters e ∙ characters-grow_last (chunks c.args.self.now) c.args.text.now c.args.kind (AllUtf8-chunks c.args.self.now.0.items) (sym c.if-ends_in.ensures)) c.grow_last.ensures.ok
