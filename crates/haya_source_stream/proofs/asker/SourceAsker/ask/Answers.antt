use Rattle.std.proofs.Common.{refl}
use Rattle.std.specs.Prelude.{string_bytes}
use Rattle.std.proofs.lemmas.Result.{on_ok_weaker}
use Rattle.hayagriva.specs.Tree.{view}
use Rattle.haya_source_stream.proofs.Turns.{hit_told}
use Rattle.haya_source_stream.proofs.asker.SourceAsker.ask.Goals as goal

pub returns-in-Ok-Some-clause-tells : goal.returns-in-Ok-Some-clause-tells
returns-in-Ok-Some-clause-tells c =
    let applied = rw c.in-Ok-Some.field-0-is at c.in-Ok-Some.ensures.answer in
    on_ok_weaker c.take.result
    (λ told. hit_told c.args.self.now.asking c.args.self.now.hits c.take.new.self.hits c.args.part.now
    (view c.args.entry.now) _ (string_bytes c.args.printed.now) (string_bytes c.take.new.printed)
    applied.0 (record { entry = refl; bindings = applied.1 }) told)
    c.take.ensures.tells
