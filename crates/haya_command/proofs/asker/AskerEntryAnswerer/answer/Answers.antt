use Rattle.std.proofs.Common.{[], refl, sym, append-nil}
use Rattle.std.specs.Prelude.{string_bytes}
use Rattle.hayagriva.specs.Tree.{view}
use Rattle.haya_command.proofs.Streams.{asked_hit, asked_none, on_ok_both}
use Rattle.haya_command.proofs.asker.AskerEntryAnswerer.answer.Goals as goal

pub returns-in-Ok-Some-clause-answers : goal.returns-in-Ok-Some-clause-answers
returns-in-Ok-Some-clause-answers c =
    let applied = rw c.in-Ok-Some.field-0-is at c.in-Ok-Some.ensures.answer in
    on_ok_both c.take.result
    (λ told count. (
      told.0,
      asked_hit c.args.self.now.options.now _ c.args.self.now.selector _ c.args.self.now.hits _ (view c.args.entry.now) _ told.0 applied.0 (record { entry = refl; bindings = applied.1 }) told.1 count
          (search c.take.ensures.options) c.take.ensures.selector,
      told.2,
    ))
    c.take.ensures.told c.take.ensures.count

pub returns-in-Ok-None-clause-answers : goal.returns-in-Ok-None-clause-answers
returns-in-Ok-None-clause-answers c =
    let applied = rw c.in-Ok-None.field-0-is at c.in-Ok-None.ensures.answer in (
      [],
      asked_none c.args.self.now.options.now c.args.self.now.selector c.args.self.now.hits (view c.args.entry.now) c.args.self.now.streams applied,
      sym (append-nil (string_bytes c.args.printed.now)),
    )
