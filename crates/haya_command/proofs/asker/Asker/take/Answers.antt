use Rattle.std.proofs.Common.{◌≡◌, false, map, sym, ◌∙◌, [], append-nil}
use Rattle.std.specs.Prelude.{string_bytes}
use Rattle.haya_asked.specs.Asked.{passes}
use Rattle.haya_questions.specs.Test.{test_view}
use Rattle.haya_command.proofs.Streams.{untold}
use Rattle.haya_command.proofs.asker.Asker.take.Goals as goal

pub returns-else-branch-clause-told : goal.returns-else-branch-clause-told
returns-else-branch-clause-told c =
    let options = c.args.self.now.options.now in
    let fails : passes (map test_view options.questions.tests.items) c.args.hit ≡ false = sym (rw c.as_slice.ensures.value at c.in_ok-passes.ensures) ∙ c.if-branch.false in (
      [],
      untold options c.args.hit (passes (map test_view options.questions.tests.items) c.args.hit) c.args.self.now.streams fails,
      sym (append-nil (string_bytes c.args.printed.now)),
    )
