use Rattle.std.proofs.Common.{◌≡◌, ◌++◌}
use Rattle.json.specs.Json.{Members}
use Rattle.json.specs.Tree.{members_tokens}
use Rattle.haya_hits.specs.Line.{names_of}
use Rattle.haya_command.specs.Printed.{name_members}
use Rattle.haya_command.proofs.json_line.write_names.Given as goal

-- the names so far are written
abbrev pub invariant-loop-name : goal.invariant-loop-name
invariant-loop-name l =
    (l.out.before ≡ l.initial.out.before)
    × ((ms : Members) → l.out.tokens ++ members_tokens ms ≡ l.initial.out.tokens ++ members_tokens (name_members (names_of l.yielded) ms))
