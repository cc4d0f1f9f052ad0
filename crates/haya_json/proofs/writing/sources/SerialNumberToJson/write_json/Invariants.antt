use Rattle.std.proofs.Common.{◌≡◌, ◌++◌, map}
use Rattle.json.specs.Tree.{members_tokens}
use Rattle.haya_entry.specs.SerialNumber.{serial_entry, several_serials}
use Rattle.haya_json.specs.Printed.{serial_members}
use Rattle.haya_json.proofs.writing.sources.SerialNumberToJson.write_json.Given as goal

-- what is written and what is left are what was written and all but an only one
abbrev pub invariant-numbers : goal.invariant-numbers
invariant-numbers l =
    (l.out.before ≡ l.initial.out.before)
    × (l.out.tokens ++ members_tokens (serial_members (map serial_entry l.key-iterator))
    ≡ l.initial.out.tokens ++ members_tokens (serial_members (several_serials l.self)))
