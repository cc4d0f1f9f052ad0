use Rattle.std.proofs.Common.{◌≡◌, ◌++◌, drop, map}
use Rattle.json.specs.Tree.{members_tokens}
use Rattle.hayagriva.specs.Query.{hit_entry}
use Rattle.haya_json.specs.Printed.{library_members}
use Rattle.haya_command.proofs.printing.write_entries.Given as goal

-- what is written and what is left are what was written and all
abbrev pub invariant-hits : goal.invariant-hits
invariant-hits l =
    (l.out.before ≡ l.initial.out.before)
    × (l.out.tokens ++ members_tokens (library_members (map hit_entry (drop l.hit-index l.hits)))
    ≡ l.initial.out.tokens ++ members_tokens (library_members (map hit_entry l.hits)))
