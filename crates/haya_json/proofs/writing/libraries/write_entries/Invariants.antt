use Rattle.std.proofs.Common.{◌≡◌, ◌++◌}
use Rattle.json.specs.Tree.{members_tokens}
use Rattle.haya_json.specs.Printed.{library_members}
use Rattle.haya_json.proofs.writing.libraries.write_entries.Given as goal

-- what is written and what is left are what was written and all
abbrev pub invariant-entries : goal.invariant-entries
invariant-entries l =
    (l.out.before ≡ l.initial.out.before)
    × (l.out.tokens ++ members_tokens (library_members l.entry-iterator) ≡ l.initial.out.tokens ++ members_tokens (library_members l.library))
