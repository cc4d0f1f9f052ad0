use Rattle.std.proofs.Common.{◌≡◌, ◌++◌}
use Rattle.haya_characters.proofs.lists.push_block.Given as goal

-- the characters so far are added
abbrev pub invariant-chars : goal.invariant-chars
invariant-chars l = l.list.items ≡ l.initial.list.items ++ l.yielded
