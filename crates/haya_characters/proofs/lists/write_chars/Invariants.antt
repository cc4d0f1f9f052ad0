use Rattle.std.proofs.Common.{◌≡◌, ◌≤◌, length, take}
use Rattle.haya_characters.proofs.lists.write_chars.Given as goal

-- the characters so far are those that were given
abbrev pub invariant-chars : goal.invariant-chars
invariant-chars l = record {
  chars : take l.count l.room ≡ l.yielded;
  within : l.count ≤ length l.room;
}
