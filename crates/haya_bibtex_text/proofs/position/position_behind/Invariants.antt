use Rattle.std.proofs.Common.{◌≡◌, ◌+◌, ◌≤◌, drop, fold}
use Rattle.haya_bibtex_text.specs.Position.{behind_char, position_behind}
use Rattle.haya_bibtex_text.proofs.position.position_behind.Given as goal

-- the position behind the characters so far
abbrev pub invariant-characters : goal.invariant-characters
invariant-characters l = record {
  position : fold behind_char l.position (drop l.c-index l.front) ≡ position_behind l.front;
  line : l.position.line ≤ l.c-index + 1;
  column : l.position.column ≤ l.c-index + 1;
}
