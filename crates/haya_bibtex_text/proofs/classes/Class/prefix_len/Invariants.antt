use Rattle.std.proofs.Common.{◌≡◌, ◌+◌, drop}
use Rattle.std.specs.List.{prefix_len}
use Rattle.haya_bibtex_text.specs.Classes.{contains}
use Rattle.haya_bibtex_text.proofs.classes.Class.prefix_len.Given as goal

-- the characters so far belong to it
abbrev pub invariant-characters : goal.invariant-characters
invariant-characters l = record {
  len : prefix_len (contains l.self) l.text
      ≡ l.count + prefix_len (contains l.self) (drop l.c-index l.text);
  count : l.count ≡ l.c-index;
}
