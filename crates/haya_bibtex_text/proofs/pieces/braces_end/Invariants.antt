use Rattle.std.proofs.Common.{◌≡◌, ◌≤◌, ◌+◌, drop}
use Rattle.haya_bibtex_text.specs.Groups.{end_in, end_of}
use Rattle.haya_bibtex_text.specs.Signs.{close_brace}
use Rattle.haya_bibtex_text.proofs.Ends.{ends_later}
use Rattle.haya_bibtex_text.proofs.pieces.braces_end.Given as goal

-- the text ends where the rest does, so many characters later
abbrev pub invariant-characters : goal.invariant-characters
invariant-characters l = record {
  end : end_of close_brace l.text ≡ ends_later l.count (end_in close_brace l.depth (drop l.c-index l.rest));
  count : l.count ≡ l.initial.count + l.c-index;
  depth : l.depth ≤ l.c-index;
}
