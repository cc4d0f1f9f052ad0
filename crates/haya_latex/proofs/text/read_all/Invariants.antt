use Rattle.std.proofs.Common.{◌≡◌, ◌+◌, ◌≤◌, length}
use Rattle.haya_latex.specs.Reading.{read, read_all}
use Rattle.haya_latex.specs.ReadingViews.{braces, reader_view}
use Rattle.haya_latex.proofs.text.read_all.Given as goal

-- the reader reads what is left to the end of the text's; no more braces are open than were read
abbrev pub invariant-tokens : goal.invariant-tokens
invariant-tokens l = record {
  reads : read_all l.fn.kind l.text ≡ read 0 (reader_view l.reader) l.left;
  braces : braces (reader_view l.reader) + length l.left ≤ length l.text;
}

abbrev pub decreases-tokens : goal.decreases-tokens
decreases-tokens l = length l.left
