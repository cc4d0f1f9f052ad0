use Rattle.std.proofs.Common.{◌≡◌, drop}
use Rattle.haya_latex.specs.Reading.{put_text}
use Rattle.haya_latex.specs.ReadingViews.{reader_view}
use Rattle.haya_latex.proofs.readers.put_text.Given as goal

-- the rest of the text is still to be written
abbrev pub invariant-chars : goal.invariant-chars
invariant-chars l = put_text l.text l.kind (reader_view l.initial.reader) ≡ put_text (drop l.c-index l.text) l.kind (reader_view l.reader)
