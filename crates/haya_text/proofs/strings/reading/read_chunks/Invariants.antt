use Rattle.std.proofs.Common.{◌≡◌, ◌≤◌, ◌-◌, false, length}
use Rattle.std.specs.Str.{chars}
use Rattle.haya_text.specs.Chunks.{chunks}
use Rattle.haya_text.specs.Cursor.{text_len}
use Rattle.haya_text.specs.Normal.{norm}
use Rattle.haya_text.specs.Marks.{scan_of_reader}
use Rattle.haya_text.specs.Reading.{scan}
use Rattle.haya_text.proofs.strings.reading.read_chunks.Given as goal

-- what is read so far, joined with what is left, is what the text reads as
abbrev pub invariant-marks : goal.invariant-marks
invariant-marks l = record {
  reads : scan_of_reader l.reader l.cursor.rest ≡ scan 0 false false (chars l.fn.text);
  normal : chunks l.reader.read ≡ norm (chunks l.reader.read);
  depth : l.reader.depth ≤ l.cursor.place;
  place : l.place ≡ l.cursor.place;
  whole : text_len l.cursor ≡ length l.fn.text;
}

abbrev pub decreases-marks : goal.decreases-marks
decreases-marks l = length l.fn.text - l.cursor.place
