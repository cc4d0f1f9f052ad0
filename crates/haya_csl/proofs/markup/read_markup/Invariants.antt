use Rattle.std.proofs.Common.{◌≡◌, ◌+◌, ◌<◌, length}
use denote.Text.{Utf8}
use denote.Shadow.{shadow}
use Rattle.haya_csl.specs.Markup.{all_taken, markup_read, pieces}
use Rattle.haya_csl.specs.Reader.{reader_view}
use Rattle.haya_csl.proofs.markup.read_markup.Given as goal

-- what is read of the whole text is what the pieces left make of what is read so far
abbrev pub invariant-pieces : goal.invariant-pieces
invariant-pieces l =
    shadow (Utf8 l.rest)
    × (markup_read l.text ≡ (all_taken (pieces l.rest) (reader_view l.reader)).read)
    × (l.reader.depth + length l.rest < length l.text)

abbrev pub decreases-pieces : goal.decreases-pieces
decreases-pieces l = length l.rest
