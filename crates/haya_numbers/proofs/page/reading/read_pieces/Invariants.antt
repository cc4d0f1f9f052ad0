use Rattle.std.proofs.Common.{◌≡◌, map}
use Rattle.std.specs.Str.{chars}
use Rattle.haya_numbers.specs.Pages.{part_view}
use Rattle.haya_numbers.specs.PagesReading.{collect, pages_read, part_read}
use Rattle.haya_numbers.proofs.ReadLemmas.{after_these}
use Rattle.haya_numbers.proofs.page.reading.read_pieces.Given as goal

-- the parts so far, and those that the pieces left read as
abbrev pub invariant-pieces : goal.invariant-pieces
invariant-pieces l = after_these (map part_view l.ranges.items) (collect (map part_read l.piece-iterator)) ≡ pages_read (chars l.text)
