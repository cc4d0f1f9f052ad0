use Rattle.std.proofs.Common.{◌≡◌, vec_len}
use Rattle.haya_latex.specs.Reading.{settle}
use Rattle.haya_latex.specs.ReadingViews.{reader_view}
use Rattle.haya_latex.proofs.readers.settle.Given as goal

-- those that are left are written alone as all are
abbrev pub invariant-accents : goal.invariant-accents
invariant-accents l = settle l.groups (reader_view l.initial.reader) ≡ settle l.groups (reader_view l.reader)

abbrev pub decreases-accents : goal.decreases-accents
decreases-accents l = vec_len l.reader.waiting
