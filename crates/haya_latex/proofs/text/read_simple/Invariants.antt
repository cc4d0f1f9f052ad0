use Rattle.std.proofs.Common.{◌≡◌, take}
use Rattle.haya_latex.specs.Reading.{start, write}
use Rattle.haya_latex.specs.ReadingViews.{reader_view}
use Rattle.haya_latex.specs.Simple.{of_kind}
use Rattle.haya_latex.proofs.text.read_simple.Given as goal

-- the bytes so far are written
abbrev pub invariant-bytes : goal.invariant-bytes
invariant-bytes l = reader_view l.reader ≡ write (of_kind l.kind (take l.byte-index l.text)) (start l.kind)
