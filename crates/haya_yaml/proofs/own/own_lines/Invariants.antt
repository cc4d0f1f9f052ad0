use Rattle.std.proofs.Common.{◌≡◌, ◌-◌, length, take, drop}
use Rattle.haya_yaml.specs.Block.{cut}
use Rattle.haya_yaml.specs.Line.{texts}
use Rattle.haya_yaml.proofs.Cuts.{with_front}
use Rattle.haya_yaml.proofs.own.own_lines.Given as goal

abbrev pub invariant-lines : goal.invariant-lines
invariant-lines l =
    cut l.map l.dashes l.column (texts l.lines.texts.now)
    ≡ with_front (texts (take l.count l.lines.texts.now)) (cut l.map l.dashes l.column (texts (drop l.count l.lines.texts.now)))

abbrev pub decreases-lines : goal.decreases-lines
decreases-lines l = length l.lines.texts.now - l.count
