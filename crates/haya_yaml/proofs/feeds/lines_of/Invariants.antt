use Rattle.std.proofs.Common.{◌≡◌, ◌++◌, length}
use denote.Text.{Utf8}
use denote.Shadow.{shadow}
use Rattle.std.specs.Str.Lines.{lines}
use Rattle.haya_yaml.specs.Line.{texts}
use Rattle.haya_yaml.proofs.feeds.lines_of.Given as goal

abbrev pub invariant-lines : goal.invariant-lines
invariant-lines l = shadow (Utf8 l.rest) × (lines l.fn.text ≡ texts l.found.items ++ lines l.rest)

abbrev pub decreases-lines : goal.decreases-lines
decreases-lines l = length l.rest
