use denote.Shadow.{shadow}
use denote.Text.{Utf8}
use Rattle.std.specs.Prelude.{map}
use Rattle.haya_slices.proofs.Listed.{IsLaidOutBut}
use Rattle.haya_slices.proofs.slices.element_slices.Given as goal

abbrev pub invariant-elements : goal.invariant-elements
invariant-elements l =
    shadow (Utf8 l.rest)
    × IsLaidOutBut l.brackets l.fn.text (map (λ s. s.now) l.slices.items) l.rest
