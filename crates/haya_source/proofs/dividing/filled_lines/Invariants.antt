use Rattle.std.proofs.Common.{◌≡◌, length, take}
use Rattle.std.specs.Prelude.{map}
use Rattle.std.specs.Str.Lines.{lines}
use Rattle.haya_json_elements.specs.Elements.{nonempty_lines}
use Rattle.haya_source.proofs.dividing.filled_lines.Given as goal

abbrev pub invariant-lines : goal.invariant-lines
invariant-lines l =
    map (λ s. s.now) l.parts.items ≡ nonempty_lines (take (length l.yielded) (lines l.fn.text))
