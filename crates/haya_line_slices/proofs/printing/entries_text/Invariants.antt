use Rattle.std.proofs.Common.{◌≡◌, take}
use Rattle.std.specs.Prelude.{map, string_bytes}
use Rattle.haya_line_slices.specs.Printed.{entries_text}
use Rattle.haya_line_slices.proofs.printing.entries_text.Given as goal

abbrev pub invariant-parts : goal.invariant-parts
invariant-parts l =
    string_bytes l.text ≡ entries_text (map (λ s. s.now) (take l.part-index l.parts))
