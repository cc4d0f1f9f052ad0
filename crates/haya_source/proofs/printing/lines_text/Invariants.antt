use Rattle.std.proofs.Common.{◌≡◌, take}
use Rattle.std.specs.Prelude.{map, string_bytes}
use Rattle.haya_source.specs.Printed.{lines_text}
use Rattle.haya_source.proofs.printing.lines_text.Given as goal

abbrev pub invariant-parts : goal.invariant-parts
invariant-parts l =
    string_bytes l.text ≡ lines_text (map (λ s. s.now) (take l.part-index l.parts))
