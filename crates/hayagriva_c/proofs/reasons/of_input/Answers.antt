use Rattle.std.proofs.Common.{◌⊎◌, [], sym, subst}
use Rattle.hayagriva_c.specs.Reasons.{IsToldOfLine, line_reason}
use Rattle.hayagriva_c.specs.Told.{IsMemoryTold, IsTold}
use Rattle.hayagriva_c.proofs.reasons.of_input.Goals as goal

pub returns-in-Line : goal.returns-in-Line
returns-in-Line c =
    let line = c.in-Line.line in
    let told = c.of_line.result in
    subst (λ e. IsToldOfLine e told ⊎ IsMemoryTold told) (sym c.in-Line.is)
    (subst (λ code. IsTold code 0 line 0 [] [] (line_reason line code) told ⊎ IsMemoryTold told) c.line_code.ensures c.of_line.ensures)
