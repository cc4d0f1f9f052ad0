-- What the functions that read a text's lines answer.
use Rattle.std.specs.Prelude.{◌≡◌, ◌≢◌, ◌⊎◌, ℕ, List, length, Result, IsErrAnd}
use Rattle.haya_lines.specs.Items.{items}
use Rattle.haya_lines.specs.Line.{row_read}
use Rattle.haya_lines.specs.declared.error.LineError.{LineError}
use Rattle.haya_line_library.specs.declared.error.InputError.{InputError}
use Rattle.haya_line_library.specs.declared.error.InputError.TheVariants.{Line, OutOfMemory}

-- the fault of the line with this number, which isn't empty and may be so deep, or out of memory
abbrev pub FaultInLine : ℕ → ℕ → List ℕ → InputError → Type 0
FaultInLine number deepest line e =
    (e ≡ OutOfMemory) ⊎
    ((length line ≢ 0) × IsErrAnd (row_read deepest (items line)) (λ f. e ≡ Line number f))

-- the fault of the first line that has one, or out of memory
abbrev pub FaultInText : {T : Type 0} → Result T (ℕ × LineError) → InputError → Type 0
FaultInText read e = (e ≡ OutOfMemory) ⊎ IsErrAnd read (λ f. e ≡ Line f.0 f.1)
