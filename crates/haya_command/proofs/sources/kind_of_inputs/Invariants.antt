use Rattle.std.proofs.Common.{take}
use Rattle.haya_command.specs.Reading.{texts}
use Rattle.haya_command.specs.Source.{AreOfKind}
use Rattle.haya_command.proofs.sources.kind_of_inputs.Given as goal

-- the inputs so far have elements of the kind
abbrev pub invariant-inputs : goal.invariant-inputs
invariant-inputs l =
    AreOfKind l.options l.form (texts (take l.input-index l.inputs)) l.kind
