use Rattle.std.proofs.Common.{◌≡◌, take}
use Rattle.haya_command.specs.Reading.{AreCollected, input_names, texts}
use Rattle.haya_command.specs.Told.{told_names, told_views}
use Rattle.haya_command.proofs.reading.read_inputs.Given as goal

-- the inputs so far are read as the library so far, and this is told of them
abbrev pub invariant-inputs : goal.invariant-inputs
invariant-inputs l = record {
  collected : AreCollected l.options (texts (take l.input-index l.inputs)) l.library (told_views l.told.items);
  names : told_names l.told.items ≡ input_names (take l.input-index l.inputs);
}
