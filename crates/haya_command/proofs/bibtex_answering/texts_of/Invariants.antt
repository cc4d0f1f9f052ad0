use Rattle.std.proofs.Common.{◌≡◌, map, take}
use Rattle.haya_command.specs.Reading.{texts}
use Rattle.haya_command.proofs.bibtex_answering.texts_of.Given as goal

abbrev pub invariant-inputs : goal.invariant-inputs
invariant-inputs l = map (λ s. s.now) l.found.items ≡ texts (take l.input-index l.inputs)
