use Rattle.std.proofs.Common.{take}
use Rattle.haya_command.specs.BibtexSource.{AreBibtex}
use Rattle.haya_command.specs.Reading.{texts}
use Rattle.haya_command.proofs.bibtex_answering.all_are_bibtex.Given as goal

-- the inputs so far are `.bib` texts
abbrev pub invariant-inputs : goal.invariant-inputs
invariant-inputs l = AreBibtex l.options (texts (take l.input-index l.inputs))
