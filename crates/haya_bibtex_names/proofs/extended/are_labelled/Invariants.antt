use Rattle.std.proofs.Common.{◌≡◌, drop}
use Rattle.std.specs.List.{list_all}
use Rattle.haya_bibtex_names.specs.Extended.{is_labelled}
use Rattle.haya_bibtex_names.specs.Words.{texts}
use Rattle.haya_bibtex_names.proofs.extended.are_labelled.Given as goal

-- all parts are labelled if the rest are
abbrev pub invariant-parts : goal.invariant-parts
invariant-parts l = list_all is_labelled (texts l.parts) ≡ list_all is_labelled (texts (drop l.part-index l.parts))
