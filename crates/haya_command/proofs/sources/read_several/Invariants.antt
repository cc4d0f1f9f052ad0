use Rattle.std.proofs.Common.{List, take}
use Rattle.haya_source.specs.Elements.{Element}
use Rattle.haya_source.specs.Places.{ArePlacesOf}
use Rattle.haya_command.specs.Reading.{AreCollected, texts}
use Rattle.haya_command.specs.Source.{AreElementsIn, AreOfKind}
use Rattle.haya_command.specs.Told.{told_views}
use Rattle.haya_command.specs.declared.source_form.SourceForm.{SourceForm}
use Rattle.haya_command.proofs.sources.read_several.Given as goal

-- the inputs so far are read as the library so far, and their elements are kept
abbrev pub invariant-inputs : goal.invariant-inputs
invariant-inputs l = record {
  collected : AreCollected l.options (texts (take l.input-index l.inputs)) l.library (told_views l.told.items);
  elements : (form : SourceForm) → AreOfKind l.options form (texts l.inputs) l.kind
      → (es : List Element) × AreElementsIn l.kind (texts (take l.input-index l.inputs)) es × ArePlacesOf es l.places;
}
