-- The forms in which entries are printed as their input has them.
use Rattle.std.specs.Prelude.{ℕ, Bool, List, [], ◌∷◌, Option, None, Some, codes, find}
use Rattle.std.specs.Str.{bytes_eq}
use Rattle.haya_formats.specs.declared.format.Format.{Format}
use Rattle.haya_formats.specs.declared.format.Format.TheVariants.{Bibtex, Hayagriva, Yaml, CslJson, JsonLines, Lines}
use Rattle.haya_source.specs.declared.kind.ElementKind.{ElementKind}
use Rattle.haya_source.specs.declared.kind.ElementKind.TheVariants as kind
use Rattle.haya_command.specs.declared.source_form.SourceForm.{SourceForm}
use Rattle.haya_command.specs.declared.source_form.SourceForm.TheVariants as form

-- the name of a form
abbrev pub source_name : SourceForm → List ℕ
source_name form.Source = codes "source"
source_name form.CslJson = codes "csl-json"

-- whether the text is the form's name
abbrev pub is_source_named : List ℕ → SourceForm → Bool
is_source_named text f = bytes_eq (source_name f) text

-- the form with this name
abbrev pub source_named : List ℕ → Option SourceForm
source_named text = find (is_source_named text) (form.Source ∷ form.CslJson ∷ [])

-- the kind of the elements of a text in a format, where they can be told apart
abbrev pub kind_of : Format → Option ElementKind
kind_of (CslJson key) = Some (kind.Items key)
kind_of Hayagriva = Some kind.Members
kind_of JsonLines = Some kind.JsonLines
kind_of Lines = Some kind.Lines
kind_of Yaml = Some kind.Yaml
kind_of Bibtex = None

-- those of them that a form prints: any, or items of CSL-JSON alone
abbrev pub kind_in : SourceForm → Format → Option ElementKind
kind_in form.Source format = kind_of format
kind_in form.CslJson (CslJson key) = Some (kind.Items key)
kind_in form.CslJson Hayagriva = None
kind_in form.CslJson JsonLines = None
kind_in form.CslJson Lines = None
kind_in form.CslJson Yaml = None
kind_in form.CslJson Bibtex = None
