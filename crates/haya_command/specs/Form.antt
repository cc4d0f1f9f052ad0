-- The forms in which hits are printed, by their names.
use Rattle.std.specs.Prelude.{ℕ, Bool, true, false, List, [], ◌∷◌, Option, codes, find}
use Rattle.std.specs.Str.{bytes_eq}
use Rattle.haya_command.specs.declared.form.Form.{Form}
use Rattle.haya_command.specs.declared.form.Form.TheVariants.{Keys, Lines, Hayagriva, Yaml, JsonLines}

-- the name of a form
abbrev pub form_name : Form → List ℕ
form_name Keys = codes "keys"
form_name Lines = codes "lines"
form_name Hayagriva = codes "hayagriva"
form_name Yaml = codes "yaml"
form_name JsonLines = codes "json-lines"

-- whether the text is the form's name
abbrev pub is_form_named : List ℕ → Form → Bool
is_form_named text form = bytes_eq (form_name form) text

-- the form with this name
abbrev pub form_named : List ℕ → Option Form
form_named text = find (is_form_named text) (Keys ∷ Lines ∷ Hayagriva ∷ Yaml ∷ JsonLines ∷ [])

-- the form is a library of all hits, and not a text of each
abbrev pub is_library : Form → Bool
is_library Keys = false
is_library Lines = false
is_library Hayagriva = true
is_library Yaml = true
is_library JsonLines = false
