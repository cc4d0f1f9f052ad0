-- What is told of inputs, by value.
use Rattle.std.specs.Prelude.{ℕ, List, map, string_bytes}
use Rattle.haya_json.specs.Notes.{NotesView, notes_view}
use Rattle.haya_command.specs.declared.told.InputNotes.{InputNotes}

abbrev pub told_views : List InputNotes → List NotesView
told_views told = map (λ t. notes_view t.notes) told

-- the inputs that they are told of
abbrev pub told_names : List InputNotes → List (List ℕ)
told_names told = map (λ t. string_bytes t.name) told
