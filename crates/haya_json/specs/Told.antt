-- What is told of entries, and of a library in hayagriva's format.
use Rattle.std.specs.Prelude.{◌≡◌, ℕ, List, [], ◌∷◌, ◌++◌, None, is_some, IsSomeAnd, Result, Ok, Err, if◌then◌else◌}
use Rattle.json.specs.Json as json
use Rattle.json.specs.Json.{Json, Members, document}
use Rattle.haya_entry.specs.Tree.{Tree}
use Rattle.hayagriva.specs.Library.{get, key_of, push}
use Rattle.haya_json.specs.Entries.{entry_said}
use Rattle.haya_json.specs.Fields.{EntryView}
use Rattle.haya_json.specs.Notes.{LostView, NoteView, NotesView, again, kept_of, lost_here, note_of, notes_under}
use Rattle.haya_json.specs.Refusal.{Refusal}

-- ---- one entry

-- what is told of an entry whose key isn't looked for: what is lost of it
abbrev pub told_alone : Result EntryView Refusal → List NoteView
told_alone (Ok v) = notes_under (key_of v.entry) v.lost
told_alone (Err r) = []

-- that a key comes again, where the library has an entry under it
abbrev pub told_again : List Tree → List ℕ → List NoteView
told_again library key =
    if is_some (get key library) then note_of key (lost_here again) ∷ [] else []

-- the same, and then what is lost of the entry that it is the key of
abbrev pub told_under : List Tree → List ℕ → List LostView → List NoteView
told_under library key lost = told_again library key ++ notes_under key lost

-- what is told of an entry, before it goes to the library
abbrev pub told_of : List Tree → EntryView → List NoteView
told_of library v = told_under library (key_of v.entry) v.lost

-- of an entry, and then of those behind it; behind one that is refused nothing is told
abbrev pub told_first : List Tree → Result EntryView Refusal → (List Tree → List NoteView)
    → List NoteView
told_first library (Ok v) more = told_of library v ++ more (push v.entry library)
told_first library (Err r) more = []

-- ---- a library

-- what is told of the entries of an object, in the order of the text
abbrev pub entries_told : Members → List NoteView
entries_told json.no_members = []
entries_told (json.member k j ms) = told_alone (entry_said k None j) ++ entries_told ms

abbrev pub told : Json → List NoteView
told (json.object ms) = entries_told ms
told _ = []

-- this is kept of what is told of the library that a text says
abbrev pub Tells : List ℕ → NotesView → Type 0
Tells text kept = IsSomeAnd (document text) (λ j. kept ≡ kept_of (told j))
