-- The library that a text says in the format of `.bib` files, and what is told of it.
use Rattle.std.specs.Prelude.{◌≡◌, ℕ, List, [], ◌∷◌, ◌++◌, encode_utf8_all, flat_map, fold, map, ⊤}
use Rattle.std.specs.Str.{chars}
use Rattle.haya_bibtex_text.specs.Bibliography.{BibliographyTexts, Note, field_again, key_again, stray_at, unknown_string}
use Rattle.haya_bibtex_text.specs.Outcomes.{HasFault, Reads}
use Rattle.haya_bibtex_inherited.specs.Entries.{EntryBytes}
use Rattle.haya_bibtex_inherited.specs.Inherited.{IsLibrary}
use Rattle.haya_bibtex_inherited.specs.References.{ReferenceBytes, link_name}
use Rattle.haya_bibtex_entries.specs.Entries.{entry_said}
use Rattle.haya_entry.specs.Tree.{Tree}
use Rattle.hayagriva.specs.Library.{push}
use Rattle.haya_json.specs.Notes.{NoteView, NotesView, kept_of, lost_here, named, note_of}
use Rattle.haya_bibtex.specs.Spelled.{entry_spelled}
use Rattle.haya_bibtex.specs.declared.error.BibtexReadError.{BibtexReadError}
use Rattle.haya_bibtex.specs.declared.error.BibtexReadError.TheVariants.{NotBibtex, OutOfMemory}

-- ---- the library

-- the library after the entries are pushed, in order
abbrev pub entries_pushed : List EntryBytes → List Tree → List Tree
entries_pushed es library = fold (λ so_far e. push (entry_said e).entry so_far) library es

-- what a text says: its entries, which inherit from each other, and the references that are passed
-- over
pub record Says (text : List ℕ) : Type 0 where
  pub read : BibliographyTexts
  pub reads : Reads (chars text) read
  pub entries : List EntryBytes
  pub references : List ReferenceBytes
  pub inherits : IsLibrary (map entry_spelled read.entries) entries references

-- the library is that of the entries of the text
pub record DescribesAsBibtex (text : List ℕ) (library : List Tree) : Type 0 where
  pub says : Says text
  pub is : library ≡ entries_pushed says.entries []

-- ---- what is told of it

-- a name under which something is counted, of an entry with this key
abbrev pub name_told : List ℕ → List ℕ → NoteView
name_told key name = note_of key (lost_here (named name))

abbrev pub names_told : List ℕ → List (List ℕ) → List NoteView
names_told key names = map (name_told key) names

-- the name of what is passed over in the text
abbrev pub note_name : Note → List ℕ
note_name (field_again n) = encode_utf8_all n
note_name (key_again k) = 64 ∷ encode_utf8_all k
note_name (unknown_string n) = 35 ∷ encode_utf8_all n
note_name stray_at = 64 ∷ []

abbrev pub reference_name : ReferenceBytes → List ℕ
reference_name r = link_name r.link

abbrev pub entry_told : EntryBytes → List NoteView
entry_told e = names_told e.key (entry_said e).passed_over

-- What is passed over of the text and of references isn't told of an entry: its key is empty.
abbrev pub all_told : List (List ℕ) → List ReferenceBytes → List EntryBytes → List NoteView
all_told names rs es =
    names_told [] names ++ names_told [] (map reference_name rs) ++ flat_map entry_told es

-- this is kept of what is told of the library that a text says
pub record TellsAsBibtex (text : List ℕ) (kept : NotesView) : Type 0 where
  pub says : Says text
  pub is : kept
      ≡ kept_of (all_told (map note_name says.read.passed_over) says.references says.entries)

-- ---- errors

-- what an error says of a text
abbrev pub IsBibtexErrorOf : List ℕ → BibtexReadError → Type 0
IsBibtexErrorOf text (NotBibtex f) = HasFault (chars text) f
IsBibtexErrorOf text OutOfMemory = ⊤
