-- What is read of a bibliography.
use Rattle.std.specs.Prelude.{◌≡◌, List, [], map}
use Rattle.haya_bibtex_text.specs.Bibliography.{BibliographyTexts}
use Rattle.haya_bibtex_inherited.specs.Entries.{EntryBytes}
use Rattle.haya_bibtex_inherited.specs.Inherited.{IsLibrary}
use Rattle.haya_bibtex_inherited.specs.References.{ReferenceBytes}
use Rattle.haya_entry.specs.Tree.{Tree}
use Rattle.haya_json.specs.Notes.{NotesView, kept_of}
use Rattle.haya_bibtex.specs.Libraries.{all_told, entries_pushed, note_name}
use Rattle.haya_bibtex.specs.Spelled.{entry_spelled}

-- the library of its entries and what is told of it; no other entries inherit so
pub record IsReadOf (b : BibliographyTexts) (library : List Tree) (kept : NotesView) : Type 0 where
  pub entries : List EntryBytes
  pub references : List ReferenceBytes
  pub inherits : IsLibrary (map entry_spelled b.entries) entries references
  pub only : (es : List EntryBytes) (rs : List ReferenceBytes) →
      IsLibrary (map entry_spelled b.entries) es rs → (es ≡ entries) × (rs ≡ references)
  pub library_is : library ≡ entries_pushed entries []
  pub notes_are : kept ≡ kept_of (all_told (map note_name b.passed_over) references entries)
