-- What is read of a text is all that it says.
use Rattle.std.proofs.Common.{◌≡◌, ℕ, List, [], map, sym, ap, ◌∙◌, subst}
use Rattle.std.specs.Str.{chars}
use Rattle.haya_bibtex_text.specs.Bibliography.{BibliographyTexts}
use Rattle.haya_bibtex_text.specs.Outcomes.{Reads}
use Rattle.haya_bibtex_inherited.specs.Inherited.{IsLibrary}
use Rattle.haya_entry.specs.Tree.{Tree}
use Rattle.haya_json.specs.Notes.{NotesView, kept_of}
use Rattle.haya_bibtex.specs.Libraries.{DescribesAsBibtex, Says, TellsAsBibtex, all_told, entries_pushed, note_name}
use Rattle.haya_bibtex.specs.Outcomes.{IsReadOf}
use Rattle.haya_bibtex.specs.Spelled.{entry_spelled}

-- the text says this bibliography alone
pub record SaysOnly (text : List ℕ) (b : BibliographyTexts) : Type 0 where
  pub reads : Reads (chars text) b
  pub only : (c : BibliographyTexts) → Reads (chars text) c → c ≡ b

-- what a text says that says it alone
says_same : (text : List ℕ) (b : BibliographyTexts) → SaysOnly text b → (s : Says text)
    → IsLibrary (map entry_spelled b.entries) s.entries s.references
says_same text b says s =
    let P : BibliographyTexts → Type 0 = λ c. IsLibrary (map entry_spelled c.entries) s.entries s.references in
    subst P (says.only s.read s.reads) s.inherits

pub describes : (text : List ℕ) (b : BibliographyTexts) (library : List Tree) (kept : NotesView)
    → SaysOnly text b → IsReadOf b library kept → DescribesAsBibtex text library
describes text b library kept says is = record {
  says = record {
    read = b;
    reads = says.reads;
    entries = is.entries;
    references = is.references;
    inherits = is.inherits;
  };
  is = is.library_is;
}

pub tells : (text : List ℕ) (b : BibliographyTexts) (library : List Tree) (kept : NotesView)
    → SaysOnly text b → IsReadOf b library kept → TellsAsBibtex text kept
tells text b library kept says is = record {
  says = record {
    read = b;
    reads = says.reads;
    entries = is.entries;
    references = is.references;
    inherits = is.inherits;
  };
  is = is.notes_are;
}

pub only_library : (text : List ℕ) (b : BibliographyTexts) (library : List Tree) (kept : NotesView)
    → SaysOnly text b → IsReadOf b library kept
    → (other : List Tree) → DescribesAsBibtex text other → other ≡ library
only_library text b library kept says is other d =
    d.is
    ∙ ap (λ es. entries_pushed es []) (is.only _ _ (says_same text b says d.says)).0
    ∙ sym is.library_is

pub only_told : (text : List ℕ) (b : BibliographyTexts) (library : List Tree) (kept : NotesView)
    → SaysOnly text b → IsReadOf b library kept
    → (other : NotesView) → TellsAsBibtex text other → other ≡ kept
only_told text b library kept says is other d =
    let same = is.only _ _ (says_same text b says d.says) in
    d.is
    ∙ ap (λ names. kept_of (all_told names d.says.references d.says.entries)) (ap (λ c. map note_name c.passed_over) (says.only d.says.read d.says.reads))
    ∙ ap (λ rs. kept_of (all_told (map note_name b.passed_over) rs d.says.entries)) same.1
    ∙ ap (λ es. kept_of (all_told (map note_name b.passed_over) is.references es)) same.0
    ∙ sym is.notes_are
