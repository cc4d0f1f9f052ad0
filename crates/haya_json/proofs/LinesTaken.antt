-- How far the lines of a text are read into a library.
use Rattle.std.proofs.Common.{◌≡◌, ◌==◌, ℕ, ◌+◌, ◌<◌, Bool, true, false, cond, not, refl, List, [], ◌∷◌, ◌++◌, MatchBool, fold, get_or, length, take, drop, sym, ap, subst, ◌∙◌, arith}
use Rattle.std.specs.List.{AllZip}
use Rattle.std.specs.Str.Lines.{lines}
use Rattle.std.proofs.lemmas.List.{drop_more, drop_all, length-take-le, take-append-drop, take_all, take_more}
use Rattle.std.proofs.lemmas.List.Sums.{fold-append}
use Rattle.haya_json_elements.specs.Elements.{nonempty_lines}
use Rattle.haya_json_elements.proofs.NonemptyLines.{nonempty_lines-append}
use Rattle.haya_entry.specs.Tree.{Tree}
use Rattle.hayagriva.specs.Library.{from_entries, push}
use Rattle.hayagriva.proofs.Parts.{AllZip-append}
use Rattle.haya_json.specs.JsonLines.{AreEntriesOf, Describes, ErrorInLine, FirstError, IsLineOf, PushesLine, TellsLine, lines_told}
use Rattle.haya_json.specs.Notes.{NotesView, all_kept, kept_of, none_kept}
use Rattle.haya_json.specs.declared.error.ReadError.{ReadError}
use Rattle.haya_json.proofs.NotesKept.{kept_from_none}

-- ---- some lines, and then others

pub AreEntriesOf-append : (ls more : List (List ℕ)) (entries others : List Tree) → AreEntriesOf ls entries → AreEntriesOf more others → AreEntriesOf (ls ++ more) (entries ++ others)
AreEntriesOf-append ls more entries others listed then =
    subst (λ fs. AllZip IsLineOf fs (entries ++ others)) (sym (nonempty_lines-append ls more)) (AllZip-append IsLineOf (nonempty_lines ls) (nonempty_lines more) entries others listed then)

-- ---- a line

-- the entries of one line are pushed
record PushesEntries (line : List ℕ) (old new : List Tree) : Type 0 where
  entries : List Tree
  listed : AreEntriesOf (line ∷ []) entries
  pushed : new ≡ fold (λ done t. push t done) old entries

pushes_entries : (line : List ℕ) (old new : List Tree) → PushesLine line old new → PushesEntries line old new
pushes_entries line old new pushes = let made = by (length line == 0) pushes in record {
  entries = made.0;
  listed = made.1;
  pushed = made.2;
}
  where
    by : (b : Bool) → MatchBool b (new ≡ old) ((entry : Tree) × IsLineOf line entry × (new ≡ push entry old))
        → (entries : List Tree) × AllZip IsLineOf (cond (not b) (line ∷ []) []) entries × (new ≡ fold (λ done t. push t done) old entries)
    by true same = ([], tt, same)
    by false pushed = (pushed.0 ∷ [], (pushed.1, tt), pushed.2)

-- ---- lines in turn

-- So many lines list the entries of the library. What is told of all is what is told of them, and then of those left.
pub record LinesTaken (all : List (List ℕ)) (count : ℕ) (library : List Tree) (kept : NotesView) : Type 0 where
  pub entries : List Tree
  pub listed : AreEntriesOf (take count all) entries
  pub of_entries : library ≡ from_entries entries
  pub told : all_kept (lines_told [] all) none_kept ≡ all_kept (lines_told library (drop count all)) kept

pub none_taken : (all : List (List ℕ)) (library : List Tree) (kept : NotesView) → library ≡ [] → kept ≡ none_kept → LinesTaken all 0 library kept
none_taken all library kept no_library no_notes = record {
  entries = [];
  listed = tt;
  of_entries = no_library;
  told = rw (no_library, no_notes) refl;
}

module _ (all : List (List ℕ)) (count : ℕ) (library : List Tree) (kept : NotesView) (taken : LinesTaken all count library kept)
    (line : List ℕ) (is : line ≡ get_or all count line) (within : count < length all) where
  one_more : take (count + 1) all ≡ take count all ++ line ∷ []
  one_more = take_more all count line within ∙ ap (λ l. take count all ++ l ∷ []) (sym is)

  pub line_taken : (next : List Tree) → PushesLine line library next → (next_kept : NotesView) → TellsLine line library next kept next_kept → LinesTaken all (count + 1) next next_kept
  line_taken next pushes next_kept tells =
      let added = pushes_entries line library next pushes in
      record {
        entries = taken.entries ++ added.entries;
        listed = subst (λ ls. AreEntriesOf ls (taken.entries ++ added.entries)) (sym one_more)
            (AreEntriesOf-append (take count all) (line ∷ []) taken.entries added.entries taken.listed added.listed);
        of_entries = added.pushed ∙ ap (λ l. fold (λ done t. push t done) l added.entries) taken.of_entries ∙ sym (fold-append (λ done t. push t done) [] taken.entries added.entries);
        told =
            taken.told
            ∙ ap (λ ls. all_kept (lines_told library ls) kept) (drop_more all count line within ∙ ap (λ l. l ∷ drop (count + 1) all) (sym is))
            ∙ tells (drop (count + 1) all);
      }

  pub first_error : (text : List ℕ) → lines text ≡ all → (error : ReadError) → ErrorInLine line error → FirstError text (record { line = count + 1; error = error })
  first_error text of_text error in_line = record {
    first = take count all;
    line = line;
    more = drop (count + 1) all;
    entries = taken.entries;
    parts =
        of_text ∙ sym (take-append-drop count all) ∙ ap (λ l. take count all ++ l) (drop_more all count line within)
        ∙ ap (λ l. take count all ++ l ∷ drop (count + 1) all) (sym is);
    listed = taken.listed;
    number = ap (λ n. n + 1) (sym (length-take-le count all (omega (arith, within))));
    error = in_line;
  }

-- ---- all lines

module _ (text : List ℕ) (count : ℕ) (library : List Tree) (kept : NotesView) (taken : LinesTaken (lines text) count library kept) (whole : length (lines text) ≡ count) where
  all_lines : take count (lines text) ≡ lines text
  all_lines = take_all count (lines text) (omega (arith, whole))

  pub all_taken : Describes text library
  all_taken = record {
    entries = taken.entries;
    listed = subst (λ ls. AreEntriesOf ls taken.entries) all_lines taken.listed;
    of_entries = taken.of_entries;
  }

  pub all_told : kept ≡ kept_of (lines_told [] (lines text))
  all_told =
      sym (ap (λ ls. all_kept (lines_told library ls) kept) (drop_all count (lines text) (omega (arith, whole))))
      ∙ sym taken.told ∙ kept_from_none (lines_told [] (lines text))
