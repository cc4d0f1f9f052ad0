-- How far the lines of a text are read into a library.
use Rattle.std.proofs.Common.{◌≡◌, ℕ, ◌+◌, ◌<◌, List, [], ◌∷◌, ◌++◌, length, take, drop, get_or, fold, sym, ap, ◌∙◌, subst, arith}
use Rattle.std.specs.Prelude.{option_to_list}
use Rattle.std.specs.Str.Lines.{lines}
use Rattle.std.proofs.lemmas.List.{drop_more, length-take-le, take-append-drop, take_all, take_more}
use Rattle.std.proofs.lemmas.List.Sums.{fold-append}
use Rattle.hayagriva.specs.Library.{from_entries, push}
use Rattle.hayagriva.specs.Tree.{Tree}
use Rattle.haya_line_library.specs.declared.error.InputError.{InputError}
use Rattle.haya_line_library.specs.Chain.{LastOf, Taken, TakesLine}
use Rattle.haya_line_library.specs.Input.{Describes, rows_read}
use Rattle.haya_line_library.specs.Opened.{Opened}
use Rattle.haya_line_library.specs.TextReading.{FaultInLine, FaultInText}
use Rattle.haya_line_library.proofs.Takings.{Taken-start, Taken-line, Taken-fault, Taken-end}

-- after so many lines the library is that of the entries that were closed
pub record Progress (all : List (List ℕ)) (count : ℕ) (library chain : List Tree) : Type 0 where
  pub given : List Tree
  pub taken : Taken (take count all) given chain
  pub of_given : library ≡ from_entries given

abbrev pub Progress-start : (all : List (List ℕ)) (library chain : List Tree) → library ≡ [] → chain ≡ [] → Progress all 0 library chain
Progress-start all library chain no_library no_chain = record {
  given = [];
  taken = rw no_chain Taken-start;
  of_given = no_library;
}

-- a library after one more entry, or none
pub pushed_on : (given library next closed : List Tree) → library ≡ from_entries given → next ≡ fold (λ done t. push t done) library closed → next ≡ from_entries (given ++ closed)
pushed_on given library next closed of_given put =
    put ∙ ap (λ l. fold (λ done t. push t done) l closed) of_given ∙ sym (fold-append (λ done t. push t done) [] given closed)

module _ (all : List (List ℕ)) (count : ℕ) (library chain : List Tree) (so_far : Progress all count library chain) where
  abbrev pub Progress-line : (line : List ℕ) → count < length all → line ≡ get_or all count line → (now : Opened) → TakesLine line chain now
      → (next : List Tree) → next ≡ fold (λ done t. push t done) library (option_to_list now.closed) → (left : List Tree) → left ≡ now.chain → Progress all (count + 1) next left
  Progress-line line within is now takes next put left same =
      let front : take (count + 1) all ≡ take count all ++ line ∷ [] = take_more all count line within ∙ ap (λ l. take count all ++ l ∷ []) (sym is) in
      record {
        given = so_far.given ++ option_to_list now.closed;
        taken = rw (front, same) (Taken-line (take count all) so_far.given chain so_far.taken line now takes);
        of_given = pushed_on so_far.given library next (option_to_list now.closed) so_far.of_given put;
      }

  pub Progress-fault : (line : List ℕ) → count < length all → line ≡ get_or all count line → (e : InputError) → FaultInLine (count + 1) (length chain) line e → FaultInText (rows_read 1 0 all) e
  Progress-fault line within is e fault =
      let so_many : length (take count all) ≡ count = length-take-le count all (omega (arith, within)) in
      let whole : take count all ++ line ∷ drop (count + 1) all ≡ all = ap (λ l. take count all ++ l ∷ drop (count + 1) all) is ∙ ap (λ l. take count all ++ l) (sym (drop_more all count line within)) ∙ take-append-drop count all in
      subst (λ l. FaultInText (rows_read 1 0 l) e) whole
      (Taken-fault (take count all) so_far.given chain so_far.taken line (drop (count + 1) all) e (subst (λ n. FaultInLine (n + 1) (length chain) line e) (sym so_many) fault))

-- all rows are those of the library's entries
abbrev pub Progress-end : (text : List ℕ) (count : ℕ) (library chain last : List Tree) → Progress (lines text) count library chain → length (lines text) ≡ count
    → (now : Opened) → LastOf chain now → last ≡ fold (λ done t. push t done) library (option_to_list now.closed) → Describes text last
Progress-end text count library chain last so_far whole now ends put =
    let all : take count (lines text) ≡ lines text = take_all count (lines text) (omega (arith, whole)) in
    record {
      entries = so_far.given ++ option_to_list now.closed;
      rows = ap (rows_read 1 0) (sym all) ∙ Taken-end (take count (lines text)) so_far.given chain so_far.taken now ends;
      of_entries = pushed_on so_far.given library last (option_to_list now.closed) so_far.of_given put;
    }
