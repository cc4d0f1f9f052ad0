-- Lines that are taken one after another, of which none closes an entry.
use Rattle.std.proofs.Common.{◌≡◌, ℕ, ◌+◌, ◌<◌, List, [], ◌∷◌, ◌++◌, None, Ok, Some, length, take, drop, get_or, sym, ap, ◌∙◌, subst, arith}
use Rattle.std.specs.Prelude.{option_to_list}
use Rattle.std.specs.Str.Lines.{lines}
use Rattle.std.proofs.lemmas.List.{drop_more, length-take-le, take-append-drop, take_all, take_more}
use Rattle.haya_entry.specs.Tree.{Tree, trees}
use Rattle.haya_line_library.specs.Chain.{LastOf, Taken, TakesLine}
use Rattle.haya_line_library.specs.Input.{rows_of_all, rows_read}
use Rattle.haya_line_library.specs.Opened.{Opened}
use Rattle.haya_line_library.specs.TextReading.{FaultInLine, FaultInText}
use Rattle.haya_line_library.specs.declared.error.InputError.{InputError}
use Rattle.haya_line_library.proofs.Takings.{Taken-end, Taken-fault, Taken-line}
use Rattle.haya_line_slices.specs.EntryLines.{IsEntryOf}

module _ (all : List (List ℕ)) (count : ℕ) (chain : List Tree) (taken : Taken (take count all) [] chain)
    (line : List ℕ) (within : count < length all) (is : line ≡ get_or all count line) where
  -- one more
  pub line-taken : (now : Opened) → TakesLine line chain now → now.closed ≡ None
      → Taken (take (count + 1) all) [] now.chain
  line-taken now takes none =
      let front : take (count + 1) all ≡ take count all ++ line ∷ [] =
      take_more all count line within ∙ ap (λ l. take count all ++ l ∷ []) (sym is) in
      let more : Taken (take count all ++ line ∷ []) (option_to_list now.closed) now.chain =
      Taken-line (take count all) [] chain taken line now takes in
      subst (λ l. Taken l [] now.chain) (sym front)
      (subst (λ o. Taken (take count all ++ line ∷ []) (option_to_list o) now.chain) none more)

  -- or one with a fault
  pub line-fault : (e : InputError) → FaultInLine (count + 1) (length chain) line e
      → FaultInText (rows_read 1 0 all) e
  line-fault e fault =
      let so_many : length (take count all) ≡ count = length-take-le count all (omega (arith, within)) in
      let whole : take count all ++ line ∷ drop (count + 1) all ≡ all =
      ap (λ l. take count all ++ l ∷ drop (count + 1) all) is
      ∙ ap (λ l. take count all ++ l) (sym (drop_more all count line within)) ∙ take-append-drop count all in
      subst (λ l. FaultInText (rows_read 1 0 l) e) whole
      (Taken-fault (take count all) [] chain taken line (drop (count + 1) all) e
      (subst (λ n. FaultInLine (n + 1) (length chain) line e) (sym so_many) fault))

-- all are taken, and one entry is closed
pub entry-listed : (part : List ℕ) (count : ℕ) (chain : List Tree)
    → Taken (take count (lines part)) [] chain → length (lines part) ≡ count → (now : Opened)
    → LastOf chain now → (entry : Tree) → now.closed ≡ Some entry → IsEntryOf part entry
entry-listed part count chain taken whole now ends entry is =
    let all : take count (lines part) ≡ lines part =
    take_all count (lines part) (omega (arith, whole)) in
    subst (λ o. rows_read 1 0 (lines part) ≡ Ok (rows_of_all 0 (trees (option_to_list o)))) is
    (ap (rows_read 1 0) (sym all) ∙ Taken-end (take count (lines part)) [] chain taken now ends)
