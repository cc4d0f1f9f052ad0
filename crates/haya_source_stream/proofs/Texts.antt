-- What is printed of elements one after another is what is printed of them together.
use Rattle.std.proofs.Common.{◌≡◌, ℕ, ◌+◌, ◌==◌, Bool, false, List, [], ◌∷◌, ◌++◌, length, refl, sym, ap, ◌∙◌, append_assoc, append-nil, arith}
use Rattle.std.proofs.lemmas.Bool.Decides.{nat_tests}
use Rattle.haya_json_elements.specs.declared.place.Brackets.{Brackets}
use Rattle.haya_json_elements.specs.declared.place.Brackets.TheVariants.{Curly, Square}
use Rattle.haya_line_slices.specs.Printed.{end_for, entries_text}
use Rattle.haya_lines.specs.Signs.{line_feed}
use Rattle.haya_slices.specs.Layout.{element_text, end_text, text_from}
use Rattle.haya_source.specs.Printed.{lines_text, printed_text}
use Rattle.haya_source_stream.specs.Kinds.{element_kind}
use Rattle.haya_source_stream.specs.Printed.{part_text, parts_text, tail_text}
use Rattle.haya_source_stream.specs.declared.kind.StreamedKind.{StreamedKind}
use Rattle.haya_source_stream.specs.declared.kind.StreamedKind.TheVariants.{Items, JsonLines, Lines, Members}

-- parts behind others
pub parts_text-append : (kind : StreamedKind) (n : ℕ) (ps qs : List (List ℕ))
    → parts_text kind n (ps ++ qs) ≡ parts_text kind n ps ++ parts_text kind (n + length ps) qs
parts_text-append kind n [] qs = ap (λ k. parts_text kind k qs) (omega arith)
parts_text-append kind n (p ∷ ps) qs =
    ap (λ l. part_text kind (n == 0) p ++ l) (parts_text-append kind (n + 1) ps qs)
    ∙ ap (λ k. part_text kind (n == 0) p ++ (parts_text kind (n + 1) ps ++ parts_text kind k qs))
    (omega arith)
    ∙ sym (append_assoc (part_text kind (n == 0) p) (parts_text kind (n + 1) ps)
    (parts_text kind (n + length (p ∷ ps)) qs))

-- a list
module _ (kind : StreamedKind) (b : Brackets)
    (part_is : (is_first : Bool) (p : List ℕ) → part_text kind is_first p ≡ element_text b is_first p)
    (tail_is : (is_empty : Bool) → tail_text kind is_empty ≡ end_text b is_empty) where
  list_from : (n : ℕ) (ps : List (List ℕ))
      → parts_text kind n ps ++ tail_text kind (n + length ps == 0) ≡ text_from b (n == 0) ps
  list_from n [] = tail_is (n + 0 == 0) ∙ ap (λ k. end_text b (k == 0)) (omega arith)
  list_from n (p ∷ ps) =
      let later : (n + 1 == 0) ≡ false = grind (arith, nat_tests) in
      append_assoc (part_text kind (n == 0) p) (parts_text kind (n + 1) ps)
      (tail_text kind (n + length (p ∷ ps) == 0))
      ∙ ap (λ l. l ++ (parts_text kind (n + 1) ps ++ tail_text kind (n + length (p ∷ ps) == 0)))
      (part_is (n == 0) p)
      ∙ ap (λ k. element_text b (n == 0) p ++ (parts_text kind (n + 1) ps ++ tail_text kind (k == 0)))
      (omega arith)
      ∙ ap (λ l. element_text b (n == 0) p ++ l) (list_from (n + 1) ps)
      ∙ ap (λ k. element_text b (n == 0) p ++ text_from b k ps) later

lines_from : (n : ℕ) (ps : List (List ℕ)) → parts_text JsonLines n ps ≡ lines_text ps
lines_from n [] = refl
lines_from n (p ∷ ps) = ap (λ l. (p ++ line_feed ∷ []) ++ l) (lines_from (n + 1) ps)

entries_from : (n : ℕ) (ps : List (List ℕ)) → parts_text Lines n ps ≡ entries_text ps
entries_from n [] = refl
entries_from n (p ∷ ps) = ap (λ l. (p ++ end_for p) ++ l) (entries_from (n + 1) ps)

-- all parts, and what is behind them
pub all_text : (kind : StreamedKind) (ps : List (List ℕ))
    → parts_text kind 0 ps ++ tail_text kind (length ps == 0) ≡ printed_text (element_kind kind) ps
all_text (Items by) ps =
    ap (λ k. parts_text (Items by) 0 ps ++ tail_text (Items by) (k == 0)) (omega arith)
    ∙ list_from (Items by) Square (λ f p. refl) (λ e. refl) 0 ps
all_text Members ps =
    ap (λ k. parts_text Members 0 ps ++ tail_text Members (k == 0)) (omega arith)
    ∙ list_from Members Curly (λ f p. refl) (λ e. refl) 0 ps
all_text JsonLines ps = append-nil (parts_text JsonLines 0 ps) ∙ lines_from 0 ps
all_text Lines ps = append-nil (parts_text Lines 0 ps) ∙ entries_from 0 ps
