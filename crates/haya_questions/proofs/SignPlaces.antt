-- Where a text may be cut behind an operator.
use Rattle.std.proofs.Common.{◌≡◌, inl, inr, ℕ, ◌+◌, ◌<◌, List, length, get_or, sym, subst, arith}
use Rattle.std.proofs.lemmas.Bool.{cases_lt}
use Rattle.std.specs.Str.{IsCharBoundary, IsUtf8}
use Rattle.std.proofs.lemmas.List.{get_or_past}
use Rattle.std.proofs.lemmas.Str.{IsCharBoundary-after_ascii}
use Rattle.haya_questions.specs.TestText.{AreSigns, operator_text}
use Rattle.haya_questions.specs.declared.test.Operator.{Operator}

within : (text : List ℕ) (i : ℕ) → 0 < get_or text i 0 → i < length text
within text i some = elim (cases_lt i (length text)) [
  | inl less ↦ less
  | inr past ↦ let none : get_or text i 0 ≡ 0 = get_or_past text i 0 past in absurd (omega (arith, none, some))
]

-- behind the signs of an operator the text may be cut
pub behind_signs : (text : List ℕ) (i : ℕ) (operator : Operator) → IsUtf8 text → i < length text → AreSigns (get_or text i 0) (get_or text (i + 1) 0) operator
    → IsCharBoundary text (i + length (operator_text operator))
behind_signs text i operator utf8 l (ascii, inl one) =
    subst (λ n. IsCharBoundary text (i + n)) (sym one) (IsCharBoundary-after_ascii text i utf8 l ascii)
behind_signs text i operator utf8 l (ascii, inr two) =
    let second : i + 1 + 1 ≡ i + length (operator_text operator) = omega (arith, two.0) in
    subst (IsCharBoundary text) second (IsCharBoundary-after_ascii text (i + 1) utf8 (within text (i + 1) two.1) two.2)
