-- Bytes that stay as they are, many at once, and the one behind them.
use Rattle.std.proofs.Common.{◌≡◌, ◌+◌, ◌<◌, ◌≤◌, ℕ, zero, suc, List, [], ◌∷◌, ◌++◌, append_assoc, arith, drop, get_or, length, refl, set, sym, take, ap, ◌∙◌}
use Rattle.std.proofs.Math.Seq.{take-add}
use Rattle.std.proofs.lemmas.List.{length-set, drop-drop, drop_more, drop-set-lt, take_more_set}
use Rattle.haya_json_elements.specs.Elements.{lines_from}
use Rattle.haya_json_elements.specs.Steps.{KeepsFirst, step}
use Rattle.haya_json_elements.specs.declared.place.Brackets.{Brackets}
use Rattle.haya_json_elements.specs.declared.place.Place.{Place}

kept_lines : (b : Brackets) (p : Place) (n : ℕ) (xs more : List ℕ) → n ≤ length xs
    → KeepsFirst p n xs → lines_from b p (xs ++ more) ≡ take n xs ++ lines_from b p (drop n xs ++ more)
kept_lines b p zero xs more within keeps = refl
kept_lines b p (suc n) [] more within keeps = absurd (omega (arith, within))
kept_lines b p (suc n) (x ∷ xs) more within keeps =
    ap (λ s. s.1 ∷ lines_from b s.0 (xs ++ more)) (keeps 0 (omega arith) b)
    ∙ ap (λ l. x ∷ l) (kept_lines b p n xs more (omega (arith, within))
    (λ k below. keeps (suc k) (omega (arith, below))))

-- lines of some bytes are in place of those up to here, and the others are still to come
abbrev pub AreInPlace : Brackets → Place → List ℕ → Place → ℕ → List ℕ → Type 0
AreInPlace b first text p at xs =
    (at ≤ length xs) × (length xs ≡ length text)
    × ((more : List ℕ) → lines_from b first (text ++ more)
    ≡ take at xs ++ lines_from b p (drop at xs ++ more))

-- behind bytes that are kept
pub kept_more : (b : Brackets) (first : Place) (text : List ℕ) (p : Place) (at n : ℕ)
    (xs : List ℕ) → AreInPlace b first text p at xs → at + n ≤ length xs → n ≤ length (drop at xs)
    → KeepsFirst p n (drop at xs) → AreInPlace b first text p (at + n) xs
kept_more b first text p at n xs h within there keeps = (
  within,
  h.1,
  λ more.
      h.2 more
      ∙ ap (λ l. take at xs ++ l) (kept_lines b p n (drop at xs) more there keeps)
      ∙ sym (append_assoc (take at xs) (take n (drop at xs)) (lines_from b p (drop n (drop at xs) ++ more)))
      ∙ ap (λ l. l ++ lines_from b p (drop n (drop at xs) ++ more)) (sym (take-add at n xs))
      ∙ ap (λ l. take (at + n) xs ++ lines_from b p (l ++ more)) (drop-drop n at xs),
)

-- behind a byte more, which is put in its place
pub one_more : (b : Brackets) (first : Place) (text : List ℕ) (p next : Place) (put at : ℕ)
    (xs : List ℕ) → AreInPlace b first text p at xs → at < length xs
    → (next, put) ≡ step b p (get_or xs at 0)
    → AreInPlace b first text next (at + 1) (set xs at put)
one_more b first text p next put at xs h within is =
    let same : length (set xs at put) ≡ length xs = length-set xs at put in (
      omega (arith, same),
      same ∙ h.1,
      λ more.
          h.2 more
          ∙ ap (λ l. take at xs ++ lines_from b p (l ++ more)) (drop_more xs at 0 within)
          ∙ ap (λ s. take at xs ++ s.1 ∷ lines_from b s.0 (drop (at + 1) xs ++ more)) (sym is)
          ∙ sym (append_assoc (take at xs) (put ∷ []) (lines_from b next (drop (at + 1) xs ++ more)))
          ∙ ap (λ l. l ++ lines_from b next (drop (at + 1) xs ++ more)) (sym (take_more_set xs at put within))
          ∙ ap (λ l. take (at + 1) (set xs at put) ++ lines_from b next (l ++ more))
          (sym (drop-set-lt (at + 1) xs at put (omega arith))),
    )
