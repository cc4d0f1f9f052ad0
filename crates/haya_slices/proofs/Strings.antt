-- Strings and white space in an element.
use Rattle.std.proofs.Common.{◌≡◌, ℕ, zero, suc, ◌+◌, ◌<◌, ◌≤◌, ◌==◌, ◌||◌, Bool, true, false, List, [], ◌∷◌, ◌++◌, length, take, get_or, Some, option_and_then, inl, inr, ◌⊎◌, refl, sym, ap, ◌∙◌, arith}
use Rattle.std.proofs.lemmas.Bool.{true≢false, eqb-true, or_cases}
use Rattle.json.specs.Lex.{Class, class, quote, backslash, operator, space, other}
use Rattle.haya_json_elements.specs.Steps.{element_step, step}
use Rattle.haya_json_elements.specs.declared.place.Brackets.{Brackets}
use Rattle.haya_json_elements.specs.declared.place.Mode.TheVariants.{Between, Text, Escape}
use Rattle.haya_json_elements.specs.declared.place.Place.TheVariants.{Element}
use Rattle.haya_slices.specs.Layout.{IsWhite, inside, within}
use Rattle.haya_slices.specs.Sought.{is_sought}
use Rattle.haya_slices.specs.declared.signs.Sought.TheVariants.{Mark}
use Rattle.haya_slices.proofs.Classes.{class_tells}
use Rattle.haya_slices.proofs.Lines.{space_class}
use Rattle.haya_slices.proofs.Scanned.{leads_more}

-- a quote or a backslash
abbrev pub is_mark : ℕ → Bool
is_mark = is_sought Mark

-- any other byte stays in the string
plain : (b : Brackets) (d x : ℕ) → is_mark x ≡ false
    → within (step b (Element Text d) x).0 ≡ Some (Text, d)
plain b d x none = by (class x) refl
  where
    apart : (p q : Bool) → (p || q) ≡ false → (p ≡ false) × (q ≡ false)
    apart false false h = (refl, refl)
    apart false true h = absurd (true≢false h)
    apart true q h = absurd (true≢false h)

    by : (c : Class) → class x ≡ c → within (step b (Element Text d) x).0 ≡ Some (Text, d)
    by quote k = absurd (true≢false (sym (class_tells x quote k) ∙ (apart (x == 34) (x == 92) none).0))
    by backslash k = absurd (true≢false (sym (class_tells x backslash k).1 ∙ (apart (x == 34) (x == 92) none).1))
    by operator k = ap (λ c. within (element_step b Text d c x).0) k
    by space k = ap (λ c. within (element_step b Text d c x).0) k
    by other k = ap (λ c. within (element_step b Text d c x).0) k

-- and so do some
plain_leads : (b : Brackets) (d : ℕ) (xs : List ℕ) (n : ℕ) → n ≤ length xs
    → ((k : ℕ) → k < n → is_mark (get_or xs k 0) ≡ false)
    → (ys : List ℕ) → inside b Text d (take n xs ++ ys) ≡ inside b Text d ys
plain_leads b d xs zero l h ys = refl
plain_leads b d [] (suc n) l h ys = absurd (omega arith)
plain_leads b d (x ∷ xs) (suc n) l h ys =
    ap (option_and_then (λ p. inside b p.0 p.1 (take n xs ++ ys))) (plain b d x (h 0 (omega arith)))
    ∙ plain_leads b d xs n (omega arith) (λ k m. h (suc k) (omega arith)) ys

module _ (rest : List ℕ) (mark : ℕ) (none : (k : ℕ) → k < mark → is_mark (get_or rest k 0) ≡ false) where
  up_to : mark < length rest → (b : Brackets) (d : ℕ) (ys : List ℕ)
      → inside b Text d (take mark rest ++ ys) ≡ inside b Text d ys
  up_to l b d ys = plain_leads b d rest mark (omega arith) none ys

  -- a quote ends a string
  pub quoted : mark < length rest → get_or rest mark 0 ≡ 34 → (b : Brackets) (d : ℕ) (ys : List ℕ)
      → inside b Text d (take (mark + 1) rest ++ ys) ≡ inside b Between d ys
  quoted l is b d =
      leads_more b Text d rest mark Text d l (up_to l b d) Between d
      (ap (λ x. within (step b (Element Text d) x).0) is)

  -- a backslash and what is behind it don't
  pub escaped : mark + 1 < length rest → get_or rest mark 0 ≡ 92 → (b : Brackets) (d : ℕ) (ys : List ℕ)
      → inside b Text d (take (mark + 2) rest ++ ys) ≡ inside b Text d ys
  escaped l is b d ys =
      ap (λ n. inside b Text d (take n rest ++ ys)) (omega arith)
      ∙ leads_more b Text d rest (mark + 1) Escape d l
      (leads_more b Text d rest mark Text d (omega arith) (up_to (omega arith) b d) Escape d
      (ap (λ x. within (step b (Element Text d) x).0) is)) Text d refl ys

-- a mark that is no quote is a backslash
pub other_mark : (x : ℕ) → is_mark x ≡ true → (x == 34) ≡ false → x ≡ 92
other_mark x is not = by (or_cases (x == 34) (x == 92) is)
  where
    by : ((x == 34) ≡ true) ⊎ ((x == 92) ≡ true) → x ≡ 92
    by (inl h) = absurd (true≢false (sym h ∙ not))
    by (inr h) = eqb-true x 92 h

-- white space between two tokens leads nowhere else
pub white_leads : (b : Brackets) (d : ℕ) (ws : List ℕ) → IsWhite ws → (ys : List ℕ)
    → inside b Between d (ws ++ ys) ≡ inside b Between d ys
white_leads b d [] h ys = refl
white_leads b d (w ∷ ws) h ys =
    ap (λ c. option_and_then (λ p. inside b p.0 p.1 (ws ++ ys)) (within (element_step b Between d c w).0))
    (space_class w h.0)
    ∙ white_leads b d ws h.1 ys
