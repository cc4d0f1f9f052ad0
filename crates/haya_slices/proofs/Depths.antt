-- Bytes within brackets of an element.
use Rattle.std.proofs.Common.{◌≡◌, ℕ, zero, suc, ◌+◌, ◌-◌, ◌<◌, ◌≤◌, ◌==◌, ◌||◌, ◌⊎◌, Bool, true, false, cond, List, ◌++◌, length, take, get_or, Option, None, Some, inl, inr, refl, sym, ap, ◌∙◌, arith}
use Rattle.std.proofs.lemmas.Bool.{true≢false, false≢true}
use Rattle.json.specs.Lex.{Class, class, quote, backslash, operator, space, other}
use Rattle.haya_json_elements.specs.Steps.{Step, closing_step, comma_step, element_step, opening_step, operator_step, step}
use Rattle.haya_json_elements.specs.declared.place.Brackets.{Brackets}
use Rattle.haya_json_elements.specs.declared.place.Mode.{Mode}
use Rattle.haya_json_elements.specs.declared.place.Mode.TheVariants.{Between, Word, Text, Escape}
use Rattle.haya_json_elements.specs.declared.place.Place.TheVariants.{Element, Next}
use Rattle.haya_slices.specs.Layout.{inside, is_outside_string, within}
use Rattle.haya_slices.specs.Sought.{IsFirst, is_bracket, is_sought}
use Rattle.haya_slices.specs.declared.signs.Sought.TheVariants.{Turn}
use Rattle.haya_slices.proofs.Classes.{class_tells}
use Rattle.haya_slices.proofs.Scanned.{between_word, leads_more}

-- ---- a byte

-- what a byte is part of that is no quote and no bracket
abbrev part : Class → Mode
part quote = Word
part backslash = Word
part operator = Between
part space = Between
part other = Word

part-outside : (c : Class) → is_outside_string (part c) ≡ true
part-outside quote = refl
part-outside backslash = refl
part-outside operator = refl
part-outside space = refl
part-outside other = refl

-- outside of strings a byte that is no quote leads where it does in a word
outside_word : (b : Brackets) (m : Mode) (d x : ℕ) → is_outside_string m ≡ true → (x == 34) ≡ false → step b (Element m d) x ≡ step b (Element Word d) x
outside_word b Between d x out none = between_word b d x none
outside_word b Word d x out none = refl
outside_word b Text d x out none = absurd (false≢true out)
outside_word b Escape d x out none = absurd (false≢true out)

apart : (p q : Bool) → (p || q) ≡ false → (p ≡ false) × (q ≡ false)
apart false false h = (refl, refl)
apart false true h = absurd (true≢false h)
apart true q h = absurd (true≢false h)

-- a comma or a colon within brackets
separates : (b : Brackets) (d x : ℕ) → (d == 0) ≡ false → is_bracket x ≡ false → within (operator_step b d x).0 ≡ Some (Between, d)
separates b d x deep none = by ((x == 123) || (x == 91)) ((x == 125) || (x == 93)) (x == 44) (apart ((x == 123) || (x == 91)) _ none)
  where
    by : (t u w : Bool) → (t ≡ false) × (u ≡ false)
        → within (cond {A = Step} t (opening_step d x) (cond {A = Step} u (closing_step b d x) (cond {A = Step} w (comma_step d) (Element Between d, x)))).0 ≡ Some (Between, d)
    by true u w h = absurd (true≢false h.0)
    by false true w h = absurd (true≢false h.1)
    by false false true h = ap (λ t. within (cond {A = Step} t (Next, 10) (Element Between d, 44)).0) deep
    by false false false h = refl

-- A byte that is no quote and no bracket leads neither into a string nor to another depth,
module _ (b : Brackets) (d x : ℕ) (deep : (d == 0) ≡ false) (none : is_sought Turn x ≡ false) where
  stays_word : (c : Class) → class x ≡ c → within (element_step b Word d (class x) x).0 ≡ Some (part (class x), d)
  stays_word quote k = absurd (true≢false (sym (class_tells x quote k) ∙ (apart (x == 34) _ none).0))
  stays_word backslash k = ap (λ c. within (element_step b Word d c x).0) k ∙ sym (ap (λ c. Some (part c, d)) k)
  stays_word operator k =
      ap (λ c. within (element_step b Word d c x).0) k ∙ separates b d x deep (apart (x == 34) _ none).1
      ∙ sym (ap (λ c. Some (part c, d)) k)
  stays_word space k = ap (λ c. within (element_step b Word d c x).0) k ∙ sym (ap (λ c. Some (part c, d)) k)
  stays_word other k = ap (λ c. within (element_step b Word d c x).0) k ∙ sym (ap (λ c. Some (part c, d)) k)

  pub stays : (m : Mode) → is_outside_string m ≡ true → within (step b (Element m d) x).0 ≡ Some (part (class x), d)
  stays m out = ap (λ s. within s.0) (outside_word b m d x out (apart (x == 34) _ none).0) ∙ stays_word (class x) refl

-- ---- bytes

abbrev mode_in : Option (Mode × ℕ) → Mode
mode_in None = Between
mode_in (Some p) = p.0

-- what the last of some bytes is part of
abbrev pub behind : List ℕ → ℕ → Mode
behind xs zero = Between
behind xs (suc n) = part (class (get_or xs n 0))

pub behind-outside : (xs : List ℕ) (n : ℕ) → is_outside_string (behind xs n) ≡ true
behind-outside xs zero = refl
behind-outside xs (suc n) = part-outside (class (get_or xs n 0))

-- and nor do some.
pub stay : (b : Brackets) (d : ℕ) (xs : List ℕ) (n : ℕ) → (d == 0) ≡ false → n ≤ length xs
    → ((k : ℕ) → k < n → is_sought Turn (get_or xs k 0) ≡ false) → (ys : List ℕ)
    → inside b Between d (take n xs ++ ys) ≡ inside b (behind xs n) d ys
stay b d xs zero deep l none ys = refl
stay b d xs (suc n) deep l none ys =
    let more : suc n ≡ n + 1 = omega arith in
    ap (λ k. inside b Between d (take k xs ++ ys)) more
    ∙ leads_more b Between d xs n (behind xs n) d (omega arith) (stay b d xs n deep (omega arith) (λ k m. none k (omega arith)))
    (behind xs (suc n)) d (stays b d (get_or xs n 0) deep (none n (omega arith)) (behind xs n) (behind-outside xs n)) ys

-- ---- the byte behind them
module _ (b : Brackets) (d : ℕ) (xs : List ℕ) (n : ℕ) (deep : (d == 0) ≡ false) (first : IsFirst Turn xs n) where
  there : (next : Mode) (after : ℕ) → within (step b (Element (behind xs n) d) (get_or xs n 0)).0 ≡ Some (next, after)
      → (ys : List ℕ) → inside b Between d (take (n + 1) xs ++ ys) ≡ inside b next after ys
  there next after leads =
      leads_more b Between d xs n (behind xs n) d first.within (stay b d xs n deep (omega (arith, first.within)) first.before) next after leads

  -- a bracket
  pub bracket_leads : (next : Mode) (after : ℕ) → (get_or xs n 0 == 34) ≡ false → within (step b (Element Word d) (get_or xs n 0)).0 ≡ Some (next, after)
      → (ys : List ℕ) → inside b Between d (take (n + 1) xs ++ ys) ≡ inside b next after ys
  bracket_leads next after none leads =
      there next after (ap (λ s. within s.0) (outside_word b (behind xs n) d (get_or xs n 0) (behind-outside xs n) none) ∙ leads)

  -- a quote, where no word is in front of it
  pub quote_leads : get_or xs n 0 ≡ 34 → behind xs n ≡ Between → (ys : List ℕ) → inside b Between d (take (n + 1) xs ++ ys) ≡ inside b Text d ys
  quote_leads is between =
      there Text d (ap (λ m. within (step b (Element m d) (get_or xs n 0)).0) between ∙ ap (λ x. within (step b (Element Between d) x).0) is)

  -- no word is in front of it where the last byte leads between two tokens
  pub between : (n ≡ 0) ⊎ ((deeper : ℕ) × ((b : Brackets) → within (step b (Element Word d) (get_or xs (n - 1) 0)).0 ≡ Some (Between, deeper))) → behind xs n ≡ Between
  between (inl h) = ap (behind xs) h
  between (inr h) = by n refl
    where
      by : (m : ℕ) → n ≡ m → behind xs m ≡ Between
      by zero e = refl
      by (suc m) e =
          let last : n - 1 ≡ m = omega arith in
          ap mode_in (sym (stays b d (get_or xs m 0) deep (first.before m (omega arith)) Word refl)
          ∙ ap (λ k. within (step b (Element Word d) (get_or xs k 0)).0) (sym last) ∙ h.1 b)
