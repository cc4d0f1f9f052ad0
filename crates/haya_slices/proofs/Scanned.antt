-- Bytes that are looked at in turn.
use Rattle.std.proofs.Common.{◌≡◌, ℕ, zero, suc, ◌+◌, ◌<◌, ◌==◌, true, false, List, [], ◌∷◌, ◌++◌, length, take, drop, get_or, Option, Some, None, option_and_then, ◌⊎◌, refl, sym, ap, ◌∙◌, subst, arith, append_assoc, append-nil}
use Rattle.std.specs.Prelude.{IfSome}
use Rattle.std.proofs.lemmas.Bool.{true≢false}
use Rattle.std.proofs.lemmas.List.{take_more, drop_more}
use Rattle.json.specs.Word.{is_space}
use Rattle.json.specs.Lex.{Class, class, quote, backslash, operator, space, other}
use Rattle.haya_json_elements.specs.Steps.{closing_bracket, element_step, step}
use Rattle.haya_json_elements.specs.declared.place.Brackets.{Brackets}
use Rattle.haya_json_elements.specs.declared.place.Mode.{Mode}
use Rattle.haya_json_elements.specs.declared.place.Mode.TheVariants.{Between, Word}
use Rattle.haya_json_elements.specs.declared.place.Place.TheVariants.{Element, Next}
use Rattle.haya_slices.specs.Scan.{EndsAt}
use Rattle.haya_slices.proofs.Classes.{class_tells}
use Rattle.haya_slices.specs.Layout.{IsWhite, inside, inside_element, is_outside_string, within}

-- ---- lists

abbrev no_bytes : List ℕ
no_bytes = []

take-none : (k : ℕ) → take k no_bytes ≡ []
take-none zero = refl
take-none (suc k) = refl

pub take_plus : (i n : ℕ) (xs : List ℕ) → take (i + n) xs ≡ take i xs ++ take n (drop i xs)
take_plus zero n xs = ap (λ k. take k xs) (omega arith)
take_plus (suc i) n [] = take-none (suc i + n) ∙ sym (take-none n)
take_plus (suc i) n (x ∷ xs) =
    let more : suc i + n ≡ suc (i + n) = omega arith in
    ap (λ k. take k (x ∷ xs)) more ∙ ap (λ l. x ∷ l) (take_plus i n xs)

-- ---- white space

pub white-append : (xs ys : List ℕ) → IsWhite xs → IsWhite ys → IsWhite (xs ++ ys)
white-append [] ys h k = k
white-append (x ∷ xs) ys h k = (h.0, white-append xs ys h.1 k)

-- a byte more
pub white_more : (xs : List ℕ) (i : ℕ) → i < length xs → IsWhite (take i xs)
    → is_space (get_or xs i 0) ≡ true → IsWhite (take (i + 1) xs)
white_more xs i l h e =
    subst IsWhite (sym (take_more xs i 0 l)) (white-append (take i xs) (get_or xs i 0 ∷ []) h (e, tt))

-- a byte more in front
pub white_before : (xs : List ℕ) (i : ℕ) → i < length xs → IsWhite (drop (i + 1) xs)
    → is_space (get_or xs i 0) ≡ true → IsWhite (drop i xs)
white_before xs i l h e = subst IsWhite (sym (drop_more xs i 0 l)) (e, h)

-- ---- the inside of an element

-- Between two tokens a byte that is no quote leads where it does in a word.
pub between_word : (b : Brackets) (d x : ℕ) → (x == 34) ≡ false
    → step b (Element Between d) x ≡ step b (Element Word d) x
between_word b d x e = by (class x) refl
  where
    by : (c : Class) → class x ≡ c
        → element_step b Between d (class x) x ≡ element_step b Word d (class x) x
    by quote k = absurd (true≢false (sym (class_tells x quote k) ∙ e))
    by backslash k =
        ap (λ c. element_step b Between d c x) k ∙ sym (ap (λ c. element_step b Word d c x) k)
    by operator k =
        ap (λ c. element_step b Between d c x) k ∙ sym (ap (λ c. element_step b Word d c x) k)
    by space k =
        ap (λ c. element_step b Between d c x) k ∙ sym (ap (λ c. element_step b Word d c x) k)
    by other k =
        ap (λ c. element_step b Between d c x) k ∙ sym (ap (λ c. element_step b Word d c x) k)

-- A byte more leads on,
pub leads_more : (b : Brackets) (m : Mode) (d : ℕ) (xs : List ℕ) (i : ℕ) (n : Mode) (k : ℕ)
    → i < length xs → ((ys : List ℕ) → inside b m d (take i xs ++ ys) ≡ inside b n k ys)
    → (after : Mode) (deep : ℕ)
    → within (step b (Element n k) (get_or xs i 0)).0 ≡ Some (after, deep)
    → (ys : List ℕ) → inside b m d (take (i + 1) xs ++ ys) ≡ inside b after deep ys
leads_more b m d xs i n k l h after deep e ys =
    ap (λ t. inside b m d (t ++ ys)) (take_more xs i 0 l)
    ∙ ap (inside b m d) (append_assoc (take i xs) (get_or xs i 0 ∷ []) ys)
    ∙ h (get_or xs i 0 ∷ ys)
    ∙ ap (option_and_then (λ p. inside b p.0 p.1 ys)) e

-- and so do some.
pub leads_on : (b : Brackets) (m : Mode) (d : ℕ) (xs : List ℕ) (i j : ℕ) (n : Mode) (k : ℕ)
    → ((ys : List ℕ) → inside b m d (take i xs ++ ys) ≡ inside b n k ys)
    → (after : Mode) (deep : ℕ)
    → ((ys : List ℕ) → inside b n k (take j (drop i xs) ++ ys) ≡ inside b after deep ys)
    → (ys : List ℕ) → inside b m d (take (i + j) xs ++ ys) ≡ inside b after deep ys
leads_on b m d xs i j n k h after deep g ys =
    ap (λ t. inside b m d (t ++ ys)) (take_plus i j xs)
    ∙ ap (inside b m d) (append_assoc (take i xs) (take j (drop i xs)) ys)
    ∙ h (take j (drop i xs) ++ ys)
    ∙ g ys

-- the same bytes from where an element may begin
pub inside_from_start : (b : Brackets) (xs : List ℕ) (i : ℕ) (n : Mode) (k : ℕ) → 0 < i
    → i < length xs
    → step b Next (get_or xs 0 0) ≡ step b (Element Between 0) (get_or xs 0 0)
    → ((ys : List ℕ) → inside b Between 0 (take i xs ++ ys) ≡ inside b n k ys)
    → inside_element b (take i xs) ≡ Some (n, k)
inside_from_start b [] i n k some l e h = absurd (omega arith)
inside_from_start b (x ∷ xs) zero n k some l e h = absurd (omega arith)
inside_from_start b (x ∷ xs) (suc i) n k some l e h =
    ap (λ s. option_and_then (λ p. inside b p.0 p.1 (take i xs)) (within s.0)) e
    ∙ ap (inside b Between 0) (sym (append-nil (x ∷ take i xs)))
    ∙ h []

-- where an element may end
pub ends_there : (b : Brackets) (bytes : List ℕ) (at : ℕ) (mode : Mode) (depth : ℕ)
    (found : Option ℕ) → at < length bytes → is_outside_string mode ≡ true
    → IfSome found (λ n. (n ≡ at) × (0 < at) × (depth ≡ 0)
    × ((get_or bytes at 0 ≡ 44) ⊎ (get_or bytes at 0 ≡ closing_bracket b)))
    → (0 < at → inside_element b (take at bytes) ≡ Some (mode, depth))
    → IfSome found (EndsAt b bytes)
ends_there b bytes at mode depth None l o h closed = tt
ends_there b bytes at mode depth (Some n) l o h closed =
    subst (EndsAt b bytes) (sym h.0) (record {
      mode = mode;
      within = l;
      closed = closed h.1 ∙ ap (λ d. Some (mode, d)) h.2;
      outside = o;
      ends = h.3;
    })
