-- What a byte's class says of it, and of the byte that is put in its place.
use Rattle.std.proofs.Common.{◌≡◌, ℕ, ◌+◌, ◌-◌, ◌≤◌, Bool, true, false, ◌||◌, ◌==◌, nat_lt, cond, List, [], ◌∷◌, inl, inr, ◌⊎◌, refl, sym, ap, ◌∙◌, subst, ⊎_elim, arith}
use Rattle.std.proofs.lemmas.Bool.{true≢false, eqb-true, ne_eqb, or_cases, or_left, or_right, or_parts, cond_both}
use Rattle.json.specs.Align.{is_blank}
use Rattle.json.specs.Word.{is_operator, is_space}
use Rattle.json.specs.Lex.{Class, class, quote, backslash, operator, space, other, Mode as LexMode, lex_byte, lex}
use Rattle.haya_json_elements.specs.Steps.{Step, operator_step, start_step, comma_step, blank_byte, closing_bracket, closing_step, element_step, text_byte, lost_step, space_step, opening_bracket, opening_step, step}
use Rattle.haya_json_elements.specs.Elements.{elements, end_of, lines_from}
use Rattle.haya_json_elements.specs.declared.place.Brackets.{Brackets}
use Rattle.haya_json_elements.specs.declared.place.Mode.{Mode}
use Rattle.haya_json_elements.specs.declared.place.Mode.TheVariants.{Between, Word, Text, Escape}
use Rattle.haya_json_elements.specs.declared.place.Place.{Place}
use Rattle.haya_json_elements.specs.declared.place.Place.TheVariants.{Front, Opened, Next, Element, Closed, Lost}
use Rattle.haya_json_elements.proofs.Pieces.{HasNo, nonempty_lines-pieces, pieces}
use Rattle.haya_json_elements.proofs.Words.{is_word_end}

-- the tests that make a class: of a quote, a backslash, an operator and a space
abbrev pub Tells : Class → Bool → Bool → Bool → Bool → Type 0
Tells quote q b o s = q ≡ true
Tells backslash q b o s = (q ≡ false) × (b ≡ true)
Tells operator q b o s = (q ≡ false) × (b ≡ false) × (o ≡ true)
Tells space q b o s = (q ≡ false) × (b ≡ false) × (o ≡ false) × (s ≡ true)
Tells other q b o s = (q ≡ false) × (b ≡ false) × (o ≡ false) × (s ≡ false)

tells : (q b o s : Bool) → Tells (cond q quote
    (cond b backslash (cond o operator (cond s space other)))) q b o s
tells true b o s = refl
tells false true o s = (refl, refl)
tells false false true s = (refl, refl, refl)
tells false false false true = (refl, refl, refl, refl)
tells false false false false = (refl, refl, refl, refl)

pub class_tells : (x : ℕ) (c : Class) → class x ≡ c
    → Tells c (x == 34) (x == 92) (is_operator x) (is_space x)
class_tells x c e =
    subst (λ k. Tells k (x == 34) (x == 92) (is_operator x) (is_space x)) e
    (tells (x == 34) (x == 92) (is_operator x) (is_space x))

-- An operator and a space end a word.
pub operator_ends : (x : ℕ) → class x ≡ operator → is_word_end x ≡ true
operator_ends x k = or_left (is_operator x) (is_space x) (class_tells x operator k).2

pub space_ends : (x : ℕ) → class x ≡ space → is_word_end x ≡ true
space_ends x k = or_right (is_operator x) (is_space x) (class_tells x space k).3

-- a byte that is no space is none of the spaces
pub apart : (x n : ℕ) (c : Class) → class x ≡ c → is_blank c ≡ false → is_blank (class n) ≡ true
    → (x == n) ≡ false
apart x n c e h k =
    ne_eqb x n (λ p. true≢false (sym k ∙ ap (λ y. is_blank (class y)) (sym p) ∙ ap is_blank e ∙ h))

-- a byte of a class, in a mode of the lexer
pub lex_class : (m : LexMode) (x : ℕ) (xs : List ℕ) (c : Class) → class x ≡ c
    → lex m (x ∷ xs) ≡ lex_byte m c x xs (λ n. lex n xs)
unfolding lex
lex_class m x xs c k = ap (λ a. lex_byte m a x xs (λ n. lex n xs)) k

-- ---- the bytes that are put in place of others
pub blank_class : (x : ℕ) → class (blank_byte x) ≡ space
blank_class x = cond_both (x == 10) 9 32 (λ y. class y ≡ space) (λ e. refl) (λ e. refl)

pub blank_feed : (x : ℕ) → (blank_byte x == 10) ≡ false
blank_feed x = cond_both (x == 10) 9 32 (λ y. (y == 10) ≡ false) (λ e. refl) (λ e. refl)

blank_return : (x : ℕ) → (blank_byte x == 13) ≡ false
blank_return x = cond_both (x == 10) 9 32 (λ y. (y == 13) ≡ false) (λ e. refl) (λ e. refl)

-- a byte that ends a line is a space
ends_line : (x : ℕ) → ((x == 10) || (x == 13)) ≡ true → space ≡ class x
ends_line x e =
    ⊎_elim (λ p. sym (ap class (eqb-true x 10 p))) (λ p. sym (ap class (eqb-true x 13 p)))
    (or_cases _ _ e)

pub text_class : (x : ℕ) → class (text_byte x) ≡ class x
text_class x =
    cond_both ((x == 10) || (x == 13)) 9 x (λ y. class y ≡ class x) (ends_line x) (λ e. refl)

pub text_feed : (x : ℕ) → (text_byte x == 10) ≡ false
text_feed x =
    cond_both ((x == 10) || (x == 13)) 9 x (λ y. (y == 10) ≡ false) (λ e. refl)
    (λ e. (or_parts _ _ e).0)

text_return : (x : ℕ) → (text_byte x == 13) ≡ false
text_return x =
    cond_both ((x == 10) || (x == 13)) 9 x (λ y. (y == 13) ≡ false) (λ e. refl)
    (λ e. (or_parts _ _ e).1)

-- a byte is itself where what is put in its place is no control character
pub text_byte-unchanged : (x : ℕ) → 32 ≤ text_byte x → text_byte x ≡ x
text_byte-unchanged x =
    cond_both ((x == 10) || (x == 13)) 9 x (λ y. 32 ≤ y → y ≡ x)
    (λ e h. let no : ⊥ = omega arith in absurd no) (λ e h. refl)

-- a byte that is no control character stays as it is
pub text_byte-plain : (x : ℕ) → 32 ≤ x → text_byte x ≡ x
text_byte-plain x h =
    cond_both ((x == 10) || (x == 13)) 9 x (λ y. y ≡ x)
    (λ e. absurd (no_end (or_cases (x == 10) (x == 13) e))) (λ e. refl)
  where
    no_end : ((x == 10) ≡ true) ⊎ ((x == 13) ≡ true) → ⊥
    no_end (inl e) = let is : x ≡ 10 = eqb-true x 10 e in omega arith
    no_end (inr e) = let is : x ≡ 13 = eqb-true x 13 e in omega arith

-- ---- steps at operators

-- A property of each outcome of a step at an opening bracket is one of the step,
pub opening_step-each : (P : Step → Type 0) (d x : ℕ) → P lost_step → P (Element Between (d + 1), x)
    → P (opening_step d x)
opening_step-each P d x lost inside =
    cond_both (nat_lt d 128) (Element Between (d + 1), x) lost_step P (λ e. inside) (λ e. lost)

pub closing_step-each : (P : Step → Type 0) (b : Brackets) (d x : ℕ) → P lost_step
    → ((x == closing_bracket b) ≡ true → P (Closed, 10)) → P (Element Between (d - 1), x)
    → P (closing_step b d x)
closing_step-each P b d x lost closed inside =
    cond_both (d == 0) (cond (x == closing_bracket b) (Closed, 10) lost_step)
    (Element Between (d - 1), x) P
    (λ e. cond_both (x == closing_bracket b) (Closed, 10) lost_step P closed (λ k. lost))
    (λ e. inside)

pub comma_step-each : (P : Step → Type 0) (d : ℕ) → P (Next, 10) → P (Element Between d, 44)
    → P (comma_step d)
comma_step-each P d next inside =
    cond_both (d == 0) (Next, 10) (Element Between d, 44) P (λ e. next) (λ e. inside)

-- and so it is at any operator.
pub operator_step-each : (P : Step → Type 0) (b : Brackets) (d x : ℕ) → P lost_step → P (Next, 10)
    → P (Closed, 10) → ((n : ℕ) → P (Element Between n, x)) → P (operator_step b d x)
operator_step-each P b d x lost next closed inside =
    let comma : (x == 44) ≡ true → P (Element Between d, 44) =
    λ e. subst (λ y. P (Element Between d, y)) (eqb-true x 44 e) (inside d) in
    cond_both ((x == 123) || (x == 91)) (opening_step d x) _ P
    (λ e. opening_step-each P d x lost (inside (d + 1)))
    (λ e. cond_both ((x == 125) || (x == 93)) (closing_step b d x) _ P
    (λ k. closing_step-each P b d x lost (λ m. closed) (inside (d - 1)))
    (λ k. cond_both (x == 44) (comma_step d) (Element Between d, x) P
    (λ m. comma_step-each P d next (comma m)) (λ m. inside d)))

-- ---- no carriage return is put anywhere

-- the step puts no carriage return
abbrev NoReturn : Step → Type 0
NoReturn s = (s.1 == 13) ≡ false

operator_return : (b : Brackets) (d x : ℕ) → (x == 13) ≡ false → NoReturn (operator_step b d x)
operator_return b d x h = operator_step-each NoReturn b d x refl refl refl (λ n. h)

element_return : (b : Brackets) (m : Mode) (d : ℕ) (c : Class) (x : ℕ) → class x ≡ c
    → NoReturn (element_step b m d c x)
element_return b Between d quote x e = apart x 13 quote e refl refl
element_return b Between d backslash x e = apart x 13 backslash e refl refl
element_return b Between d operator x e = operator_return b d x (apart x 13 operator e refl refl)
element_return b Between d space x e = blank_return x
element_return b Between d other x e = apart x 13 other e refl refl
element_return b Word d quote x e = apart x 13 quote e refl refl
element_return b Word d backslash x e = apart x 13 backslash e refl refl
element_return b Word d operator x e = operator_return b d x (apart x 13 operator e refl refl)
element_return b Word d space x e = blank_return x
element_return b Word d other x e = apart x 13 other e refl refl
element_return b Text d quote x e = apart x 13 quote e refl refl
element_return b Text d backslash x e = apart x 13 backslash e refl refl
element_return b Text d operator x e = apart x 13 operator e refl refl
element_return b Text d space x e = text_return x
element_return b Text d other x e = text_return x
element_return b Escape d c x e = text_return x

space_return : (p : Place) (c : Class) → NoReturn (space_step p c)
space_return p quote = refl
space_return p backslash = refl
space_return p operator = refl
space_return p space = refl
space_return p other = refl

begins_return : (b : Brackets) (p : Place) (c : Class) (x : ℕ) → class x ≡ c
    → NoReturn (start_step b p c x)
begins_return b p quote x e = element_return b Between 0 quote x e
begins_return b p backslash x e = element_return b Between 0 backslash x e
begins_return b p operator x e =
    let other_byte = apart x 13 operator e refl refl in
    cond_both ((x == 123) || (x == 91)) (opening_step 0 x) lost_step NoReturn
    (λ k. opening_step-each NoReturn 0 x refl other_byte) (λ k. refl)
begins_return b p space x e = refl
begins_return b p other x e = element_return b Between 0 other x e

step_return : (b : Brackets) (p : Place) (x : ℕ) → NoReturn (step b p x)
step_return b Front x =
    cond_both (x == opening_bracket b) (Opened, 10) (space_step Front (class x)) NoReturn
    (λ e. refl) (λ e. space_return Front (class x))
step_return b Opened x =
    cond_both (x == closing_bracket b) (Closed, 10) (start_step b Opened (class x) x) NoReturn
    (λ e. refl) (λ e. begins_return b Opened (class x) x refl)
step_return b Next x = begins_return b Next (class x) x refl
step_return b (Element m d) x = element_return b m d (class x) x refl
step_return b Closed x = space_return Closed (class x)
step_return b Lost x = refl

end_return : (p : Place) → HasNo 13 (end_of p)
end_return Front = (refl, tt)
end_return Opened = (refl, tt)
end_return Next = (refl, tt)
end_return (Element m d) = (refl, tt)
end_return Closed = tt
end_return Lost = tt

pub no_return : (b : Brackets) (p : Place) (xs : List ℕ) → HasNo 13 (lines_from b p xs)
no_return b p [] = end_return p
no_return b p (x ∷ xs) = (step_return b p x, no_return b (step b p x).0 xs)

-- The elements of a text are the pieces of its lines.
pub elements-pieces : (b : Brackets) (text : List ℕ)
    → elements b text ≡ pieces (lines_from b Front text)
elements-pieces b text = nonempty_lines-pieces (lines_from b Front text) (no_return b Front text)
