-- The bytes of a number in JSON: digits, signs, a dot and an `e`.
use Rattle.std.proofs.Common.{◌≡◌, ℕ, suc, ◌+◌, ◌<◌, ◌≤◌, Bool, true, false, cond, ◌||◌, ◌==◌, List, [], ◌∷◌, ◌++◌, drop, get_or, Option, Some, None, option_and_then, refl, sym, ap, ◌∙◌, subst, arith, append_assoc, append-nil}
use Rattle.std.specs.Prelude.{⊤, All}
use Rattle.std.specs.Char.{is_ascii_digit}
use Rattle.std.specs.List.{prefix_len}
use Rattle.std.proofs.lemmas.Bool.Decides.{nat_tests}
use Rattle.std.proofs.lemmas.List.Elements.{All-append, All-cons, All-nil}
use Rattle.json.specs.Print.{IsNumber}
use Rattle.json.specs.Word.{head, after_digits, after_minus, after_sign, after_fraction, after_exponent, after_number}

-- from `+` to `e`
abbrev pub IsNumberByte : ℕ → Type 0
IsNumberByte b = (43 ≤ b) × (b < 102)

-- the text is these bytes of a number, and what is left
record Eaten (t r : List ℕ) : Type 0 where
  front : List ℕ
  joined : t ≡ front ++ r
  bytes : All IsNumberByte front

-- so it is, if something is left
abbrev Eats : List ℕ → Option (List ℕ) → Type 0
Eats t None = ⊤
Eats t (Some r) = Eaten t r

-- nothing is taken
none_eaten : (t : List ℕ) → Eaten t t
none_eaten t = record { front = []; joined = refl; bytes = All-nil IsNumberByte }

-- bytes of a number, and then more of them
further : (t u : List ℕ) (o : Option (List ℕ)) → Eaten t u → Eats u o → Eats t o
further t u None e h = tt
further t u (Some r) e h = record {
  front = e.front ++ h.front;
  joined = e.joined ∙ ap (λ l. e.front ++ l) h.joined ∙ sym (append_assoc e.front h.front r);
  bytes = All-append IsNumberByte e.front h.front e.bytes h.bytes;
}

-- one of two that are taken
either : (t : List ℕ) (b : Bool) (x y : Option (List ℕ)) → (b ≡ true → Eats t x) → Eats t y → Eats t (cond b x y)
either t true x y p q = p refl
either t false x y p q = q

-- the first byte, and a space where there is none
one_eaten : (t : List ℕ) → IsNumberByte (get_or t 0 32) → Eaten t (drop 1 t)
one_eaten [] h = none_eaten []
one_eaten (x ∷ xs) h = record { front = x ∷ []; joined = refl; bytes = All-cons IsNumberByte x [] h (All-nil IsNumberByte) }

-- the first byte, if a test holds
optional : (t : List ℕ) (b : Bool) → (b ≡ true → IsNumberByte (get_or t 0 32)) → Eaten t (cond b (drop 1 t) t)
optional t true h = one_eaten t (h refl)
optional t false h = none_eaten t

-- the digits in front
digits_eaten : (t : List ℕ) → Eaten t (drop (prefix_len is_ascii_digit t) t)
digits_eaten [] = none_eaten []
digits_eaten (x ∷ xs) = by (is_ascii_digit x) refl (digits_eaten xs)
  where
    by : (b : Bool) → is_ascii_digit x ≡ b → Eaten xs (drop (prefix_len is_ascii_digit xs) xs) → Eaten (x ∷ xs) (drop (cond b (1 + prefix_len is_ascii_digit xs) 0) (x ∷ xs))
    by true e more =
        let low : 43 ≤ x = grind (arith, nat_tests) in
        let high : x < 102 = grind (arith, nat_tests) in
        let next : 1 + prefix_len is_ascii_digit xs ≡ suc (prefix_len is_ascii_digit xs) = omega arith in
        rw next (record { front = x ∷ more.front; joined = ap (λ l. x ∷ l) more.joined; bytes = All-cons IsNumberByte x more.front (low, high) more.bytes })
    by false e more = none_eaten (x ∷ xs)

-- at least one digit
digits : (t : List ℕ) → Eats t (after_digits t)
digits t = either t (prefix_len is_ascii_digit t == 0) None _ (λ e. tt) (digits_eaten t)

-- what is taken behind what was taken
then : (t : List ℕ) (f : List ℕ → Option (List ℕ)) → ((u : List ℕ) → Eats u (f u)) → (o : Option (List ℕ)) → Eats t o → Eats t (option_and_then f o)
then t f g None h = tt
then t f g (Some r) h = further t r (f r) h (g r)

-- a byte that is one of a number
is_byte : (x y : ℕ) → (x == y) ≡ true → 43 ≤ y → y < 102 → IsNumberByte x
is_byte x y e low high = let same : x ≡ y = grind (arith, nat_tests) in (omega arith, omega arith)

-- the same of either of two bytes
either_byte : (x y z : ℕ) → ((x == y) || (x == z)) ≡ true → IsNumberByte y → IsNumberByte z → IsNumberByte x
either_byte x y z e h k = by (x == y) refl e
  where
    by : (b : Bool) → (x == y) ≡ b → (b || (x == z)) ≡ true → IsNumberByte x
    by true same all = is_byte x y same h.0 h.1
    by false other all = is_byte x z all k.0 k.1

-- a dot and digits, if there is a dot
fraction : (t : List ℕ) → Eats t (after_fraction t)
fraction t =
    either t (head t == 46) _ (Some t) (λ e. further t (drop 1 t) _ (one_eaten t (is_byte (head t) 46 e (omega arith) (omega arith))) (digits (drop 1 t))) (none_eaten t)

-- an `e`, a sign and digits, if there is an `e`
exponent : (t : List ℕ) → Eats t (after_exponent t)
exponent t =
    let u : List ℕ = drop 1 t in
    either t ((head t == 101) || (head t == 69)) _ (Some t)
    (λ e. further t u _ (one_eaten t (either_byte (head t) 101 69 e (omega arith, omega arith) (omega arith, omega arith)))
    (further u (after_sign u) _ (optional u _ (λ f. either_byte (head u) 45 43 f (omega arith, omega arith) (omega arith, omega arith))) (digits (after_sign u))))
    (none_eaten t)

-- what is taken of a number
number_eaten : (t : List ℕ) → Eats t (after_number t)
unfolding after_number
number_eaten t =
    let u : List ℕ = after_minus t in
    then t after_exponent exponent _
    (then t after_fraction fraction _
    (further t u _ (optional t _ (λ e. is_byte (head t) 45 e (omega arith) (omega arith)))
    (either u (head u == 48) (Some (drop 1 u)) _ (λ e. one_eaten u (is_byte (head u) 48 e (omega arith) (omega arith))) (digits u))))

-- a number is of these bytes
pub number_bytes : (s : List ℕ) → IsNumber s → All IsNumberByte s
number_bytes s e =
    let eaten : Eaten s [] = subst (Eats s) e (number_eaten s) in
    subst (All IsNumberByte) (sym (eaten.joined ∙ append-nil eaten.front)) eaten.bytes
