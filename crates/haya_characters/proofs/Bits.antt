-- The bits of ASCII.
use Rattle.std.proofs.Common.{◌≡◌, ◌<◌, ℕ, ◌+◌, List, [], ◌∷◌, All, map, length, take, get_or, refl, ap, ◌∙◌, arith}
use Rattle.std.proofs.Math.Nat.{mod-eq_of_lt}
use Rattle.std.proofs.lemmas.Grind.{get_or_default_zero}
use Rattle.std.proofs.lemmas.List.Elements.{All-head, All-tail}
use Rattle.std.proofs.lemmas.Nat.{and_mask, le_or_l, le_or_r}
use Rattle.std.proofs.lemmas.Str.Ascii.{All-from_ascii, IsAscii-more}
use Rattle.std.specs.Int.Bits.{bit_and, bit_or}
use Rattle.std.proofs.lemmas.Str.{chars-IsAscii}
use Rattle.std.specs.Str.{IsAscii, chars}

-- one more character, whose bits are among those of all
pub ascii_more : (xs : List ℕ) (i c old new : ℕ) → i < length xs → c ≡ get_or xs i c → new ≡ bit_or old c
    → (old < 128 → IsAscii (take i xs)) → new < 128 → IsAscii (take (i + 1) xs)
ascii_more xs i c old new l at is so_far low =
    let a : old < 128 = omega (arith, le_or_l old c) in
    let b : c < 128 = omega (arith, le_or_r old c) in
    let h : get_or xs i 0 < 128 = omega (arith, at, get_or_default_zero xs i c l) in
    IsAscii-more xs i l (so_far a) h

low_bits : (c : ℕ) → c < 128 → bit_and c 127 ≡ c
low_bits c h = and_mask c 7 ∙ mod-eq_of_lt h

all_low : (xs : List ℕ) → All (λ b. b < 128) xs → map (λ c. bit_and c 127) xs ≡ xs
all_low [] h = refl
all_low (c ∷ cs) h =
    let front : bit_and c 127 ≡ c = low_bits c (All-head (λ b. b < 128) c cs h) in
    let rest : map (λ c. bit_and c 127) cs ≡ cs = all_low cs (All-tail (λ b. b < 128) c cs h) in
    ap (λ x. x ∷ map (λ c. bit_and c 127) cs) front ∙ ap (λ l. c ∷ l) rest

-- characters of ASCII are their low bits
pub ascii_low : (xs : List ℕ) → IsAscii xs → map (λ c. bit_and c 127) xs ≡ xs
ascii_low xs h = all_low xs (All-from_ascii xs h)

-- a text of the low bits of characters of ASCII is theirs
pub ascii_text : (xs bs : List ℕ) → IsAscii xs → bs ≡ map (λ c. bit_and c 127) xs → chars bs ≡ xs
ascii_text xs bs h e =
    let same : bs ≡ xs = e ∙ ascii_low xs h in
    rw same (chars-IsAscii xs h)
