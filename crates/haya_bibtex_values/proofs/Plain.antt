-- Texts that no rule is about stand as they are.
use Rattle.std.specs.Prelude.{All}
use Rattle.std.proofs.Common.{◌≡◌, ◌==◌, ◌&&◌, ◌||◌, ◌<◌, ℕ, Bool, true, false, not, List, [], ◌∷◌, refl, ◌∙◌, ap, arith, encode_utf8_all}
use Rattle.std.proofs.lemmas.Bool.Decides.{nat_tests}
use Rattle.std.proofs.lemmas.List.Elements.{All-cons, All-nil}
use Rattle.std.proofs.lemmas.Str.{chars-IsAscii, encodes-IsAscii}
use Rattle.std.proofs.lemmas.Str.Ascii.{IsAscii-from_all}
use Rattle.std.specs.Char.{is_ascii_graphic, is_whitespace}
use Rattle.std.specs.Str.{chars, drop_trailing_whitespace, skip_leading_whitespace, trim, trim_end, trim_start, IsAscii}
use Rattle.haya_bibtex_values.specs.Standing.{as_it_stands, inside, piece_at, piece_of, standing}
use Rattle.std.proofs.Common.{Some}

-- a sign of ASCII that isn't white, but for $ \ { and }
abbrev pub is_plain : ℕ → Bool
is_plain c = is_ascii_graphic c && not ((c == 36) || (c == 92) || (c == 123) || (c == 125))

abbrev pub all_plain : List ℕ → Bool
all_plain [] = true
all_plain (c ∷ cs) = is_plain c && all_plain cs

both : (a b : Bool) → (a && b) ≡ true → (a ≡ true) × (b ≡ true)
both true true e = (refl, refl)
both true false e = cc
both false b e = cc

below_128 : (c : ℕ) → is_plain c ≡ true → c < 128
below_128 c e = grind (arith, nat_tests)

not_white : (c : ℕ) → is_plain c ≡ true → is_whitespace c ≡ false
not_white c e = grind (arith, nat_tests)

no_backslash : (c : ℕ) → is_plain c ≡ true → (c == 92) ≡ false
no_backslash c e = grind (arith, nat_tests)

itself : (c : ℕ) (cs : List ℕ) → is_plain c ≡ true → piece_at c cs ≡ piece_of (Some c) 0
itself c cs e = grind (arith, nat_tests)

all_below : (cs : List ℕ) → all_plain cs ≡ true → All (λ c. c < 128) cs
all_below [] h = All-nil (λ c. c < 128)
all_below (c ∷ cs) h =
    let p = both (is_plain c) (all_plain cs) h in
    All-cons (λ c. c < 128) c cs (below_128 c p.0) (all_below cs p.1)

all_ascii : (cs : List ℕ) → all_plain cs ≡ true → IsAscii cs
all_ascii cs h = IsAscii-from_all cs (all_below cs h)

same_start : (cs : List ℕ) → all_plain cs ≡ true → skip_leading_whitespace cs ≡ cs
same_start [] h = refl
same_start (c ∷ cs) h = rw (not_white c (both (is_plain c) (all_plain cs) h).0) refl

same_end : (cs : List ℕ) → all_plain cs ≡ true → drop_trailing_whitespace cs ≡ cs
same_end [] h = refl
same_end (c ∷ cs) h =
    let p = both (is_plain c) (all_plain cs) h in
    rw (not_white c p.0) (ap (λ l. c ∷ l) (same_end cs p.1))

trims_start : (cs : List ℕ) → all_plain cs ≡ true → trim_start cs ≡ cs
unfolding trim_start
trims_start cs h =
    ap (λ l. encode_utf8_all (skip_leading_whitespace l)) (chars-IsAscii cs (all_ascii cs h))
    ∙ (ap encode_utf8_all (same_start cs h) ∙ encodes-IsAscii cs (all_ascii cs h))

trims_end : (cs : List ℕ) → all_plain cs ≡ true → trim_end cs ≡ cs
unfolding trim_end
trims_end cs h =
    ap (λ l. encode_utf8_all (drop_trailing_whitespace l)) (chars-IsAscii cs (all_ascii cs h))
    ∙ (ap encode_utf8_all (same_end cs h) ∙ encodes-IsAscii cs (all_ascii cs h))

stands_itself : (cs : List ℕ) → all_plain cs ≡ true → standing cs ≡ cs
stands_itself [] h = refl
stands_itself (c ∷ cs) h =
    let p = both (is_plain c) (all_plain cs) h in
    rw (itself c cs p.0) (ap (λ l. c ∷ l) (stands_itself cs p.1))

no_command : (cs : List ℕ) → all_plain cs ≡ true → inside cs ≡ cs
no_command [] h = refl
no_command (c ∷ cs) h = rw (no_backslash c (both (is_plain c) (all_plain cs) h).0) refl

pub stands_as_it_is : (cs : List ℕ) → all_plain cs ≡ true →
    trim (encode_utf8_all (standing (inside (chars cs)))) ≡ cs
stands_as_it_is cs h =
    ap (λ l. trim (encode_utf8_all (standing (inside l)))) (chars-IsAscii cs (all_ascii cs h))
    ∙ (ap (λ l. trim (encode_utf8_all (standing l))) (no_command cs h)
    ∙ (ap (λ l. trim (encode_utf8_all l)) (stands_itself cs h)
    ∙ (ap trim (encodes-IsAscii cs (all_ascii cs h))
    ∙ (ap trim_end (trims_start cs h) ∙ trims_end cs h))))

-- no white is at its ends either
pub kept_as_it_is : (cs : List ℕ) → all_plain cs ≡ true → as_it_stands cs ≡ cs
kept_as_it_is cs h =
    ap (λ l. trim (encode_utf8_all (standing (inside (chars l))))) (ap trim_end (trims_start cs h) ∙ trims_end cs h)
    ∙ stands_as_it_is cs h
