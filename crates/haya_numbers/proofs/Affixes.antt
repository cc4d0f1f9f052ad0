-- The bytes of prefixes and suffixes.
use Rattle.std.proofs.Common.{◌≡◌, ℕ, true, false, List, [], ◌∷◌, ◌++◌, length, refl, ap, sym, ◌∙◌, Some, None, nat_eq, arith}
use Rattle.std.proofs.lemmas.Bool.Decides.{nat_tests}
use Rattle.std.specs.Str.{IsUtf8, chars, encode_utf8_all}
use Rattle.std.proofs.lemmas.Str.{chars-nil, encodes-append, encodes-chars}
use Rattle.haya_numbers.specs.NumericReading.{affix, suffix_with}

-- an empty text is no suffix
pub suffix_with-nil : (white suffix : List ℕ) → nat_eq (length suffix) 0 ≡ true → suffix_with white (chars suffix) ≡ None
suffix_with-nil white [] e = rw chars-nil refl
suffix_with-nil white (c ∷ cs) e = absurd (grind (arith, nat_tests))

affix-append : (xs ys : List ℕ) → nat_eq (length ys) 0 ≡ false → affix (xs ++ ys) ≡ Some (xs ++ ys)
affix-append [] [] h = cc
affix-append [] (y ∷ ys) h = refl
affix-append (x ∷ xs) ys h = refl

-- any other is one, with the white space before it
pub suffix_with-bytes : (white suffix : List ℕ) → IsUtf8 white → IsUtf8 suffix → nat_eq (length suffix) 0 ≡ false → affix (white ++ suffix) ≡ suffix_with (chars white) (chars suffix)
suffix_with-bytes white suffix u v some = affix-append white suffix some ∙ sym (go (chars suffix) refl)
  where
    go : (cs : List ℕ) → chars suffix ≡ cs → suffix_with (chars white) cs ≡ Some (white ++ suffix)
    go [] e = let none : suffix ≡ [] = sym (encodes-chars suffix v) ∙ ap encode_utf8_all e in cc (rw none at some)
    go (c ∷ cs) e =
        ap Some (encodes-append (chars white) (c ∷ cs) ∙ ap (λ w. w ++ encode_utf8_all (c ∷ cs)) (encodes-chars white u) ∙ ap (λ w. white ++ encode_utf8_all w) (sym e) ∙ ap (λ w. white ++ w) (encodes-chars suffix v))
