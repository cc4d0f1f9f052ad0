-- White space and signs at the front of a text, as they are read.
use Rattle.std.proofs.Common.{◌≡◌, ℕ, Bool, true, false, cond, List, [], ◌∷◌, ◌++◌, Some, None, refl, ap, sym, ◌∙◌, arith, eqb, eqb-true, eq-eqb}
use Rattle.std.proofs.lemmas.Bool.Decides.{nat_tests}
use Rattle.std.proofs.lemmas.List.{append-nil}
use Rattle.std.specs.Char.{is_ascii_digit, is_whitespace}
use Rattle.std.specs.List.{list_all}
use Rattle.std.specs.Str.{skip_leading_whitespace}
use Rattle.haya_text.specs.Characters.{begins_with, run}
use Rattle.haya_text.proofs.Numerics.{all-run, behind_run-of, run-behind_run, skip-behind_run}
use Rattle.haya_time.specs.TextFront.{BeginsWith, IsBlank, behind, behind_first, is_empty}

-- ---- white space

-- a digit is no white space
pub digit-no_space : (c : ℕ) → is_ascii_digit c ≡ true → is_whitespace c ≡ false
digit-no_space c h = grind (arith, nat_tests)

-- a text is white space exactly where nothing is left behind it
pub blank_by_rest : (cs : List ℕ) → list_all is_whitespace cs ≡ is_empty (skip_leading_whitespace cs)
blank_by_rest [] = refl
blank_by_rest (c ∷ cs) = by_white (is_whitespace c) refl (blank_by_rest cs)
  where
    by_white : (b : Bool) → is_whitespace c ≡ b → list_all is_whitespace cs ≡ is_empty (skip_leading_whitespace cs) → list_all is_whitespace (c ∷ cs) ≡ is_empty (skip_leading_whitespace (c ∷ cs))
    by_white true h ih = rw h ih
    by_white false h ih = rw h refl

-- white space is skipped up to what begins with none
skip-blank : (blank rest : List ℕ) → IsBlank blank → begins_with is_whitespace rest ≡ false → skip_leading_whitespace (blank ++ rest) ≡ rest
skip-blank blank rest h s = skip-behind_run (blank ++ rest) ∙ behind_run-of is_whitespace blank rest h s

-- nothing is left behind white space alone
pub blank-skipped : (cs : List ℕ) → IsBlank cs → skip_leading_whitespace cs ≡ []
blank-skipped cs h = ap skip_leading_whitespace (sym (append-nil cs)) ∙ skip-blank cs [] h refl

-- ---- a part of a text

-- what follows the white space of a text begins it
pub begins : (part text rest : List ℕ) → skip_leading_whitespace text ≡ part ++ rest → BeginsWith part text rest
begins part text rest e = record {
  blank = run is_whitespace text;
  white = all-run is_whitespace text;
  joined = run-behind_run is_whitespace text ∙ ap (λ t. run is_whitespace text ++ t) (sym (skip-behind_run text) ∙ e);
}

-- and a part that begins a text, and begins with no white space itself, follows it
pub begins-skip : (part text rest : List ℕ) → begins_with is_whitespace (part ++ rest) ≡ false → BeginsWith part text rest → skip_leading_whitespace text ≡ part ++ rest
begins-skip part text rest s b = ap skip_leading_whitespace b.joined ∙ skip-blank b.blank (part ++ rest) b.white s

-- a part begins itself with a rest
pub begins-itself : (part rest : List ℕ) → BeginsWith part (part ++ rest) rest
begins-itself part rest = record { blank = []; white = refl; joined = refl }

-- ---- a sign

-- what is left behind a sign follows it
behind_first-some : (sign : ℕ) (cs rest : List ℕ) → behind_first sign cs ≡ Some rest → cs ≡ sign ∷ rest
behind_first-some sign [] rest h = cc
behind_first-some sign (c ∷ cs) rest h = by_test (eqb c sign) refl h
  where
    by_test : (b : Bool) → eqb c sign ≡ b → cond b (Some cs) None ≡ Some rest → c ∷ cs ≡ sign ∷ rest
    by_test true e h = let s : c ≡ sign = eqb-true c sign e in let r : cs ≡ rest = cc in cc
    by_test false e h = cc

-- and the other way round
some-behind_first : (sign : ℕ) (rest : List ℕ) → behind_first sign (sign ∷ rest) ≡ Some rest
some-behind_first sign rest = let t : eqb sign sign ≡ true = eq-eqb sign sign refl in rw t refl

-- a text that is read behind a sign begins with it
pub behind-begins : (sign : ℕ) (text rest : List ℕ) → behind sign text ≡ Some rest → BeginsWith (sign ∷ []) text rest
behind-begins sign text rest h = begins (sign ∷ []) text rest (behind_first-some sign (skip_leading_whitespace text) rest h)

-- and the other way round
pub begins-behind : (sign : ℕ) (text rest : List ℕ) → is_whitespace sign ≡ false → BeginsWith (sign ∷ []) text rest → behind sign text ≡ Some rest
begins-behind sign text rest w b = ap (behind_first sign) (begins-skip (sign ∷ []) text rest w b) ∙ some-behind_first sign rest
