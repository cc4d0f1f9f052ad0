-- White space among the characters of ASCII.
use Rattle.std.proofs.Common.{◌≡◌, ◌≤◌, ℕ, true, false, arith}
use Rattle.std.proofs.lemmas.Bool.Decides.{nat_tests}
use Rattle.haya_bibtex_text.specs.Classes.{is_white}

-- a space
pub space_is_white : is_white 32 ≡ true
unfolding is_white
space_is_white = grind (arith, nat_tests)

-- the signs, digits and letters behind the percent sign
pub sign_is_not : (c : ℕ) → 38 ≤ c → c ≤ 126 → is_white c ≡ false
unfolding is_white
sign_is_not c h l = grind (arith, nat_tests)
