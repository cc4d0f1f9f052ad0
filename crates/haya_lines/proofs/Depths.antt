-- Digits that are no number are none at all.
use Rattle.std.proofs.Common.{◌≡◌, ℕ, ◌<◌, true, List, [], ◌∷◌, None, Result, Ok, Err, length, refl, arith, rules}
use Rattle.std.specs.Char.{is_ascii_digit}
use Rattle.std.specs.List.{list_all}
use Rattle.std.specs.Result.{result_ok}
use Rattle.std.specs.Str.Parse.{digits_value, ParsesUnsigned}
use Rattle.std.proofs.lemmas.Str.Parse.{IsNumeralModel, numerals_by_value, parse_digits, digits_value_short}
use Rattle.haya_lines.specs.Line.{depth_read}

digits : IsNumeralModel (λ ds. list_all is_ascii_digit ds ≡ true) (digits_value 10)
digits = numerals_by_value _ (search rules)

pub depth_read-no_number : {E : Type 0} (deepest : ℕ) (item : List ℕ) (r : Result ℕ E) → ParsesUnsigned 64 10 item r
    → list_all is_ascii_digit item ≡ true → length item < 4 → None ≡ result_ok r → None ≡ depth_read deepest item
depth_read-no_number deepest [] r h all short none = refl
depth_read-no_number deepest (b ∷ bs) (Ok n) h all short none = cc
depth_read-no_number deepest (b ∷ bs) (Err e) h all short none =
    let small = digits_value_short digits (b ∷ bs) 3 all (omega arith) in
    absurd (parse_digits digits 64 (b ∷ bs) (Err e) h all (omega arith, omega arith))
