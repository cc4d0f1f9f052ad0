-- Texts that are no numbers.
use Rattle.std.proofs.Common.{◌≡◌, ℕ, ◌+◌, ◌==◌, List, [], ◌∷◌, drop, false, cond, Some, None, refl, ap, ◌∙◌, arith}
use Rattle.std.specs.Prelude.{option_and_then}
use Rattle.std.specs.List.{prefix_len}
use Rattle.std.specs.Char.{is_ascii_digit}
use Rattle.json.specs.Word.{after_digits, after_exponent, after_fraction, after_minus, after_number, after_whole}
use Rattle.haya_yaml_text.specs.Numbers.{begins_number}
use Rattle.haya_yaml_text.specs.Resolved.{is_done, is_number}

-- where no number begins, there is none
pub no_number : (text : List ℕ) → begins_number text ≡ false → is_number text ≡ false
unfolding after_number
no_number [] e = refl
no_number (c ∷ cs) e =
    let minus : (c == 45) ≡ false = grind (arith, e) in
    let zero : (c == 48) ≡ false = grind (arith, e) in
    let digit : is_ascii_digit c ≡ false = grind (arith, e) in
    let signed : after_minus (c ∷ cs) ≡ c ∷ cs = ap (λ b. cond b cs (c ∷ cs)) minus in
    let none : prefix_len is_ascii_digit (c ∷ cs) ≡ 0 = ap (λ b. cond b (1 + prefix_len is_ascii_digit cs) 0) digit in
    let whole : after_whole (c ∷ cs) ≡ None =
    ap (λ b. cond b (Some cs) (after_digits (c ∷ cs))) zero ∙ ap (λ n. cond (n == 0) None (Some (drop n (c ∷ cs)))) none in
    ap (λ t. is_done (option_and_then after_exponent (option_and_then after_fraction (after_whole t)))) signed
    ∙ ap (λ o. is_done (option_and_then after_exponent (option_and_then after_fraction o))) whole
