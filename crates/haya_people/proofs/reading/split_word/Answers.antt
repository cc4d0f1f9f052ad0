use Rattle.std.proofs.Common.{◌≡◌, length, rules, of_calls, arith}
use Rattle.std.proofs.lemmas.Bool.Decides.{nat_tests}
use Rattle.std.proofs.lemmas.Fn.{always_returns_same}
use Rattle.std.specs.Char.{is_whitespace}
use Rattle.haya_people.proofs.Families.{first_word, only_word}
use Rattle.haya_people.proofs.reading.split_word.Goals as goal

pub returns-in-Some : goal.returns-in-Some
returns-in-Some c =
    let m = c.in-Some.ensures.cases in
    let at = m.1 is_whitespace (always_returns_same _ _ _ (λ a r f k. search (rules, of_calls))) in
    first_word c.args.text.now _ _ _ c.in-Some.end m.0 c.utf8.text c.trim_start.utf8 c.split_at.ensures.front c.split_at.ensures.back m.3 at.0 at.1 c.trim_start.ensures.value c.trim_start.ensures.trim

pub returns-in-None-2 : goal.returns-in-None-2
returns-in-None-2 c =
    let none = c.in-None.ensures.cases is_whitespace (always_returns_same _ _ _ (λ a r f k. search (rules, of_calls))) in
    let some : length c.args.text.now ≡ 0 → ⊥ = λ e. let k = c.is_empty.ensures in let f = c.if-is_empty.false in grind (arith, nat_tests) in
    only_word c.args.text.now c.utf8.text none some
