use Rattle.std.proofs.Common.{◌≡◌, ◌≤◌, ℕ, true, arith}
use Rattle.std.proofs.lemmas.Bool.Decides.{nat_tests}
use Rattle.haya_bibtex_text.specs.Classes.{in_name, is_white}
use Rattle.haya_bibtex_text.proofs.classes.in_name.Goals as goal

letter : (c : ℕ) → 97 ≤ c → c ≤ 122 → true ≡ in_name c
unfolding in_name is_white
letter c h l = grind (arith, nat_tests)

pub returns-in-a-to-z : goal.returns-in-a-to-z
returns-in-a-to-z c = letter c.args.c (omega arith) (omega arith)
