use Rattle.std.proofs.Common.{◌≡◌, ◌++◌, drop}
use Rattle.haya_latex.specs.Reading.{formula, formula_in}
use Rattle.haya_latex.proofs.formulas.push_formula.Given as goal

-- what is written, and what the rest writes, is the formula
abbrev pub invariant-chars : goal.invariant-chars
invariant-chars l = l.initial.chars.items ++ formula l.text ≡ l.chars.items ++ formula_in l.started l.white (drop l.c-index l.text)
