use Rattle.std.proofs.Common.{◌≡◌, ◌+◌, ◌≤◌, drop}
use Rattle.haya_latex.specs.Tokens.{closing, closing_in}
use Rattle.haya_latex.proofs.formulas.closing.Given as goal

-- the formula ends where it does in the rest, so many characters on
abbrev pub invariant-chars : goal.invariant-chars
invariant-chars l = record {
  found : closing l.closer l.depth l.inside l.text ≡ closing_in l.closer l.count l.inside l.escaped l.braces (drop l.c-index l.text);
  count : l.count ≡ l.c-index;
  below : l.braces ≤ l.depth + l.c-index;
}
