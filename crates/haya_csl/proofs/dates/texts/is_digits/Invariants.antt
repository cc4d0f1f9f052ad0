use Rattle.std.proofs.Common.{◌≡◌, drop}
use Rattle.std.specs.Str.{all_ascii_digits}
use Rattle.haya_csl.proofs.dates.texts.is_digits.Given as goal

-- the whole text has digits alone where what is left of it has
abbrev pub invariant-digits : goal.invariant-digits
invariant-digits l = all_ascii_digits l.text ≡ all_ascii_digits (drop l.byte-index l.byte-items)
