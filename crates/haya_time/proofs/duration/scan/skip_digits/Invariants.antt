use Rattle.std.proofs.Common.{◌≡◌, length}
use denote.Text.{Utf8}
use denote.Shadow.{shadow}
use Rattle.std.specs.Char.{is_ascii_digit}
use Rattle.std.specs.Str.{chars}
use Rattle.haya_text.specs.Characters.{behind_run}
use Rattle.haya_time.proofs.duration.scan.skip_digits.Given as goal

abbrev pub invariant-digits : goal.invariant-digits
invariant-digits l = record {
  text : shadow (Utf8 l.rest);
  behind : behind_run is_ascii_digit (chars l.rest) ≡ behind_run is_ascii_digit (chars l.text);
}

abbrev pub decreases-digits : goal.decreases-digits
decreases-digits l = length l.rest
