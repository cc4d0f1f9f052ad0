use Rattle.std.proofs.Common.{◌≡◌, length, Some}
use denote.Shadow.{shadow}
use denote.Text.{Utf8}
use Rattle.std.specs.Str.{chars}
use Rattle.haya_time.specs.DateSteps.{number_view, with_digits}
use Rattle.haya_text.specs.Characters.{is_numeric, run, behind_run}
use Rattle.haya_time.proofs.date.read.take_run.Given as goal

-- what is read so far, with the run that is left, is what the whole run spells
abbrev pub invariant-run : goal.invariant-run
invariant-run l = record {
  text : shadow (Utf8 l.rest);
  spelled : with_digits (number_view l.number) (run is_numeric (chars l.rest)) ≡ with_digits (Some (0, 0)) (run is_numeric (chars l.text));
  behind : behind_run is_numeric (chars l.rest) ≡ behind_run is_numeric (chars l.text);
}

abbrev pub decreases-run : goal.decreases-run
decreases-run l = length (chars l.rest)
