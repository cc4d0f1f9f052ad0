use Rattle.std.proofs.Common.{◌≡◌, length, ◌==◌}
use denote.Text.{Utf8}
use denote.Shadow.{shadow}
use Rattle.std.specs.Str.{chars}
use Rattle.haya_text.specs.Characters.{behind_run, hyphen}
use Rattle.haya_time.proofs.duration.scan.skip_hyphens.Given as goal

abbrev pub invariant-hyphens : goal.invariant-hyphens
invariant-hyphens l = record {
  text : shadow (Utf8 l.rest);
  behind : behind_run (λ c. c == hyphen) (chars l.rest) ≡ behind_run (λ c. c == hyphen) (chars l.text);
}

abbrev pub decreases-hyphens : goal.decreases-hyphens
decreases-hyphens l = length l.rest
