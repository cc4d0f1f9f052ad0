use Rattle.std.proofs.Common.{◌≡◌, ◌+◌, ◌≤◌, length}
use denote.Text.{Utf8}
use denote.Shadow.{shadow}
use Rattle.std.specs.Str.{chars}
use Rattle.haya_time.specs.DurationText.{colons}
use Rattle.haya_time.proofs.duration.scan.count_colons.Given as goal

abbrev pub invariant-signs : goal.invariant-signs
invariant-signs l = record {
  text : shadow (Utf8 l.rest);
  count : l.count + colons (chars l.rest) ≡ colons (chars l.text);
  fits : l.count + length l.rest ≤ length l.text;
}

abbrev pub decreases-signs : goal.decreases-signs
decreases-signs l = length l.rest
