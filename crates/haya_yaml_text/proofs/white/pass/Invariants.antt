use Rattle.std.proofs.Common.{length, ◌-◌, ◌≡◌, ◌≤◌, drop, false}
use Rattle.std.specs.Str.{IsCharBoundary}
use Rattle.haya_yaml_text.specs.Signs.{passed}
use Rattle.haya_yaml_text.proofs.white.pass.Given as goal

abbrev pub invariant-places : goal.invariant-places
invariant-places l = record {
  within : l.place ≤ length l.text;
  same : passed l.inside l.apart (drop l.place l.text) ≡ passed false false l.text;
  cut : l.inside ≡ false → IsCharBoundary l.text l.place;
}

abbrev pub decreases-places : goal.decreases-places
decreases-places l = length l.bytes - l.place
