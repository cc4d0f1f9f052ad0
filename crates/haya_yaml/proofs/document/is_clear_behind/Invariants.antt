use Rattle.std.proofs.Common.{◌≡◌, length}
use denote.Text.{Utf8}
use denote.Shadow.{shadow}
use Rattle.haya_yaml.specs.Documents.{is_clear_behind}
use Rattle.haya_yaml.proofs.document.is_clear_behind.Given as goal

abbrev pub invariant-digits : goal.invariant-digits
invariant-digits l = shadow (Utf8 l.rest) × (is_clear_behind l.rest ≡ is_clear_behind l.text)

abbrev pub decreases-digits : goal.decreases-digits
decreases-digits l = length l.rest
