use denote.Shadow.{shadow}
use denote.Text.{Utf8}
use Rattle.std.proofs.Common.{length}
use Rattle.std.specs.Prelude.{map}
use Rattle.haya_line_slices.specs.Scan.{IsPartedTo}
use Rattle.haya_line_slices.proofs.slices.entry_slices.Given as goal

abbrev pub invariant-entries : goal.invariant-entries
invariant-entries l =
    shadow (Utf8 l.rest) × IsPartedTo l.fn.text (map (λ s. s.now) l.slices.items) l.rest

abbrev pub decreases-entries : goal.decreases-entries
decreases-entries l = length l.rest
