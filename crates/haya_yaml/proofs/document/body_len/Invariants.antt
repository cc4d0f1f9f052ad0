use Rattle.std.proofs.Common.{◌≡◌, ◌-◌, ◌≤◌, ◌++◌, length, take, drop, option_map}
use Rattle.haya_yaml.specs.Documents.{body}
use Rattle.haya_yaml.specs.Line.{texts}
use Rattle.haya_yaml.proofs.document.body_len.Given as goal

abbrev pub invariant-lines : goal.invariant-lines
invariant-lines l =
    (l.count ≤ length l.lines) × (body (texts l.lines) ≡ option_map (λ more. texts (take l.count l.lines) ++ more) (body (texts (drop l.count l.lines))))

abbrev pub decreases-lines : goal.decreases-lines
decreases-lines l = length l.lines - l.count
