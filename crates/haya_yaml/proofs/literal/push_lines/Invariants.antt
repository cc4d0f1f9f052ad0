use Rattle.std.proofs.Common.{◌≡◌, ◌-◌, drop, ◌≤◌, ◌++◌, length, option_map}
use Rattle.std.specs.Prelude.{string_bytes}
use Rattle.haya_yaml.specs.Literal.{block_rest}
use Rattle.haya_yaml.specs.Line.{texts}
use Rattle.haya_yaml.specs.declared.literal.Last.TheVariants.{Start}
use Rattle.haya_yaml.proofs.literal.push_lines.Given as goal

-- what is added and what is left to add are the whole
abbrev pub invariant-lines : goal.invariant-lines
invariant-lines l =
    (l.feeds ≤ l.place) × (l.place ≤ length l.lines)
    × (option_map (λ text. string_bytes l.out ++ text) (block_rest l.folded l.chomp l.edge l.width l.last l.feeds (texts (drop l.place l.lines)))
    ≡ option_map (λ text. string_bytes l.initial.out ++ text) (block_rest l.folded l.chomp l.edge l.width Start 0 (texts l.lines)))

abbrev pub decreases-lines : goal.decreases-lines
decreases-lines l = length l.lines - l.place
