use Rattle.std.proofs.Common.{◌≡◌, ℕ, List, ◌++◌, drop, map}
use Rattle.std.specs.Prelude.{string_bytes}
use Rattle.haya_printing.specs.Printed.{each}
use Rattle.haya_printing.proofs.items.push_each.Given as goal

-- what is pushed and what is left are what was pushed and all
abbrev pub invariant-values : goal.invariant-values
invariant-values g l =
    (rest : List ℕ) → string_bytes l.line ++ each l.name g.T.ToItem.text (map g.T.ToItem.view (drop l.value-index l.values)) rest
    ≡ string_bytes l.initial.line ++ each l.name g.T.ToItem.text (map g.T.ToItem.view l.values) rest
