use Rattle.std.proofs.Common.{◌≡◌, ◌++◌, take}
use Rattle.haya_bibtex_inherited.specs.Search.{arrows_from}
use Rattle.haya_bibtex_inherited.proofs.search.push_arrows.Given as goal

-- there is an arrow to each target so far
abbrev pub invariant-targets : goal.invariant-targets
invariant-targets l =
    l.arrows.items ≡ l.initial.arrows.items ++ arrows_from l.from (take l.to-index l.targets)
