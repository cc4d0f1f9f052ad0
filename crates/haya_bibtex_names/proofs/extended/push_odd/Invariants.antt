use Rattle.std.proofs.Common.{◌≡◌, ◌++◌, drop, map, string_bytes}
use Rattle.haya_bibtex_names.specs.Extended.{odd_labels}
use Rattle.haya_bibtex_names.specs.Words.{texts}
use Rattle.haya_bibtex_names.proofs.extended.push_odd.Given as goal

-- the odd words so far, and those of the rest, are all
abbrev pub invariant-parts : goal.invariant-parts
invariant-parts l =
    map string_bytes l.initial.odd.items ++ odd_labels (texts l.parts)
    ≡ map string_bytes l.odd.items ++ odd_labels (texts (drop l.part-index l.parts))
