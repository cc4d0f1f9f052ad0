use Rattle.std.proofs.Common.{◌≡◌, ◌++◌, drop, map, string_bytes}
use Rattle.std.specs.Prelude.{codes}
use Rattle.haya_bibtex_entries.proofs.people.push_odd.Given as goal

-- the names so far, and those of the words that are left, are all
abbrev pub invariant-words : goal.invariant-words
invariant-words l =
    map string_bytes l.passed_over.items ++ map (λ w. w ++ codes "=") (map string_bytes (drop l.word-index l.odd_words))
    ≡ map string_bytes l.fn.passed_over.items ++ map (λ w. w ++ codes "=") (map string_bytes l.odd_words)
