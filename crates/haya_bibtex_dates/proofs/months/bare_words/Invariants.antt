use Rattle.std.proofs.Common.{◌≡◌, ◌++◌, drop, filter, map, string_bytes}
use Rattle.haya_bibtex_dates.specs.Months.{bare_word, has_chars}
use Rattle.haya_bibtex_dates.proofs.months.bare_words.Given as goal

-- the words so far, and those of the rest, are all
abbrev pub invariant-pieces : goal.invariant-pieces
invariant-pieces l =
    filter has_chars (map bare_word (map (λ p. p.now) l.piece-items))
    ≡ map string_bytes l.words.items ++ filter has_chars (map bare_word (map (λ p. p.now) (drop l.piece-index l.piece-items)))
