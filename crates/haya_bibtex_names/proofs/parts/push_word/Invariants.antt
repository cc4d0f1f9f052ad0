use Rattle.std.proofs.Common.{◌≡◌, ◌++◌, ℕ, List, drop, map, encode_utf8_all, string_bytes}
use Rattle.haya_bibtex_names.specs.Parts.{single_blanks_in}
use Rattle.haya_bibtex_names.proofs.parts.push_word.Given as goal

-- what is written, and what the rest of the word comes to, is all, whatever is behind it
abbrev pub invariant-chars : goal.invariant-chars
invariant-chars l =
    (rest : List ℕ) →
    string_bytes l.spaced.text
    ++ encode_utf8_all (single_blanks_in l.spaced.started l.spaced.gap (map (λ x. x.0) (drop l.c-index l.word) ++ rest))
    ≡ string_bytes l.initial.spaced.text
    ++ encode_utf8_all (single_blanks_in l.initial.spaced.started l.initial.spaced.gap (map (λ x. x.0) l.word ++ rest))
