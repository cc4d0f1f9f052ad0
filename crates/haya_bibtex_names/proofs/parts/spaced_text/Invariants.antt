use Rattle.std.proofs.Common.{◌≡◌, ◌++◌, drop, map, encode_utf8_all, string_bytes}
use Rattle.haya_bibtex_names.specs.Parts.{single_blanks_in, words_text}
use Rattle.haya_bibtex_names.specs.Words.{words}
use Rattle.haya_bibtex_names.proofs.SpacedTexts.{shown}
use Rattle.haya_bibtex_names.proofs.parts.spaced_text.Given as goal

-- what is written, and what the characters that are left come to, is the text
abbrev pub invariant-chars : goal.invariant-chars
invariant-chars l =
    words_text (words l.text)
    ≡ string_bytes l.spaced.text
    ++ encode_utf8_all (single_blanks_in l.spaced.started l.spaced.gap (map shown (drop l.x-index l.text)))
