use Rattle.std.proofs.Common.{◌≡◌, ◌++◌, drop, encode_utf8_all, string_bytes}
use Rattle.haya_bibtex_names.specs.Parts.{single_blanks_in, word_chars, words_text}
use Rattle.haya_bibtex_names.specs.Words.{texts}
use Rattle.haya_bibtex_names.proofs.parts.words_text.Given as goal

-- what is written, and what the words that are left come to, is the text
abbrev pub invariant-words : goal.invariant-words
invariant-words l =
    words_text (texts l.words)
    ≡ string_bytes l.spaced.text
    ++ encode_utf8_all (single_blanks_in l.spaced.started l.spaced.gap (word_chars (texts (drop l.word-index l.words))))
