use Rattle.std.proofs.Common.{◌≡◌, ◌++◌, drop, encode_utf8_all, string_bytes}
use Rattle.haya_bibtex_dates.specs.Months.{bare_chars}
use Rattle.haya_bibtex_dates.proofs.months.bare_text.Given as goal

-- the text so far, and that of the rest, is the whole
abbrev pub invariant-chars : goal.invariant-chars
invariant-chars l =
    encode_utf8_all (bare_chars l.chars) ≡ string_bytes l.text ++ encode_utf8_all (bare_chars (drop l.c-index l.chars))
