use Rattle.std.proofs.Common.{◌≡◌, ◌++◌, length, encode_utf8_all, string_bytes}
use Rattle.haya_bibtex_values.specs.PageTexts.{single_hyphens}
use Rattle.haya_bibtex_values.proofs.pages.hyphens_of.Given as goal

-- the text so far, and that of the rest, is the whole
abbrev pub invariant-chars : goal.invariant-chars
invariant-chars l =
    encode_utf8_all (single_hyphens l.chars) ≡ string_bytes l.text ++ encode_utf8_all (single_hyphens l.left)

abbrev pub decreases-chars : goal.decreases-chars
decreases-chars l = length l.left
