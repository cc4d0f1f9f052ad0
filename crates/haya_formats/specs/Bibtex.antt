-- How a text in BibTeX is told from those in other formats.
use Rattle.std.specs.Prelude.{ℕ, ◌==◌, ◌||◌, ◌&&◌, Bool, false, List, Option, Some, None, codes, find, is_some, not}
use Rattle.std.specs.Char.{is_ascii_alphabetic}
use Rattle.std.specs.List.{list_any}
use Rattle.std.specs.Str.Lines.{lines}
use Rattle.haya_formats.specs.FirstLine.{begins, behind, first_line, is_json, is_row}

-- ---- lines

-- a letter or a blank
abbrev pub is_name_byte : ℕ → Bool
is_name_byte b = is_ascii_alphabetic b || (b == 32) || (b == 9)

-- one of the brackets around an entry of BibTeX
abbrev pub opens_entry : Option ℕ → Bool
opens_entry None = false
opens_entry (Some b) = (b == 123) || (b == 40)

-- what is behind the sign of an entry: letters and blanks, and a bracket
abbrev pub is_entry_name : Option (List ℕ) → Bool
is_entry_name None = false
is_entry_name (Some name) = opens_entry (find (λ b. not (is_name_byte b)) name)

-- the line begins an entry of BibTeX
abbrev pub is_entry : List ℕ → Bool
is_entry line = is_entry_name (behind (codes "@") line)

-- White space aside, the line begins as no other format's does: with `@`, or with the `%` of a
-- remark, which isn't that of YAML's directive.
abbrev pub is_signed : List ℕ → Bool
is_signed line =
    is_some (behind (codes "@") line)
    || (is_some (behind (codes "%") line) && not (is_some (behind (codes "%YAML") line)))

-- ---- texts

-- a line of the text begins so
abbrev pub has_line : List ℕ → List ℕ → Bool
has_line sign text = list_any (begins sign) (lines text)

-- the text has a line of its kind: one in RIS, and one in MEDLINE
abbrev pub is_ris : List ℕ → Bool
is_ris text = has_line (codes "TY  - ") text

abbrev pub is_medline : List ℕ → Bool
is_medline text = has_line (codes "PMID- ") text

-- a line of the text begins an entry of BibTeX
abbrev pub has_entry : List ℕ → Bool
has_entry text = list_any is_entry (lines text)

-- a text whose first line is this has an entry somewhere behind, and is in no format that is told
-- by its first line or by a line of its kind
abbrev pub has_entry_alone : List ℕ → List ℕ → Bool
has_entry_alone text line =
    not (is_json line) && not (is_row line) && not (is_ris text) && not (is_medline text)
    && has_entry text

-- a text whose first line is this is in BibTeX
abbrev pub is_bibtex_of : List ℕ → List ℕ → Bool
is_bibtex_of text line = is_signed line || has_entry_alone text line

-- the same, if there is a line
abbrev pub is_bibtex_from : List ℕ → Option (List ℕ) → Bool
is_bibtex_from text None = false
is_bibtex_from text (Some line) = is_bibtex_of text line

abbrev pub is_bibtex : List ℕ → Bool
is_bibtex text = is_bibtex_from text (first_line text)
