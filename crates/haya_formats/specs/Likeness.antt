-- What a text looks like that is in none of the formats.
use Rattle.std.specs.Prelude.{ℕ, ◌==◌, ◌||◌, ◌&&◌, Bool, List, Option, Some, None, codes, nat_le, if◌then◌else◌}
use Rattle.std.specs.Char.{is_ascii_alphanumeric}
use Rattle.std.specs.List.{list_all, list_any}
use Rattle.std.specs.Option.{option_or}
use Rattle.haya_formats.specs.Bibtex.{is_bibtex_of, is_medline, is_ris}
use Rattle.haya_formats.specs.Block.{first_text}
use Rattle.haya_formats.specs.Foreign.{foreign_of}
use Rattle.haya_formats.specs.FirstLine.{begins, first_line, is_json, is_row, is_yaml}
use Rattle.haya_formats.specs.declared.foreign.Foreign.{Foreign}
use Rattle.haya_formats.specs.declared.foreign.Foreign.TheVariants.{Csv, EndNoteXml, Medline, Ris}
use Rattle.haya_formats.specs.declared.format.Format.{Format}

-- ---- lines

-- a comma, or a byte of names that commas separate
abbrev pub is_header_byte : ℕ → Bool
is_header_byte b =
    is_ascii_alphanumeric b || list_any (λ s. s == b) (codes " ,\"'_-./()#&:") || nat_le 128 b

-- the line has names that commas separate
abbrev pub is_header : List ℕ → Bool
is_header line = list_any (λ b. b == 44) line && list_all is_header_byte line

-- ---- texts

-- what a text looks like that has a line of its kind anywhere
abbrev pub like_some : List ℕ → Option Foreign
like_some text =
    if is_ris text then Some Ris else if is_medline text then Some Medline else None

-- what a text looks like by its first line
abbrev pub like_line : List ℕ → Option Foreign
like_line line =
    if begins (codes "<?xml") line || begins (codes "<xml>") line then Some EndNoteXml
    else if is_yaml line then None
    else if is_header line then Some Csv else None

-- a text whose first line is this: those of a library's texts begin with a bracket, as a row, or as
-- BibTeX does
abbrev pub like_text : List ℕ → List ℕ → Option Foreign
like_text text line =
    if is_json line || is_row line || is_bibtex_of text line then None
    else option_or (like_some text) (like_line line)

-- the same, if there is a line
abbrev pub like_text_from : List ℕ → Option (List ℕ) → Option Foreign
like_text_from text None = None
like_text_from text (Some line) = like_text text line

-- what a text looks like that begins with these bytes
abbrev pub likeness : List ℕ → Option Foreign
likeness bytes = like_text_from (first_text bytes) (first_line (first_text bytes))

-- the same, where no format is given
abbrev pub likeness_for : Option Format → List ℕ → Option Foreign
likeness_for (Some format) bytes = None
likeness_for None bytes = likeness bytes

-- what an input is, or looks like, that isn't read; where a format is given, its likeness isn't
-- asked
abbrev pub foreign_for : Option Format → List ℕ → Option Foreign
foreign_for given bytes = option_or (foreign_of bytes) (likeness_for given bytes)
