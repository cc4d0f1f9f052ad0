-- Tables of values: a line for each hit, and in it a cell for each place.
use Rattle.std.specs.Prelude.{ℕ, ◌==◌, ◌||◌, Bool, List, [], ◌∷◌, ◌++◌, codes, flat_map, if◌then◌else◌, length, map}
use Rattle.std.specs.Char.{encode_utf8}
use Rattle.std.specs.List.{list_any}
use Rattle.std.specs.Str.{chars}
use Rattle.hayagriva.specs.declared.query.Hit.{Hit}
use Rattle.haya_questions.specs.Fields.{values_at}
use Rattle.haya_questions.specs.Place.{PlaceView, place_text}
use Rattle.haya_questions.specs.Value.{shown}
use Rattle.haya_questions.specs.declared.columns.Table.{Table}
use Rattle.haya_questions.specs.declared.columns.Table.TheVariants.{Csv, Tsv}

-- texts with a separator between each two
abbrev pub joined : List ℕ → List (List ℕ) → List ℕ
joined separator [] = []
joined separator (text ∷ texts) = text ++ flat_map (λ t. separator ++ t) texts

-- ---- cells

-- the values at a place of a hit, in one text
unfoldable pub cell : Hit → PlaceView → List ℕ
cell hit place = joined (codes "; ") (map shown (values_at place hit))

abbrev pub tab : ℕ
tab = 9

abbrev pub line_feed : ℕ
line_feed = 10

abbrev pub carriage_return : ℕ
carriage_return = 13

abbrev pub quote : ℕ
quote = 34

abbrev pub comma : ℕ
comma = 44

abbrev pub backslash : ℕ
backslash = 92

-- whether a cell with this byte is in quotes in CSV
abbrev pub calls_for_quotes : ℕ → Bool
calls_for_quotes b = b == comma || b == quote || b == carriage_return || b == line_feed

-- a quote twice, any other character as it is
abbrev pub csv_char : ℕ → List ℕ
csv_char c = if c == quote then codes "\"\"" else encode_utf8 c

-- the text of a cell in quotes
abbrev pub doubled : List ℕ → List ℕ
doubled text = flat_map csv_char (chars text)

-- a cell of CSV, by RFC 4180
abbrev pub csv_cell : List ℕ → List ℕ
csv_cell text =
    if list_any calls_for_quotes text then quote ∷ doubled text ++ quote ∷ [] else text

-- a sign of a table in TSV as a backslash and a letter
abbrev pub tsv_char : ℕ → List ℕ
tsv_char c =
    if c == tab then codes "\\t" else (
    if c == line_feed then codes "\\n" else (
    if c == carriage_return then codes "\\r" else (
    if c == backslash then codes "\\\\" else encode_utf8 c)))

-- a cell of TSV
abbrev pub tsv_cell : List ℕ → List ℕ
tsv_cell text = flat_map tsv_char (chars text)

-- ---- lines

-- the cells with commas between; one empty cell is two quotes, so that no line is empty
abbrev pub csv_line : List (List ℕ) → List ℕ
csv_line cells =
    let line = joined (comma ∷ []) (map csv_cell cells) in
    if length line == 0 then quote ∷ quote ∷ [] else line

-- the cells with tabs between
abbrev pub tsv_line : List (List ℕ) → List ℕ
tsv_line cells = joined (tab ∷ []) (map tsv_cell cells)

abbrev pub line : Table → List (List ℕ) → List ℕ
line Csv cells = csv_line cells
line Tsv cells = tsv_line cells

-- the line of cells, and a line feed
unfoldable pub row : Table → List (List ℕ) → List ℕ
row table cells = line table cells ++ line_feed ∷ []

-- the row of the places' names
abbrev pub header : Table → List PlaceView → List ℕ
header table places = row table (map place_text places)

-- the row of a hit
abbrev pub hit_row : Table → List PlaceView → Hit → List ℕ
hit_row table places hit = row table (map (cell hit) places)

-- the rows of hits, in order
abbrev pub rows : Table → List PlaceView → List Hit → List ℕ
rows table places hits = flat_map (hit_row table places) hits
