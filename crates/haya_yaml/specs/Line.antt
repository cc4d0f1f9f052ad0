-- A line, and the lines that belong to the entry above them.
use Rattle.std.specs.Prelude.{ℕ, ◌==◌, ◌&&◌, ◌||◌, nat_le, nat_lt, List, [], ◌∷◌, ◌++◌, map, Bool, true, false, Option, Some, None, if◌then◌else◌}
use Rattle.std.specs.Borrow.{Bor}
use Rattle.haya_yaml_text.specs.Signs.{begins_with, blanks, is_end, is_gap, skip}

-- the lines of a text
abbrev pub Lines : Type 0
Lines = List (List ℕ)

-- the sign that ends a line
abbrev pub is_feed : ℕ → Bool
is_feed c = c == 10

-- the bytes of texts
abbrev pub texts : List (Bor (List ℕ)) → Lines
texts = map (λ text. text.now)

-- how many spaces begin a line
abbrev pub indent : List ℕ → ℕ
indent line = blanks false line

-- what follows them
abbrev pub rest_of : List ℕ → List ℕ
rest_of line = skip false line

-- a line that is skipped: nothing stands on it, or only a comment
abbrev pub is_skipped : List ℕ → Bool
is_skipped line = is_end (skip true line)

-- a line that begins with a closing bracket
abbrev pub is_closer : List ℕ → Bool
is_closer line = begins_with 93 (rest_of line) || begins_with 125 (rest_of line)

-- a small letter stands here
abbrev pub begins_letter : List ℕ → Bool
begins_letter [] = false
begins_letter (c ∷ cs) = nat_le 97 c && nat_le c 122

-- an item of a list begins here
abbrev pub is_dash : List ℕ → Bool
is_dash [] = false
is_dash (c ∷ cs) = (c == 45) && is_gap cs

-- it is an item of a list at the column
abbrev pub is_dash_at : ℕ → List ℕ → Bool
is_dash_at column line = (indent line == column) && is_dash (rest_of line)

-- The line belongs to the entry above it, which begins at this column. Where `dashes` is true, so
-- do items of a list at the column itself.
abbrev pub belongs : Bool → ℕ → List ℕ → Bool
belongs dashes column line =
    is_skipped line || is_closer line || nat_lt column (indent line)
    || (dashes && is_dash_at column line)

-- nothing stands on the lines
abbrev pub are_skipped : Lines → Bool
are_skipped [] = true
are_skipped (line ∷ lines) = is_skipped line && are_skipped lines

-- an indent is deeper than the entry that is there
abbrev pub is_deeper : Option ℕ → ℕ → Bool
is_deeper None n = true
is_deeper (Some column) n = nat_lt column n

-- each line that isn't skipped is indented deeper than the entry
abbrev pub are_deeper : Option ℕ → Lines → Bool
are_deeper edge [] = true
are_deeper edge (line ∷ lines) =
    (is_skipped line || is_deeper edge (indent line)) && are_deeper edge lines

-- the first line that isn't skipped is an item of a list at the column
abbrev pub begins_dash : ℕ → Lines → Bool
begins_dash column [] = false
begins_dash column (line ∷ lines) =
    if is_skipped line then begins_dash column lines else is_dash_at column line

-- lines with a line feed before each
abbrev pub behind_feeds : Lines → List ℕ
behind_feeds [] = []
behind_feeds (line ∷ lines) = 10 ∷ (line ++ behind_feeds lines)

-- a text with the lines behind it
abbrev pub joined : List ℕ → Lines → List ℕ
joined text lines = text ++ behind_feeds lines
