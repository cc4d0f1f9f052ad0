-- How deep lines are, and how many of those behind one are as deep.
use Rattle.std.specs.Prelude.{ℕ, zero, suc, ◌==◌, ◌&&◌, ◌||◌, not, nat_le, nat_lt, List, [], ◌∷◌, Bool, true, false, Option, Some, None, if◌then◌else◌}
use Rattle.std.specs.Borrow.{Bor}
use Rattle.haya_yaml.specs.Line.{Lines, indent, is_closer, is_skipped, texts}
use Rattle.haya_yaml.specs.declared.spans.Span.{Span}

-- how deep a line is: its indent, or none where it belongs to each entry above it
abbrev pub depth_of : List ℕ → Option ℕ
depth_of line = if is_skipped line || is_closer line then None else Some (indent line)

-- a line this deep belongs to an entry above it that begins at the column
abbrev pub is_inside : ℕ → Option ℕ → Bool
is_inside column None = true
is_inside column (Some n) = nat_lt column n

-- the second is as deep as the first, or deeper
abbrev pub is_as_deep : Option ℕ → Option ℕ → Bool
is_as_deep m None = true
is_as_deep None (Some n) = false
is_as_deep (Some m) (Some n) = nat_le m n

-- so are as many of the first lines, or all where there are fewer
abbrev pub are_as_deep : Option ℕ → ℕ → Lines → Bool
are_as_deep depth zero lines = true
are_as_deep depth (suc n) [] = true
are_as_deep depth (suc n) (line ∷ lines) =
    is_as_deep depth (depth_of line) && are_as_deep depth n lines

-- this is how deep the line is
abbrev pub is_depth_of : Option ℕ → List ℕ → Bool
is_depth_of None line = is_skipped line || is_closer line
is_depth_of (Some n) line = not (is_skipped line || is_closer line) && (indent line == n)

-- each line has its span: how deep it is, and a number of lines behind it that are as deep
abbrev pub are_spans : List Span → Lines → Bool
are_spans [] [] = true
are_spans [] (line ∷ lines) = false
are_spans (s ∷ ss) [] = false
are_spans (s ∷ ss) (line ∷ lines) =
    is_depth_of s.depth line && (are_as_deep s.depth s.more lines && are_spans ss lines)

-- the same of texts that are lent
abbrev pub have_spans : List Span → List (Bor (List ℕ)) → Bool
have_spans spans lent = are_spans spans (texts lent)
