-- The strings that names stand for.
use Rattle.std.specs.Prelude.{ℕ, List, [], ◌∷◌, ◌++◌, Option, Some, is_some, map, unwrap_or, if◌then◌else◌}
use Rattle.std.specs.Char.{to_ascii_lowercase}
use Rattle.std.specs.Str.{bytes_eq}
use Rattle.haya_bibtex_text.specs.Fields.{RawField}
use Rattle.haya_bibtex_text.specs.Pieces.{RawPiece, text, name}

-- the text that each name in lower case stands for, if it is a string's
abbrev pub Strings : Type 0
Strings = List ℕ → Option (List ℕ)

-- the name stands for this text, whatever it stood for before
abbrev pub with_string : Strings → List ℕ → List ℕ → Strings
with_string ss n t m = if bytes_eq n m then Some t else ss m

abbrev pub lowercase : List ℕ → List ℕ
lowercase cs = map to_ascii_lowercase cs

-- the text of a piece: a name of no string stands for itself
abbrev pub piece_text : Strings → RawPiece → List ℕ
piece_text ss (text t) = t
piece_text ss (name left n) = unwrap_or (ss (lowercase n)) n

-- the text of a value is that of its pieces, joined
abbrev pub value_text : Strings → List RawPiece → List ℕ
value_text ss [] = []
value_text ss (p ∷ ps) = piece_text ss p ++ value_text ss ps

-- the names of no string in a value, in lower case
abbrev pub piece_unknown_names : Strings → RawPiece → List (List ℕ)
piece_unknown_names ss (text t) = []
piece_unknown_names ss (name left n) = if is_some (ss (lowercase n)) then [] else lowercase n ∷ []

abbrev pub value_unknown_names : Strings → List RawPiece → List (List ℕ)
value_unknown_names ss [] = []
value_unknown_names ss (p ∷ ps) = piece_unknown_names ss p ++ value_unknown_names ss ps

-- a field of a definition defines its name from there on
abbrev pub with_definition : Strings → RawField → Strings
with_definition ss f = with_string ss (lowercase f.name) (value_text ss f.value)
