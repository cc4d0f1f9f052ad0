-- The bytes that chunked texts are printed as.
use Rattle.std.specs.Prelude.{ℕ, Bool, List, [], ◌∷◌, ◌++◌, ◌==◌, ◌||◌, flat_map, if◌then◌else◌}
use Rattle.std.specs.Char.{encode_utf8}
use Rattle.std.specs.Str.{chars}
use Rattle.haya_text.specs.declared.strings.kind.ChunkKind.TheVariants.{Normal, Verbatim, Math}
use Rattle.haya_text.specs.Chunks.{Chunk}
use Rattle.haya_text.specs.Signs.{backslash, open_brace, close_brace, dollar}

-- what is shown of a chunk: math between dollars
abbrev pub chunk_display : Chunk → List ℕ
chunk_display (text, Normal) = text
chunk_display (text, Verbatim) = text
chunk_display (text, Math) = dollar ∷ (text ++ dollar ∷ [])

-- what is shown of a text
abbrev pub text_display : List Chunk → List ℕ
text_display cs = flat_map chunk_display cs

-- a text of one chunk is shown without dollars
abbrev pub to_str : List Chunk → List ℕ
to_str (c ∷ []) = c.0
to_str [] = []
to_str (c ∷ d ∷ rest) = text_display (c ∷ d ∷ rest)

-- a control character: a backslash, a brace, or the dollar
abbrev pub is_control : ℕ → Bool
is_control c = c == backslash || c == open_brace || c == close_brace || c == dollar

-- a control character after a backslash, any other as it is
abbrev pub escape_of : ℕ → List ℕ
escape_of c = if is_control c then backslash ∷ encode_utf8 c else encode_utf8 c

abbrev pub escaped_text : List ℕ → List ℕ
escaped_text text = flat_map escape_of (chars text)

-- a chunk as it is serialized: between the signs of its kind
abbrev pub serialized_chunk : Chunk → List ℕ
serialized_chunk (text, Normal) = escaped_text text
serialized_chunk (text, Verbatim) = open_brace ∷ (escaped_text text ++ close_brace ∷ [])
serialized_chunk (text, Math) = dollar ∷ (escaped_text text ++ dollar ∷ [])

-- a text as it is serialized
abbrev pub to_serialized : List Chunk → List ℕ
to_serialized cs = flat_map serialized_chunk cs
