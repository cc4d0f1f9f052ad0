-- Chunked texts by value, and what is appended to them.
use Rattle.std.specs.Prelude.{◌≡◌, ℕ, Bool, false, List, [], ◌∷◌, ◌++◌, map, flat_map, if◌then◌else◌, string_bytes}
use Rattle.std.specs.Str.{chars}
use denote.Enum.Bare.{sameb}
use Rattle.haya_text.specs.contracts.strings.kind.ChunkKind.{the_type}
use Rattle.haya_text.specs.declared.strings.kind.ChunkKind.{ChunkKind}
use Rattle.haya_text.specs.declared.strings.kind.ChunkKind.TheVariants.{Normal}
use Rattle.haya_text.specs.declared.strings.chunk.StringChunk.{StringChunk}
use Rattle.haya_text.specs.declared.strings.chunked.ChunkedString.{ChunkedString}

-- a chunk by value: its bytes and its kind
abbrev pub Chunk : Type 0
Chunk = List ℕ × ChunkKind

abbrev pub chunk_view : StringChunk → Chunk
chunk_view c = (string_bytes c.value, c.kind)

-- the new chunk has this text behind that of the old one, and its kind
abbrev pub AppendsText : StringChunk → List ℕ → StringChunk → Type 0
AppendsText old text new = chunk_view new ≡ (string_bytes old.value ++ text, old.kind)

-- the chunks of a text, in order
abbrev pub chunks : ChunkedString → List Chunk
chunks text = map chunk_view text.0.items

-- one chunk of plain text
abbrev pub plain_text : List ℕ → List Chunk
plain_text bytes = (bytes, Normal) ∷ []

-- a character with its kind
abbrev pub Character : Type 0
Character = ℕ × ChunkKind

-- these characters, each with that kind
abbrev pub characters_of_kind : ChunkKind → List ℕ → List Character
characters_of_kind kind cs = map (λ c. (c, kind)) cs

-- the characters of chunks, each with its kind
abbrev pub characters : List Chunk → List Character
characters cs = flat_map (λ c. characters_of_kind c.1 (chars c.0)) cs

-- the new text has these characters behind those of the old one
abbrev pub Appends : List Character → ChunkedString → ChunkedString → Type 0
Appends cs old new = characters (chunks new) ≡ characters (chunks old) ++ cs

-- whether the last chunk is of that kind
abbrev pub ends_in : ChunkKind → List Chunk → Bool
ends_in kind [] = false
ends_in kind (last ∷ []) = sameb the_type last.1 kind
ends_in kind (c ∷ next ∷ rest) = ends_in kind (next ∷ rest)

-- the same chunks with this text at the end of the last one
abbrev pub grow_last : List Chunk → List ℕ → List Chunk
grow_last [] text = []
grow_last (last ∷ []) text = (last.0 ++ text, last.1) ∷ []
grow_last (c ∷ next ∷ rest) text = c ∷ grow_last (next ∷ rest) text

-- the chunks after a push: the last one grows where it is of that kind, or a new one follows it
abbrev pub push_str : List Chunk → List ℕ → ChunkKind → List Chunk
push_str cs text kind = if ends_in kind cs then grow_last cs text else cs ++ (text, kind) ∷ []
