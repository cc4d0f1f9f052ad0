-- Chunks in their longest runs.
use Rattle.std.specs.Prelude.{◌≢◌, ◌++◌, List, [], ◌∷◌, if◌then◌else◌}
use Rattle.std.specs.Char.{encode_utf8}
use denote.Enum.Bare.{sameb}
use Rattle.haya_text.specs.contracts.strings.kind.ChunkKind.{the_type}
use Rattle.haya_text.specs.Chunks.{Chunk, Character, characters}

-- a character before chunks: in the first where it is of that kind, otherwise as a chunk of its own
abbrev pub with_first : Character → List Chunk → List Chunk
with_first x [] = (encode_utf8 x.0, x.1) ∷ []
with_first x (c ∷ cs) =
    if sameb the_type x.1 c.1 then (encode_utf8 x.0 ++ c.0, x.1) ∷ cs
    else (encode_utf8 x.0, x.1) ∷ c ∷ cs

-- the longest runs of one kind, each as a chunk
abbrev pub runs : List Character → List Chunk
runs [] = []
runs (x ∷ xs) = with_first x (runs xs)

-- the same characters with the same kinds, in longest runs
abbrev pub norm : List Chunk → List Chunk
norm cs = runs (characters cs)

-- no chunk is empty, and neighbours differ in their kinds
abbrev pub IsNormal : List Chunk → Type 0
IsNormal [] = Unit {0}
IsNormal (c ∷ []) = c.0 ≢ []
IsNormal (c ∷ d ∷ cs) = (c.0 ≢ []) × (c.1 ≢ d.1) × IsNormal (d ∷ cs)
