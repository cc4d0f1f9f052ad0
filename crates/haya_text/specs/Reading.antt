-- What a chunked text reads as, computed.
use Rattle.std.specs.Prelude.{ℕ, zero, suc, Bool, true, false, List, [], ◌∷◌, ◌++◌, ◌==◌, if◌then◌else◌, Option, option_map, Result, Ok, Err}
use Rattle.std.specs.Result.{result_ok}
use Rattle.std.specs.Str.{chars}
use Rattle.haya_text.specs.declared.strings.kind.ChunkKind.{ChunkKind}
use Rattle.haya_text.specs.declared.strings.kind.ChunkKind.TheVariants.{Normal, Verbatim, Math}
use Rattle.haya_text.specs.declared.strings.reading.ChunkedReadError.{ChunkedReadError}
use Rattle.haya_text.specs.declared.strings.reading.ChunkedReadError.TheVariants.{Parse, OutOfMemory}
use Rattle.haya_text.specs.declared.strings.reading.ChunkedStrParseError.{ChunkedStrParseError}
use Rattle.haya_text.specs.Chunks.{Chunk, Character}
use Rattle.haya_text.specs.Grammar.{IsRefusedAt}
use Rattle.haya_text.specs.Normal.{runs}
use Rattle.haya_text.specs.Printing.{is_control}
use Rattle.haya_text.specs.Signs.{backslash, open_brace, close_brace, dollar}

-- the kind of a plain character below so many open groups, in math or not
abbrev pub kind_in : ℕ → Bool → ChunkKind
kind_in depth true = Math
kind_in zero false = Normal
kind_in (suc depth) false = Verbatim

-- the characters of a text, or the rest of it from the closing brace on that is refused
abbrev pub Scan : Type 0
Scan = Result (List Character) (List ℕ)

-- these characters, and then those of a result
abbrev pub result_after : List Character → Scan → Scan
result_after xs (Ok ys) = Ok (xs ++ ys)
result_after xs (Err rest) = Err rest

-- The characters of a text below so many open groups, in math or not, behind a backslash or not. It
-- fails with the text from the closing brace on that is refused.
abbrev pub scan : ℕ → Bool → Bool → List ℕ → Scan
scan depth math false [] = Ok []
scan depth math true [] = Ok ((backslash, kind_in depth math) ∷ [])
scan depth math true (c ∷ cs) =
    result_after
    (if is_control c then (c, kind_in depth math) ∷ []
    else (backslash, kind_in depth math) ∷ (c, kind_in depth math) ∷ [])
    (scan depth math false cs)
scan depth true false (c ∷ cs) =
    if c == backslash then scan depth true true cs
    else if c == dollar then scan depth false false cs
    else result_after ((c, Math) ∷ []) (scan depth true false cs)
scan zero false false (c ∷ cs) =
    if c == backslash then scan 0 false true cs
    else if c == open_brace then scan 1 false false cs
    else if c == close_brace then Err (c ∷ cs)
    else if c == dollar then scan 0 true false cs
    else result_after ((c, Normal) ∷ []) (scan 0 false false cs)
scan (suc depth) false false (c ∷ cs) =
    if c == backslash then scan (suc depth) false true cs
    else if c == open_brace then scan (suc (suc depth)) false false cs
    else if c == close_brace then scan depth false false cs
    else if c == dollar then scan (suc depth) true false cs
    else result_after ((c, Verbatim) ∷ []) (scan (suc depth) false false cs)

-- the chunks that a text reads as, if it is not refused
abbrev pub chunks_read : List ℕ → Option (List Chunk)
chunks_read text = option_map runs (result_ok (scan 0 false false (chars text)))

-- how many bytes stand before the brace that is refused
abbrev pub position_of : ChunkedStrParseError → ℕ
position_of brace = brace.position

abbrev pub is_out_of_memory : ChunkedReadError → Bool
is_out_of_memory (Parse brace) = false
is_out_of_memory OutOfMemory = true

-- a fault other than out of memory has the place where the text is refused
abbrev pub IsRefusal : List ℕ → ChunkedReadError → Type 0
IsRefusal text (Parse brace) = IsRefusedAt (position_of brace) text
IsRefusal text OutOfMemory = Unit {0}
