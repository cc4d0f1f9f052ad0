-- Texts without math, by value: chunks like those of any text.
use Rattle.std.specs.Prelude.{◌≡◌, Bool, true, false, List, map, string_bytes, Result, MatchResult}
use Rattle.std.specs.List.{list_any}
use denote.Enum.Bare.{sameb}
use Rattle.haya_text.specs.contracts.strings.kind.ChunkKind.{the_type}
use Rattle.haya_text.specs.declared.strings.kind.ChunkKind.{ChunkKind}
use Rattle.haya_text.specs.declared.strings.kind.ChunkKind.TheVariants as kind
use Rattle.haya_text.specs.declared.strings.kind.FoldableKind.{FoldableKind}
use Rattle.haya_text.specs.declared.strings.kind.FoldableKind.TheVariants as foldable
use Rattle.haya_text.specs.declared.strings.chunk.StringChunk.{StringChunk}
use Rattle.haya_text.specs.declared.strings.foldable.FoldableStringChunk.{FoldableStringChunk}
use Rattle.haya_text.specs.declared.strings.foldable.FoldableChunkedString.{FoldableChunkedString}
use Rattle.haya_text.specs.declared.strings.foldable.FoldError.{FoldError}
use Rattle.haya_text.specs.declared.strings.foldable.FoldError.TheVariants as error
use Rattle.haya_text.specs.declared.strings.chunked.ChunkedString.{ChunkedString}
use Rattle.haya_text.specs.Chunks.{Chunk, chunk_view, chunks}

-- the kind of that name
abbrev pub unfolded_kind : FoldableKind → ChunkKind
unfolded_kind foldable.Normal = kind.Normal
unfolded_kind foldable.Verbatim = kind.Verbatim

abbrev pub foldable_view : FoldableStringChunk → Chunk
foldable_view c = (string_bytes c.value, unfolded_kind c.kind)

abbrev pub foldable_chunks : FoldableChunkedString → List Chunk
foldable_chunks text = map foldable_view text.0.items

-- the kind of the same name; math alone has none
abbrev pub FoldsKind : ChunkKind → Result FoldableKind (Unit {0}) → Type 0
FoldsKind k result = MatchResult result (λ folded. unfolded_kind folded ≡ k) (λ _. k ≡ kind.Math)

-- the same chunk; one of math alone is handed back
abbrev pub FoldsChunk : StringChunk → Result FoldableStringChunk StringChunk → Type 0
FoldsChunk c result =
    MatchResult result (λ folded. foldable_view folded ≡ chunk_view c)
    (λ back. (chunk_view back ≡ chunk_view c) × (c.kind ≡ kind.Math))

-- whether a chunk is math
abbrev pub has_math : List Chunk → Bool
has_math cs = list_any (λ c. sameb the_type c.1 kind.Math) cs

-- whether a text was refused for its math, and the text that is handed back
abbrev pub fold_error_view : FoldError → Bool × List Chunk
fold_error_view (error.Math back) = (true, chunks back)
fold_error_view (error.OutOfMemory back) = (false, chunks back)

-- the text is handed back: for its math, or otherwise since an allocation failed
abbrev pub RefusesFold : ChunkedString → FoldError → Type 0
RefusesFold text (error.Math back) = (chunks back ≡ chunks text) × (has_math (chunks text) ≡ true)
RefusesFold text (error.OutOfMemory back) =
    (chunks back ≡ chunks text) × (has_math (chunks text) ≡ false)
