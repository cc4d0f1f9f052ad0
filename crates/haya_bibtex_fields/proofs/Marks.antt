-- The last chunk of a text.
use Rattle.std.proofs.Common.{◌≡◌, ℕ, zero, suc, List, [], ◌∷◌, length, get_or, map, ap, sym, arith}
use Rattle.haya_text.specs.Chunks.{chunk_view}
use Rattle.haya_text.specs.declared.strings.chunk.StringChunk.{StringChunk}
use Rattle.haya_bibtex_fields.specs.Titles.{chunk_ends_in_mark, ends_in_mark}

-- a text ends in a mark where its last chunk does
pub ends_in_mark-last : (items : List StringChunk) (n : ℕ) (last : StringChunk) → suc n ≡ length items → last ≡ get_or items n last
    → ends_in_mark (map chunk_view items) ≡ chunk_ends_in_mark (chunk_view last)
ends_in_mark-last [] n last len is = absurd (omega arith)
ends_in_mark-last (x ∷ []) zero last len is = ap (λ (y : StringChunk). chunk_ends_in_mark (chunk_view y)) (sym is)
ends_in_mark-last (x ∷ []) (suc n) last len is = absurd (omega arith)
ends_in_mark-last (x ∷ y ∷ rest) zero last len is = absurd (omega arith)
ends_in_mark-last (x ∷ y ∷ rest) (suc n) last len is = ends_in_mark-last (y ∷ rest) n last (omega arith) is
