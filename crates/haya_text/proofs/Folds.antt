-- The search for math, on the chunks themselves.
use Rattle.std.proofs.Common.{◌≡◌, ◌||◌, List, [], ◌∷◌, map, refl, ap}
use Rattle.std.specs.List.{list_any}
use denote.Enum.Bare.{sameb}
use Rattle.haya_text.specs.contracts.strings.kind.ChunkKind.{the_type}
use Rattle.haya_text.specs.declared.strings.chunk.StringChunk.{StringChunk}
use Rattle.haya_text.specs.declared.strings.kind.ChunkKind.TheVariants.{Math}
use Rattle.haya_text.specs.Chunks.{chunk_view}
use Rattle.haya_text.specs.Foldable.{has_math}

pub has_math_items : (items : List StringChunk) → has_math (map chunk_view items) ≡ list_any (λ c. sameb the_type c.kind Math) items
has_math_items [] = refl
has_math_items (x ∷ items) = ap (λ b. sameb the_type x.kind Math || b) (has_math_items items)
