-- Texts with CSL's markup: its tags are taken out, and what is to keep its case is verbatim.
use Rattle.std.specs.Prelude.{ℕ, ◌+◌, ◌-◌, ◌==◌, nat_eq, nat_lt, List, [], ◌∷◌, length, Option, None, Some, codes, if◌then◌else◌}
use Rattle.std.specs.List.{after_first, before_first, position_or_len, starts_with}
use Rattle.std.specs.Map.{lookup}
use Rattle.std.specs.Str.{bytes_eq}
use Rattle.haya_text.specs.Chunks.{Chunk, push_str}
use Rattle.haya_text.specs.declared.strings.kind.ChunkKind.{ChunkKind}
use Rattle.haya_text.specs.declared.strings.kind.ChunkKind.TheVariants.{Normal, Verbatim}
use Rattle.haya_csl.specs.declared.markup.Tag.{Tag}
use Rattle.haya_csl.specs.declared.markup.Tag.TheVariants.{Style, Span, CaseSpan, SpanEnd}

-- ---- tags

-- what stands between the brackets of a tag
abbrev pub tag_table : List (List ℕ × Tag)
tag_table =
    (codes "i", Style)
    ∷ (codes "/i", Style)
    ∷ (codes "b", Style)
    ∷ (codes "/b", Style)
    ∷ (codes "sup", Style)
    ∷ (codes "/sup", Style)
    ∷ (codes "sub", Style)
    ∷ (codes "/sub", Style)
    ∷ (codes "span class=\"nocase\"", CaseSpan)
    ∷ (codes "span", Span)
    ∷ (codes "/span", SpanEnd)
    ∷ []

-- a span may have any attributes
abbrev pub other_tag : List ℕ → Option Tag
other_tag inside = if starts_with nat_eq inside (codes "span ") then Some Span else None

abbrev pub tag_among : Option Tag → List ℕ → Option Tag
tag_among (Some tag) inside = Some tag
tag_among None inside = other_tag inside

-- the tag that has this between its brackets
abbrev pub tag_of : List ℕ → Option Tag
tag_of inside = tag_among (lookup (bytes_eq inside) tag_table) inside

-- ---- the text between tags

-- what is read of a text so far, and how many spans are open, from one that keeps its case on
pub record Marked : Type 0 where
  pub depth : ℕ
  pub read : List Chunk

abbrev pub kind_in : ℕ → ChunkKind
kind_in depth = if nat_lt 0 depth then Verbatim else Normal

-- the state after a text that stands for itself
abbrev pub pushed : List ℕ → Marked → Marked
pushed [] m = m
pushed (b ∷ bs) m = record { depth = m.depth; read = push_str m.read (b ∷ bs) (kind_in m.depth) }

-- how many spans are open behind a tag: no other span counts where none keeps its case
abbrev pub depth_behind : Tag → ℕ → ℕ
depth_behind Style depth = depth
depth_behind Span depth = if nat_lt 0 depth then depth + 1 else depth
depth_behind CaseSpan depth = depth + 1
depth_behind SpanEnd depth = depth - 1

abbrev pub behind_tag : Tag → Marked → Marked
behind_tag tag m = record { depth = depth_behind tag m.depth; read = m.read }

-- ---- a text, piece by piece

-- what stands before the first of these signs, and behind it
abbrev pub cut : ℕ → List ℕ → Option (List ℕ × List ℕ)
cut sign text =
    if nat_lt (position_or_len (λ b. b == sign) text) (length text) then
    Some (before_first (λ b. b == sign) text, after_first (λ b. b == sign) text)
    else None

-- a piece with no tag at its front, of which the bracket that opened it stands for itself
abbrev pub untagged : List ℕ → Marked → Marked
untagged piece m = pushed piece (pushed (codes "<") m)

abbrev pub tagged : Option Tag → List ℕ → List ℕ → Marked → Marked
tagged None piece behind m = untagged piece m
tagged (Some tag) piece behind m = pushed behind (behind_tag tag m)

abbrev pub taken_by : Option (List ℕ × List ℕ) → List ℕ → Marked → Marked
taken_by None piece m = untagged piece m
taken_by (Some parts) piece m = tagged (tag_of parts.0) piece parts.1 m

-- the state after a piece that follows an opening bracket, which has no other in it
abbrev pub taken : List ℕ → Marked → Marked
taken piece m = taken_by (cut 62 piece) piece m

-- the byte at the front of the first piece
abbrev pub grow_first : ℕ → List (List ℕ) → List (List ℕ)
grow_first b [] = (b ∷ []) ∷ []
grow_first b (piece ∷ pieces) = (b ∷ piece) ∷ pieces

-- the pieces of a text, separated by opening brackets
abbrev pub pieces : List ℕ → List (List ℕ)
pieces [] = [] ∷ []
pieces (b ∷ bs) = if b == 60 then [] ∷ pieces bs else grow_first b (pieces bs)

abbrev pub all_taken : List (List ℕ) → Marked → Marked
all_taken [] m = m
all_taken (piece ∷ rest) m = all_taken rest (taken piece m)

-- the first piece stands for itself, as no bracket opens it
abbrev pub pieces_read : List (List ℕ) → Marked
pieces_read [] = record { depth = 0; read = [] }
pieces_read (piece ∷ rest) = all_taken rest (pushed piece (record { depth = 0; read = [] }))

-- the chunks of a text with CSL's markup
abbrev pub markup_read : List ℕ → List Chunk
markup_read text = (pieces_read (pieces text)).read
