-- What a push makes of a list of chunks.
use Rattle.std.proofs.Common.{◌≡◌, ℕ, Bool, true, false, cond, List, [], ◌∷◌, ◌++◌, length, get_or, refl, ap, sym, ◌∙◌, arith, map, zero, suc, append_assoc}
use Rattle.std.proofs.Math.ListN.{set}
use denote.Enum.Bare.{sameb, same_true}
use Rattle.std.specs.Str.{chars, IsUtf8}
use Rattle.std.specs.String.{string_bytes}
use Rattle.std.proofs.lemmas.Str.{chars-append, IsUtf8-string_bytes}
use Rattle.std.proofs.lemmas.List.{append-nil}
use Rattle.haya_text.specs.contracts.strings.kind.ChunkKind.{the_type}
use Rattle.haya_text.specs.declared.strings.kind.ChunkKind.{ChunkKind}
use Rattle.haya_text.specs.declared.strings.chunk.StringChunk.{StringChunk}
use Rattle.haya_text.specs.Chunks.{Chunk, chunk_view, characters_of_kind, characters, ends_in, grow_last, push_str}

-- the last chunk grows
pub set_last_grown : (items : List StringChunk) (n : ℕ) (last new : StringChunk) (text : List ℕ) → suc n ≡ length items → last ≡ get_or items n last
    → chunk_view new ≡ (string_bytes last.value ++ text, last.kind) → map chunk_view (set items n new) ≡ grow_last (map chunk_view items) text
set_last_grown [] n last new text len is e = absurd (omega arith)
set_last_grown (x ∷ []) zero last new text len is e = rw (← is, e) refl
set_last_grown (x ∷ []) (suc n) last new text len is e = absurd (omega arith)
set_last_grown (x ∷ y ∷ rest) zero last new text len is e = absurd (omega arith)
set_last_grown (x ∷ y ∷ rest) (suc n) last new text len is e = ap (λ ps. chunk_view x ∷ ps) (set_last_grown (y ∷ rest) n last new text (omega arith) is e)

-- whether the last chunk is of the kind
pub ends_in-last : (items : List StringChunk) (n : ℕ) (last : StringChunk) (kind : ChunkKind) → suc n ≡ length items → last ≡ get_or items n last → ends_in kind (map chunk_view items) ≡ sameb the_type last.kind kind
ends_in-last [] n last kind len is = absurd (omega arith)
ends_in-last (x ∷ []) zero last kind len is = rw (← is) refl
ends_in-last (x ∷ []) (suc n) last kind len is = absurd (omega arith)
ends_in-last (x ∷ y ∷ rest) zero last kind len is = absurd (omega arith)
ends_in-last (x ∷ y ∷ rest) (suc n) last kind len is = ends_in-last (y ∷ rest) n last kind (omega arith) is

-- every chunk is text
abbrev pub AllUtf8 : List Chunk → Type 0
AllUtf8 [] = Unit {0}
AllUtf8 (c ∷ cs) = IsUtf8 c.0 × AllUtf8 cs

pub AllUtf8-chunks : (items : List StringChunk) → AllUtf8 (map chunk_view items)
AllUtf8-chunks [] = tt
AllUtf8-chunks (x ∷ items) = (IsUtf8-string_bytes x.value, AllUtf8-chunks items)

pub characters_of_kind-append : (kind : ChunkKind) (xs ys : List ℕ) → characters_of_kind kind (xs ++ ys) ≡ characters_of_kind kind xs ++ characters_of_kind kind ys
characters_of_kind-append kind [] ys = refl
characters_of_kind-append kind (x ∷ xs) ys = ap (λ l. (x, kind) ∷ l) (characters_of_kind-append kind xs ys)

characters-append : (ps qs : List Chunk) → characters (ps ++ qs) ≡ characters ps ++ characters qs
characters-append [] qs = refl
characters-append (p ∷ ps) qs = rw (characters-append ps qs) (sym (append_assoc (characters_of_kind p.1 (chars p.0)) (characters ps) (characters qs)))

pub characters-grow_last : (ps : List Chunk) (text : List ℕ) (kind : ChunkKind) → AllUtf8 ps → ends_in kind ps ≡ true → characters (grow_last ps text) ≡ characters ps ++ characters_of_kind kind (chars text)
characters-grow_last [] text kind u h = cc
characters-grow_last (p ∷ []) text kind u h =
    let k : p.1 ≡ kind = same_true the_type tt p.1 kind h in
    rw (append-nil (characters_of_kind p.1 (chars (p.0 ++ text))), append-nil (characters_of_kind p.1 (chars p.0)), chars-append p.0 text u.0, characters_of_kind-append p.1 (chars p.0) (chars text), k) refl
characters-grow_last (p ∷ q ∷ ps) text kind u h = rw (characters-grow_last (q ∷ ps) text kind u.1 h) (sym (append_assoc (characters_of_kind p.1 (chars p.0)) (characters (q ∷ ps)) (characters_of_kind kind (chars text))))

-- a push appends its characters
pub characters-push_str : (ps : List Chunk) (text : List ℕ) (kind : ChunkKind) → AllUtf8 ps → characters (push_str ps text kind) ≡ characters ps ++ characters_of_kind kind (chars text)
characters-push_str ps text kind u = by_end (ends_in kind ps) refl
  where
    by_end : (b : Bool) → ends_in kind ps ≡ b → characters (cond b (grow_last ps text) (ps ++ (text, kind) ∷ [])) ≡ characters ps ++ characters_of_kind kind (chars text)
    by_end true h = characters-grow_last ps text kind u h
    by_end false h = characters-append ps ((text, kind) ∷ []) ∙ ap (λ l. characters ps ++ l) (append-nil (characters_of_kind kind (chars text)))
