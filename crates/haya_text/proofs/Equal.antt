-- The derived `==` of texts tells whether they are equal by value.
use Rattle.std.proofs.Common.{◌≡◌, Bool, true, false, List, Option, refl, ap}
use Rattle.std.proofs.lemmas.Bool.Decides.{Decides-eqb}
use denote.Enum.Bare.{same_true, true_same}
use Rattle.haya_text.specs.declared.strings.kind.ChunkKind.{ChunkKind}
use Rattle.haya_text.specs.declared.strings.kind.ChunkKind.TheVariants as kind
use Rattle.haya_text.specs.declared.strings.kind.FoldableKind.{FoldableKind}
use Rattle.haya_text.specs.declared.strings.kind.FoldableKind.TheVariants as foldable
use Rattle.haya_text.specs.contracts.strings.kind.ChunkKind as chunk_kind
use Rattle.haya_text.specs.contracts.strings.kind.FoldableKind as foldable_kind
use Rattle.haya_text.specs.contracts.strings.chunk.StringChunkPartialEq.TheImpl as string_chunk
use Rattle.haya_text.specs.contracts.strings.chunked.ChunkedStringPartialEq.TheImpl as chunked_string
use Rattle.haya_text.specs.contracts.strings.foldable.FoldableStringChunkPartialEq.TheImpl as foldable_string_chunk
use Rattle.haya_text.specs.contracts.strings.foldable.FoldableChunkedStringPartialEq.TheImpl as foldable_chunked_string
use Rattle.haya_text.specs.contracts.strings.format.FormatStringPartialEq.TheImpl as format_string
use Rattle.haya_text.specs.contracts.strings.format.LongShortForm as form
use Rattle.haya_text.specs.contracts.strings.kind.ChunkKindPartialEq.TheImpl as chunk_kind_eq
use Rattle.haya_text.specs.contracts.strings.kind.FoldableKindPartialEq.TheImpl as foldable_kind_eq
use Rattle.haya_text.specs.contracts.strings.format.LongShortFormPartialEq.TheImpl as form_eq
use Rattle.haya_text.specs.contracts.fault.OutOfMemoryPartialEq.TheImpl as out_of_memory
use Rattle.haya_text.specs.contracts.strings.reading.ChunkedStrParseErrorPartialEq.TheImpl as parse_error
use Rattle.haya_text.specs.contracts.strings.reading.ChunkedReadErrorPartialEq.TheImpl as read_error
use Rattle.haya_text.specs.contracts.strings.foldable.FoldErrorPartialEq.TheImpl as fold_error
use Rattle.haya_text.specs.declared.strings.reading.ChunkedReadError.TheVariants as read
use Rattle.haya_text.specs.declared.strings.foldable.FoldError.TheVariants as fold
use Rattle.haya_text.specs.Chunks.{Chunk, chunk_view, chunks}
use Rattle.haya_text.specs.Foldable.{unfolded_kind, foldable_view, foldable_chunks, fold_error_view}
use Rattle.haya_text.specs.Texts.{text_view}
use Rattle.haya_text.proofs.Tells.{Same, Tells, Same-both, Same-along, lists-tell, options-tell, strings-tell}

pub chunk-tells : Tells string_chunk.ghosts.eq chunk_view
chunk-tells a b = Same-both _ _ _ _ _ _ (strings-tell a.value b.value) (same_true chunk_kind.the_type tt a.kind b.kind, true_same chunk_kind.the_type a.kind b.kind)

pub chunks-tell : Tells chunked_string.ghosts.eq chunks
chunks-tell a b = lists-tell _ chunk_view chunk-tells a.0.items b.0.items

pub texts-tell : Tells format_string.ghosts.eq text_view
texts-tell a b =
    Same-along _ (λ (p : List Chunk × Option (List Chunk)). record { value = p.0; short = p.1 }) (λ t. (t.value, t.short)) _ _ refl refl
    (Same-both _ _ _ _ _ _ (chunks-tell a.value b.value) (options-tell _ _ (λ c d. chunks-tell c.value d.value) a.short b.short))

folded_kind : ChunkKind → FoldableKind
folded_kind kind.Verbatim = foldable.Verbatim
folded_kind _ = foldable.Normal

folded_kind-unfolded : (k : FoldableKind) → folded_kind (unfolded_kind k) ≡ k
unfolding folded_kind
folded_kind-unfolded foldable.Normal = refl
folded_kind-unfolded foldable.Verbatim = refl

pub foldable_chunk-tells : Tells foldable_string_chunk.ghosts.eq foldable_view
foldable_chunk-tells a b =
    Same-both _ _ _ _ _ _ (strings-tell a.value b.value)
    (Same-along _ unfolded_kind folded_kind _ _ (folded_kind-unfolded a.kind) (folded_kind-unfolded b.kind)
    (same_true foldable_kind.the_type tt a.kind b.kind, true_same foldable_kind.the_type a.kind b.kind))

pub foldable_chunks-tell : Tells foldable_chunked_string.ghosts.eq foldable_chunks
foldable_chunks-tell a b = lists-tell _ foldable_view foldable_chunk-tells a.0.items b.0.items

-- kinds and forms, which are compared by their variants
pub kinds-tell : Tells chunk_kind_eq.ghosts.eq (λ k. k)
kinds-tell a b = (same_true chunk_kind.the_type tt a b, true_same chunk_kind.the_type a b)

pub foldable_kinds-tell : Tells foldable_kind_eq.ghosts.eq (λ k. k)
foldable_kinds-tell a b = (same_true foldable_kind.the_type tt a b, true_same foldable_kind.the_type a b)

pub forms-tell : Tells form_eq.ghosts.eq (λ k. k)
forms-tell a b = (same_true form.the_type tt a b, true_same form.the_type a b)

-- errors
pub out_of_memory-tells : Tells out_of_memory.ghosts.eq (λ e. e)
out_of_memory-tells a b = (λ _. refl, λ _. refl)

pub parse_errors-tell : Tells parse_error.ghosts.eq (λ e. e)
parse_errors-tell a b =
    Same-along _ (λ n. record { position = n }) (λ e. e.position) _ _ refl refl (Decides-eqb a.position b.position)

pub read_errors-tell : Tells read_error.ghosts.eq (λ e. e)
read_errors-tell (read.Parse a) (read.Parse b) =
    let same = parse_errors-tell a b in (λ h. ap read.Parse (same.0 h), λ h. let e : a ≡ b = cc in same.1 e)
read_errors-tell read.OutOfMemory read.OutOfMemory = (λ _. refl, λ _. refl)
read_errors-tell _ _ = (λ h. cc, λ h. cc)

-- the same text after the same answer
same_text_after : (math : Bool) (b : Bool) (cs ds : List Chunk) → Same b cs ds → Same {Y = Bool × List Chunk} b (math, cs) (math, ds)
same_text_after math b cs ds same = (λ h. ap (λ l. (math, l)) (same.0 h), λ h. same.1 (ap (λ p. p.1) h))

-- no text after one answer is that after the other
other_answer : (cs ds : List Chunk) (m n : Bool) → (m ≡ n → false ≡ true) → Same {Y = Bool × List Chunk} false (m, cs) (n, ds)
other_answer cs ds m n apart = (λ h. cc, λ h. apart (ap (λ p. p.0) h))

pub fold_errors-tell : Tells fold_error.ghosts.eq fold_error_view
fold_errors-tell (fold.Math a) (fold.Math b) = same_text_after true _ _ _ (chunks-tell a b)
fold_errors-tell (fold.OutOfMemory a) (fold.OutOfMemory b) = same_text_after false _ _ _ (chunks-tell a b)
fold_errors-tell (fold.Math a) (fold.OutOfMemory b) = other_answer (chunks a) (chunks b) true false (λ e. cc)
fold_errors-tell (fold.OutOfMemory a) (fold.Math b) = other_answer (chunks a) (chunks b) false true (λ e. e)
