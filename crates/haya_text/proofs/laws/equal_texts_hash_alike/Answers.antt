use Rattle.haya_text.specs.contracts.strings.chunk.StringChunkHash.TheImpl.Laws as chunk
use Rattle.haya_text.specs.contracts.strings.chunked.ChunkedStringHash.TheImpl.Laws as chunked
use Rattle.haya_text.specs.contracts.strings.foldable.FoldableStringChunkHash.TheImpl.Laws as foldable_chunk
use Rattle.haya_text.specs.contracts.strings.foldable.FoldableChunkedStringHash.TheImpl.Laws as foldable
use Rattle.haya_text.specs.contracts.strings.format.FormatStringHash.TheImpl.Laws as format
use Rattle.haya_text.specs.contracts.strings.kind.ChunkKindHash.TheImpl.Laws as kind
use Rattle.haya_text.specs.contracts.strings.kind.FoldableKindHash.TheImpl.Laws as foldable_kind
use Rattle.haya_text.specs.contracts.strings.format.LongShortFormHash.TheImpl.Laws as form
use Rattle.haya_text.proofs.laws.equal_texts_hash_alike.Goals as goal

pub returns-clause-chunk : goal.returns-clause-chunk
returns-clause-chunk c = chunk.respects_eq-law

pub returns-clause-chunked : goal.returns-clause-chunked
returns-clause-chunked c = chunked.respects_eq-law

pub returns-clause-foldable_chunk : goal.returns-clause-foldable_chunk
returns-clause-foldable_chunk c = foldable_chunk.respects_eq-law

pub returns-clause-foldable : goal.returns-clause-foldable
returns-clause-foldable c = foldable.respects_eq-law

pub returns-clause-format : goal.returns-clause-format
returns-clause-format c = format.respects_eq-law

pub returns-clause-kind : goal.returns-clause-kind
returns-clause-kind c = kind.respects_eq-law

pub returns-clause-foldable_kind : goal.returns-clause-foldable_kind
returns-clause-foldable_kind c = foldable_kind.respects_eq-law

pub returns-clause-form : goal.returns-clause-form
returns-clause-form c = form.respects_eq-law
