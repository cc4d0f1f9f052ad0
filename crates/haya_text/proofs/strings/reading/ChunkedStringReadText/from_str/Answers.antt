use Rattle.std.proofs.Common.{◌≡◌, Result, Ok, Err, false, List, ℕ, Some, None}
use Rattle.std.specs.Prelude.{IfOk, IfErr, MatchResult}
use Rattle.haya_text.specs.declared.strings.chunked.ChunkedString.{ChunkedString}
use Rattle.haya_text.specs.declared.strings.reading.ChunkedReadError.{ChunkedReadError}
use Rattle.haya_text.specs.declared.strings.reading.ChunkedReadError.TheVariants.{Parse, OutOfMemory}
use Rattle.haya_text.specs.Chunks.{chunks}
use Rattle.haya_text.specs.Grammar.{ReadsAs}
use Rattle.haya_text.specs.Reading.{chunks_read, is_out_of_memory, position_of, IsRefusal}
use Rattle.haya_text.proofs.Grammars.{reads-as, refused-reads}
use Rattle.haya_text.proofs.strings.reading.ChunkedStringReadText.from_str.Goals as goal

grammar : (text : List ℕ) (r : Result ChunkedString ChunkedReadError) → MatchResult r (λ v. chunks_read text ≡ Some (chunks v)) (IsRefusal text) → IfOk r (λ v. ReadsAs text (chunks v))
grammar text (Ok v) h = reads-as text (chunks v) h
grammar text (Err e) h = tt

fault : (text : List ℕ) (r : Result ChunkedString ChunkedReadError) → MatchResult r (λ v. chunks_read text ≡ Some (chunks v)) (IsRefusal text) → IfErr r (λ e. is_out_of_memory e ≡ false → chunks_read text ≡ None)
fault text (Ok v) h = tt
fault text (Err (Parse brace)) h = λ _. refused-reads text (position_of brace) h
fault text (Err OutOfMemory) h = λ f. cc

pub returns-clause-fault : goal.returns-clause-fault
returns-clause-fault c = fault c.args.text.now c.read_chunks.result c.read_chunks.ensures

pub returns-clause-grammar : goal.returns-clause-grammar
returns-clause-grammar c = grammar c.args.text.now c.read_chunks.result c.read_chunks.ensures
