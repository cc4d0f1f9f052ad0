use Rattle.std.proofs.Common.{◌≡◌, ◌∷◌, ℕ, List, false, Err, Some, sym, ap, ◌∙◌, arith, refl}
use Rattle.std.proofs.lemmas.Result.{err_from_is_err_and}
use Rattle.std.specs.Str.{chars}
use Rattle.haya_text.specs.Chunks.{characters, chunks}
use Rattle.haya_text.specs.Marks.{Refuses}
use Rattle.haya_text.specs.Reading.{IsRefusal, result_after, scan}
use Rattle.haya_text.specs.declared.strings.reading.ChunkedReadError.{ChunkedReadError}
use Rattle.haya_text.specs.declared.strings.reading.ChunkedReadError.TheVariants.{Parse, OutOfMemory}
use Rattle.haya_text.specs.declared.strings.reading.Mark.{Mark}
use Rattle.haya_text.specs.declared.strings.reading.Mark.TheVariants.{Close}
use Rattle.haya_text.specs.declared.strings.reading.Reader.{Reader}
use Rattle.haya_text.specs.Grammar.{IsRefusedAt}
use Rattle.haya_text.proofs.Grammars.{refused_at, scan_of_mark-refused}
use Rattle.haya_text.proofs.Scans.{result_after-nil}
use Rattle.haya_text.proofs.Characters.{length-chars}
use Rattle.haya_text.proofs.strings.reading.read_chunks.Goals as goal

refusal : (text : List ℕ) (place : ℕ) (r : Reader) (mark : Mark) (e : ChunkedReadError) → Refuses place r mark e
    → (mark ≡ Close → r.depth ≡ 0 → r.math ≡ false → IsRefusedAt place text) → IsRefusal text e
refusal text place r mark (Parse brace) h f = rw h.0 (f h.1 h.2 h.3)
refusal text place r mark OutOfMemory h f = tt

pub marks-init : goal.marks-init
marks-init c =
    let whole = length-chars c.args.text.now c.utf8.text in
    record {
      reads = c.in_ok-take_plain.ensures.reads ∙ rw (c.new.ensures, c.new-cursor.ensures) (result_after-nil _);
      normal = c.in_ok-take_plain.ensures.normal (rw c.new.ensures refl);
      depth = omega arith;
      place = c.place-place.ensures;
      whole = c.in_ok-take_plain.ensures.same_text ∙ rw c.new-cursor.ensures (omega arith);
    }

pub returns-in_err-take : goal.returns-in_err-take
returns-in_err-take c =
    let p = err_from_is_err_and c.from_residual-in_err-take.result c.from_residual-in_err-take.ensures.1 in
    let r : Reader = c.marks.reader in
    let rest : List ℕ = c.next_mark.new.cursor.rest in
    let at_brace : c.in-Some.mark ≡ Close → r.depth ≡ 0 → r.math ≡ false → IsRefusedAt c.marks.place c.args.text.now = λ brace depth math.
    let stops : scan 0 false false (chars c.args.text.now) ≡ Err (125 ∷ rest) =
    sym c.marks.invariant.reads ∙ ap (result_after (characters (chunks r.read))) (c.in-Some.ensures.reads r.depth r.math ∙ scan_of_mark-refused r.depth r.math c.in-Some.mark rest brace depth math) in
    let next = c.in-Some.ensures.closing (ap Some brace) in
    let whole = c.in-Some.ensures.same_text ∙ c.marks.invariant.whole in
    refused_at c.args.text.now rest c.marks.place c.utf8.text stops (omega arith) in
    rw (p.1, p.2) (refusal c.args.text.now c.marks.place r c.in-Some.mark c.in_err-take.field-0.0 c.in_err-take.ensures.reads at_brace)

pub marks-preserved : goal.marks-preserved
marks-preserved c =
    let deeper = c.in_ok-take.ensures.depth in
    let forward = c.in-Some.ensures.forward in
    record {
      reads = c.in_ok-take_plain-2.ensures.reads ∙ sym (c.in_ok-take.ensures.reads c.next_mark.new.cursor.rest) ∙ ap (result_after (characters (chunks c.marks.reader.read))) (sym (c.in-Some.ensures.reads c.marks.reader.depth c.marks.reader.math)) ∙ c.marks.invariant.reads;
      normal = c.in_ok-take_plain-2.ensures.normal (c.in_ok-take.ensures.normal c.marks.invariant.normal);
      depth = omega arith;
      place = c.place-place-in-Some.ensures;
      whole = c.in_ok-take_plain-2.ensures.same_text ∙ c.in-Some.ensures.same_text ∙ c.marks.invariant.whole;
    }
