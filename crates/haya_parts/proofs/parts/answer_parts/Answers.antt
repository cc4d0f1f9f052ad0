use Rattle.std.proofs.Common.{[], inl, inr, refl, append-nil, rules}
use Rattle.std.proofs.KnownBytes.{Keeps-refl}
use Rattle.std.proofs.lemmas.Result.{err_from_is_err_and, on_ok_weaker}
use Rattle.haya_parts.proofs.Stopping.{all_kept, begun, block_read, ended, if_err_weaker, kept, read_fails, stopped, unwritten_end, unwritten_kept}
use Rattle.haya_parts.proofs.parts.answer_parts.Goals as goal
use Rattle.haya_parts.proofs.parts.answer_parts.Goals.{in-Ok+in_ok-answer_block-in-Ok, in-Err}

pub answer_rest-requires-clause-begun : goal.answer_rest-requires-clause-begun
answer_rest-requires-clause-begun g c = begun g.D.Divider.divides g.D.Divider.are_parts g.A.Answerer.answers g.A.Answerer.refuses g.A.Answerer.is_done c.args.divider.now c.args.answerer.now (g.R.Read.remaining c.args.input.now) (g.W.Write.contents c.args.out.now) c.reads.divider c.reads.answerer _ _ c.reads.buffers.held.items c.reads.invariant.read

pub returns-in-Ok-eq0-clause-all : goal.returns-in-Ok-eq0-clause-all
returns-in-Ok-eq0-clause-all g c =
    let gave = rw c.in-Ok-eq0.field-0-test at (rw c.in-Ok-eq0.is at c.read.ensures.bytes) in
    on_ok_weaker c.answer_rest.result
    (λ e. inl (all_kept _ _ g.A.Answerer.answers g.A.Answerer.is_done _ _ _ _ _ _
    c.reads.invariant.same
    (ended g.D.Divider.divides g.D.Divider.are_parts g.A.Answerer.answers g.A.Answerer.refuses g.A.Answerer.is_done c.args.divider.now c.args.answerer.now (g.R.Read.remaining c.args.input.now) (g.W.Write.contents c.args.out.now) c.reads.divider c.reads.answerer _ _ c.reads.buffers.held.items c.reads.invariant.read _ _ _ gave.0 (gave.1 refl (search rules)) e)))
    c.answer_rest.ensures.ends

pub returns-in-Ok-eq0-clause-part : goal.returns-in-Ok-eq0-clause-part
returns-in-Ok-eq0-clause-part g c =
    let gave = rw c.in-Ok-eq0.field-0-test at (rw c.in-Ok-eq0.is at c.read.ensures.bytes) in
    if_err_weaker c.answer_rest.result _ _ c.answer_rest.ensures.stops
    (λ fault e. elim e [
      | inl x ↦ inl (stopped g.D.Divider.divides g.D.Divider.are_parts g.A.Answerer.answers g.A.Answerer.refuses g.A.Answerer.is_done c.args.divider.now c.args.answerer.now (g.R.Read.remaining c.args.input.now) (g.W.Write.contents c.args.out.now) c.reads.divider c.reads.answerer _ _ c.reads.buffers.held.items c.reads.invariant.read _ _ _ [] fault gave.0 (rw (append-nil c.reads.buffers.held.items) x))
      | inr x ↦ inr (
        x.0,
        unwritten_kept _ _ g.A.Answerer.answers g.A.Answerer.is_done _ _ _ _ _
            c.reads.invariant.same
            (unwritten_end g.D.Divider.divides g.D.Divider.are_parts g.A.Answerer.answers g.A.Answerer.refuses g.A.Answerer.is_done c.args.divider.now c.args.answerer.now (g.R.Read.remaining c.args.input.now) (g.W.Write.contents c.args.out.now) c.reads.divider c.reads.answerer _ _ c.reads.buffers.held.items c.reads.invariant.read _ _ gave.0 (gave.1 refl (search rules)) x.1),
      )
    ])

pub returns-in_err-answer_block-in-Ok-clause-part :
    goal.returns-in_err-answer_block-in-Ok-clause-part
returns-in_err-answer_block-in-Ok-clause-part g c =
    let p = err_from_is_err_and c.from_residual.result c.from_residual.ensures.1 in
    rw (p.1, p.2)
    (inl (stopped g.D.Divider.divides g.D.Divider.are_parts g.A.Answerer.answers g.A.Answerer.refuses g.A.Answerer.is_done c.args.divider.now c.args.answerer.now (g.R.Read.remaining c.args.input.now) (g.W.Write.contents c.args.out.now) c.reads.divider c.reads.answerer _ _ c.reads.buffers.held.items c.reads.invariant.read _ _ _ _ _ c.in-Ok.ensures.bytes.0 c.in_err-answer_block-in-Ok.ensures.stops))

pub returns-in-Err-2-clause-part : goal.returns-in-Err-2-clause-part
returns-in-Err-2-clause-part g c = inl (read_fails g.D.Divider.divides g.D.Divider.are_parts g.A.Answerer.answers g.A.Answerer.refuses g.A.Answerer.is_done c.args.divider.now c.args.answerer.now (g.R.Read.remaining c.args.input.now) (g.W.Write.contents c.args.out.now) c.reads.divider c.reads.answerer _ _ c.reads.buffers.held.items c.reads.invariant.read _ _ c.in-Err-2.ensures.bytes)

pub returns-clause-part : goal.returns-clause-part
returns-clause-part g c = inl (read_fails g.D.Divider.divides g.D.Divider.are_parts g.A.Answerer.answers g.A.Answerer.refuses g.A.Answerer.is_done c.args.divider.now c.args.answerer.now (g.R.Read.remaining c.args.input.now) (g.W.Write.contents c.args.out.now) c.reads.divider c.reads.answerer _ _ c.reads.buffers.held.items c.reads.invariant.read _ _ (Keeps-refl _))

pub reads-preserved : goal.reads-preserved
reads-preserved g c =
    elim c.match-read.branch [
      | in-Ok+in_ok-answer_block-in-Ok w ↦
          let took = w.in_ok-answer_block-in-Ok.ensures in
          rw (w.buffers-is, w.out-is, w.answerer-is, w.divider-is)
          (record {
            empty = took.empty;
            read = block_read g.D.Divider.divides g.D.Divider.are_parts g.A.Answerer.answers g.A.Answerer.refuses g.A.Answerer.is_done c.args.divider.now c.args.answerer.now (g.R.Read.remaining c.args.input.now) (g.W.Write.contents c.args.out.now) c.reads.divider c.reads.answerer _ _ c.reads.buffers.held.items c.reads.invariant.read _ _ _ _ _ _ w.in-Ok.ensures.bytes.0 took.moves;
            same = λ text parts h. c.reads.invariant.same text parts (took.same text parts h);
          })
      | in-Err w ↦
          rw (w.buffers-is, w.out-is, w.answerer-is, w.divider-is)
          (record {
            empty = c.reads.invariant.empty;
            read = kept g.D.Divider.divides g.D.Divider.are_parts g.A.Answerer.answers g.A.Answerer.refuses g.A.Answerer.is_done c.args.divider.now c.args.answerer.now (g.R.Read.remaining c.args.input.now) (g.W.Write.contents c.args.out.now) c.reads.divider c.reads.answerer _ _ c.reads.buffers.held.items c.reads.invariant.read _ w.in-Err.ensures.bytes;
            same = c.reads.invariant.same;
          })
    ]
