use Rattle.std.proofs.Common.{inr, refl, sym, ◌∙◌, rules, None, arith}
use Rattle.std.proofs.KnownBytes.{Keeps-refl}
use Rattle.std.proofs.lemmas.Result.{err_from_is_err_and, on_ok_weaker}
use Rattle.haya_line_stream.specs.Answered.{Asked}
use Rattle.haya_line_stream.proofs.Reading.{block_part, block_read, end_part, end_read, goes_on, is_enough, kept_read, none_read, read_fails}
use Rattle.haya_line_stream.proofs.stream.answer_all.Goals as goal
use Rattle.haya_line_stream.proofs.stream.answer_all.Goals.{in-Ok+in_ok-answer_block-in-Ok, in-Err}

pub reads-init : goal.reads-init
reads-init g c = rw c.new-held.ensures.items (record { empty = search rules; read = inr (none_read (Asked g.A.Answerer.is_done g.A.Answerer.answers) _ _ _, λ k d within. absurd (omega arith)) })

pub reads-preserved : goal.reads-preserved
reads-preserved g c =
    let read = goes_on (Asked g.A.Answerer.is_done g.A.Answerer.answers) g.A.Answerer.is_done _ _ _ _ _ _ c.reads.invariant.read (sym c.is_done.ensures ∙ c.if-is_done.false) in
    elim c.match-read.branch [
      | in-Ok+in_ok-answer_block-in-Ok w ↦
          let took = w.in_ok-answer_block-in-Ok.ensures in
          rw (w.held-is, w.out-is, w.answerer-is, w.printed-is)
          (record { empty = took.empty; read = block_read (Asked g.A.Answerer.is_done g.A.Answerer.answers) _ _ _ _ _ _ _ _ _ _ read.0 g.A.Answerer.is_done _ _ w.in-Ok.ensures.bytes.0 took.moves })
      | in-Err w ↦
          rw (w.held-is, w.out-is, w.answerer-is, w.printed-is)
          (record {
            empty = c.reads.invariant.empty;
            read = inr (kept_read (Asked g.A.Answerer.is_done g.A.Answerer.answers) _ _ c.reads.answerer _ _ _ _ _ None _ read.0 w.in-Err.ensures.bytes, read.1);
          })
    ]

pub returns-then-is_done-clause-all : goal.returns-then-is_done-clause-all
returns-then-is_done-clause-all g c =
    inr (is_enough (Asked g.A.Answerer.is_done g.A.Answerer.answers) g.A.Answerer.is_done _ _ _ _ _ _ c.reads.held.items (sym c.is_done.ensures ∙ c.if-is_done.true) c.reads.invariant.read)

pub answer_rest-requires : goal.answer_rest-requires
answer_rest-requires g c =
    let read = goes_on (Asked g.A.Answerer.is_done g.A.Answerer.answers) g.A.Answerer.is_done _ _ _ _ _ _ c.reads.invariant.read (sym c.is_done.ensures ∙ c.if-is_done.false) in
    record { none = rw c.as_slice.ensures.value read.1; empty = c.reads.invariant.empty; goes_on = sym c.is_done.ensures ∙ c.if-is_done.false }

pub answer_block-requires : goal.answer_block-requires
answer_block-requires g c =
    let read = goes_on (Asked g.A.Answerer.is_done g.A.Answerer.answers) g.A.Answerer.is_done _ _ _ _ _ _ c.reads.invariant.read (sym c.is_done.ensures ∙ c.if-is_done.false) in
    record { none = read.1; empty = c.reads.invariant.empty }

pub returns-in-Ok-eq0-clause-all : goal.returns-in-Ok-eq0-clause-all
returns-in-Ok-eq0-clause-all g c =
    let read = goes_on (Asked g.A.Answerer.is_done g.A.Answerer.answers) g.A.Answerer.is_done _ _ _ _ _ _ c.reads.invariant.read (sym c.is_done.ensures ∙ c.if-is_done.false) in
    let gave = rw c.in-Ok-eq0.field-0-test at (rw c.in-Ok-eq0.is at c.read.ensures.bytes) in
    on_ok_weaker c.answer_rest.result
    (λ e. end_read (Asked g.A.Answerer.is_done g.A.Answerer.answers) _ _ _ _ _ _ _ _ _ _ read.0 g.A.Answerer.is_done e.0 gave.0 (gave.1 refl (search rules)) e.4 e.1
    (rw c.as_slice.ensures.value at e.2) e.3)
    c.answer_rest.ensures.all

pub returns-in-Ok-eq0-clause-part : goal.returns-in-Ok-eq0-clause-part
returns-in-Ok-eq0-clause-part g c =
    let read = goes_on (Asked g.A.Answerer.is_done g.A.Answerer.answers) g.A.Answerer.is_done _ _ _ _ _ _ c.reads.invariant.read (sym c.is_done.ensures ∙ c.if-is_done.false) in
    let gave = rw c.in-Ok-eq0.field-0-test at (rw c.in-Ok-eq0.is at c.read.ensures.bytes) in
    end_part (Asked g.A.Answerer.is_done g.A.Answerer.answers) _ _ c.reads.answerer _ _ _ _ _ _ _ read.0 g.A.Answerer.refuses _ c.answer_rest.result gave.0 (gave.1 refl (search rules))
    (rw c.as_slice.ensures.value at c.answer_rest.ensures.part)

pub returns-in_err-answer_block-in-Ok-clause-part : goal.returns-in_err-answer_block-in-Ok-clause-part
returns-in_err-answer_block-in-Ok-clause-part g c =
    let read = goes_on (Asked g.A.Answerer.is_done g.A.Answerer.answers) g.A.Answerer.is_done _ _ _ _ _ _ c.reads.invariant.read (sym c.is_done.ensures ∙ c.if-is_done.false) in
    let p = err_from_is_err_and c.from_residual.result c.from_residual.ensures.1 in
    rw (p.1, p.2)
    (block_part (Asked g.A.Answerer.is_done g.A.Answerer.answers) _ _ c.reads.answerer _ _ _ _ _ _ _ read.0 g.A.Answerer.refuses _ _ _ c.in-Ok.ensures.bytes.0
    c.in_err-answer_block-in-Ok.ensures.part)

pub returns-in-Err-2-clause-part : goal.returns-in-Err-2-clause-part
returns-in-Err-2-clause-part g c =
    let read = goes_on (Asked g.A.Answerer.is_done g.A.Answerer.answers) g.A.Answerer.is_done _ _ _ _ _ _ c.reads.invariant.read (sym c.is_done.ensures ∙ c.if-is_done.false) in
    read_fails (Asked g.A.Answerer.is_done g.A.Answerer.answers) _ _ c.reads.answerer _ _ _ _ _ None _ read.0 g.A.Answerer.refuses _ _ read.1 c.in-Err-2.ensures.bytes refl

pub returns-clause-part : goal.returns-clause-part
returns-clause-part g c =
    let read = goes_on (Asked g.A.Answerer.is_done g.A.Answerer.answers) g.A.Answerer.is_done _ _ _ _ _ _ c.reads.invariant.read (sym c.is_done-2.ensures ∙ c.if-is_done-2.false) in
    read_fails (Asked g.A.Answerer.is_done g.A.Answerer.answers) _ _ c.reads.answerer _ _ _ _ _ None _ read.0 g.A.Answerer.refuses _ _ read.1 (Keeps-refl _) refl

pub returns-then-is_done-2-clause-all : goal.returns-then-is_done-2-clause-all
returns-then-is_done-2-clause-all g c =
    inr (is_enough (Asked g.A.Answerer.is_done g.A.Answerer.answers) g.A.Answerer.is_done _ _ _ _ _ _ c.reads.held.items (sym c.is_done-2.ensures ∙ c.if-is_done-2.true) c.reads.invariant.read)
