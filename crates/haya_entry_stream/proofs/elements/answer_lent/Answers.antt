use Rattle.std.proofs.Common.{inl, inr, Result, Ok, Err}
use Rattle.std.specs.Prelude.{IfErr, IfOk}
use Rattle.std.proofs.lemmas.Result.{IfOk-weaker, MatchResult-weaker}
use Rattle.haya_entry_stream.proofs.ElementLists.{enough_of_reader, list_of_reader, loan_kept, part_of_reader}
use Rattle.haya_entry_stream.proofs.elements.answer_lent.Goals as goal

-- a fact that holds at Ok and at Err holds
at_either : {T E : Type 0} (C : Type 0) (P : T → Type 0) (Q : E → Type 0) (r : Result T E) → ((v : T) → P v → C) → ((e : E) → Q e → C) → IfOk r P → IfErr r Q → C
at_either C P Q (Ok v) at_ok at_err ok err = at_ok v ok
at_either C P Q (Err e) at_ok at_err ok err = at_err e err

pub returns-clause-same_loan : goal.returns-clause-same_loan
returns-clause-same_loan g c = λ text left.
    at_either _ _ _ c.answer_entry_lines.result
    (λ done answered. elim answered [
      | inl a ↦ loan_kept (λ lent. lent.reader.ghost_name) g.K.Loan.name (λ lent. g.R.Read.remaining lent.reader.now) c.args.elements.now c.answer_entry_lines.new.input c.requires text left a.text a.read
      | inr a ↦ loan_kept (λ lent. lent.reader.ghost_name) g.K.Loan.name (λ lent. g.R.Read.remaining lent.reader.now) c.args.elements.now c.answer_entry_lines.new.input c.requires text left a.text a.read
    ])
    (λ fault a. loan_kept (λ lent. lent.reader.ghost_name) g.K.Loan.name (λ lent. g.R.Read.remaining lent.reader.now) c.args.elements.now c.answer_entry_lines.new.input c.requires text left a.text a.read)
    c.answer_entry_lines.ensures.all c.answer_entry_lines.ensures.part

pub returns-clause-all : goal.returns-clause-all
returns-clause-all g c = λ text left.
    IfOk-weaker c.answer_entry_lines.result _ _
    (λ done answered. elim answered [
      | inl a ↦ inl (list_of_reader (λ lent. lent.reader.ghost_name) g.K.Loan.name (λ lent. g.R.Read.remaining lent.reader.now) c.args.elements.now c.answer_entry_lines.new.input c.requires text left a)
      | inr a ↦ inr (enough_of_reader (λ lent. lent.reader.ghost_name) g.K.Loan.name (λ lent. g.R.Read.remaining lent.reader.now) c.args.elements.now c.answer_entry_lines.new.input c.requires text left a)
    ])
    c.answer_entry_lines.ensures.all

pub returns-clause-part : goal.returns-clause-part
returns-clause-part g c = λ text left.
    MatchResult-weaker c.answer_entry_lines.result c.answer_entry_lines.ensures.part (λ done _. tt)
    (λ fault a. part_of_reader (λ lent. lent.reader.ghost_name) g.K.Loan.name (λ lent. g.R.Read.remaining lent.reader.now) c.args.elements.now c.answer_entry_lines.new.input c.requires text left a)
