use Rattle.std.proofs.Common.{inl, inr, refl, ap}
use Rattle.haya_entry_stream.proofs.LineLists.{lines_all, lines_enough, lines_part}
use Rattle.haya_entry_stream.proofs.lines.answer_lines.Goals as goal

pub returns-in-Ok-clause-all : goal.returns-in-Ok-clause-all
returns-in-Ok-clause-all g c =
    let none = ap (λ o. o.chain) c.new.ensures in
    rw c.answerer_of.ensures
    (elim c.in-Ok.ensures.all [
      | inl a ↦ inl (lines_all (λ s. s.number) (λ s. s.entries) (λ s. s.answerer) g.A.EntryAnswerer.answers g.A.EntryAnswerer.is_done _ refl none _ _ _ _ _ a)
      | inr a ↦ inr (lines_enough (λ s. s.number) (λ s. s.entries) (λ s. s.answerer) g.A.EntryAnswerer.answers g.A.EntryAnswerer.is_done _ refl none _ _ _ _ _ a)
    ])

pub returns-in-Err-clause-part : goal.returns-in-Err-clause-part
returns-in-Err-clause-part g c =
    rw c.answerer_of-in-Err.ensures
    (lines_part (λ s. s.number) (λ s. s.entries) (λ s. s.answerer) g.A.EntryAnswerer.answers g.A.EntryAnswerer.is_done _ refl (ap (λ o. o.chain) c.new.ensures) g.A.EntryAnswerer.refuses _ _ _ _ _
    c.in-Err.fault c.in-Err.ensures.part)
