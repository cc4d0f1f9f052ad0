use Rattle.std.proofs.Common.{inl, inr, refl}
use Rattle.haya_entry_stream.proofs.EntryLineLists.{entries_all, entries_enough, entries_part}
use Rattle.haya_entry_stream.proofs.entry_lines.answer_entry_lines.Goals as goal

pub returns-in-Ok-clause-all : goal.returns-in-Ok-clause-all
returns-in-Ok-clause-all g c =
    rw c.parts_of.ensures
    (elim c.in-Ok.ensures.all [
      | inl a ↦ inl (entries_all (λ s. s.number) (λ s. s.reader) (λ s. s.answerer) g.L.EntryReader.says g.A.EntryAnswerer.answers g.A.EntryAnswerer.is_done _ _ refl refl _ _ _ _ _ a)
      | inr a ↦ inr (entries_enough (λ s. s.number) (λ s. s.reader) (λ s. s.answerer) g.L.EntryReader.says g.A.EntryAnswerer.answers g.A.EntryAnswerer.is_done _ _ refl refl _ _ _ _ _ a)
    ])

pub returns-in-Err-clause-part : goal.returns-in-Err-clause-part
returns-in-Err-clause-part g c =
    rw c.parts_of-answerer.ensures
    (entries_part (λ s. s.number) (λ s. s.reader) (λ s. s.answerer) g.L.EntryReader.says g.A.EntryAnswerer.answers g.A.EntryAnswerer.is_done _ _ refl refl g.L.EntryReader.refuses g.L.EntryReader.leaves g.A.EntryAnswerer.refuses _ _ _ _ _
    c.in-Err.fault c.in-Err.ensures.part)
