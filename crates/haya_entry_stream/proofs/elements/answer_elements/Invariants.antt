use Rattle.haya_entry_stream.specs.Elements.{loan_of}
use Rattle.haya_entry_stream.proofs.elements.answer_elements.Given as goal

-- the loan is that of the reference that is lent
abbrev pub ghosts-answer_lent : goal.ghosts-answer_lent
ghosts-answer_lent g a = record { name = loan_of a.elements.now }
