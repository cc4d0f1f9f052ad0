use Rattle.haya_bibtex_text.proofs.Outcome.{errs_of_refusal}
use Rattle.haya_bibtex_text.proofs.reader.read_characters.Goals as goal

pub returns-in-Err-clause-fault : goal.returns-in-Err-clause-fault
returns-in-Err-clause-fault c = rw c.error_of.ensures (errs_of_refusal c.args.text.now c.in-Err.stop c.in-Err.ensures.fault)
