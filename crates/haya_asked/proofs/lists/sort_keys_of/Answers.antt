use Rattle.haya_questions.specs.Place.{IsUnknown, unknown_word}
use Rattle.haya_questions.specs.SortText.{sort_words}
use Rattle.std.proofs.Common.{[]}
use Rattle.std.proofs.lemmas.Result.{err_from_is_err_and}
use Rattle.haya_asked.proofs.ListLemmas.{among}
use Rattle.haya_asked.proofs.lists.sort_keys_of.Goals as goal

pub returns-in_err-key-clause-fault : goal.returns-in_err-key-clause-fault
returns-in_err-key-clause-fault c =
    let p = err_from_is_err_and c.from_residual-in_err-key.result c.from_residual-in_err-key.ensures.1 in
    rw (p.1, p.2)
    (among (λ part word. IsUnknown (sort_words part).1 word) (unknown_word c.in_err-key.field-0.0) c.args.parts.now (record { ref_ptr = (0, 0); now = [] }) c.parts.part-index c.parts-test.true c.in_err-key.ensures.fault)
