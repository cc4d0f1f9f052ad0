use Rattle.std.proofs.Common.{◌≡◌, inl, inr, Some, rules, refl}
use Rattle.std.proofs.lemmas.Result.{IfOk-weaker, MatchResult-weaker}
use Rattle.haya_json_elements.specs.Elements.{element_lines}
use Rattle.haya_entry_stream.specs.Elements.{lines_left}
use Rattle.haya_entry_stream.proofs.ElementLists.{all_elements}
use Rattle.haya_entry_stream.proofs.elements.answer_elements.Goals as goal

pub returns-clause-all : goal.returns-clause-all
returns-clause-all g c = λ text known.
    let left : lines_left g.R.Read.remaining c.new-elements.result ≡ Some (element_lines c.args.brackets text) = rw (c.new-elements.ensures.fresh, known) refl in
    let same = c.answer_lent.ensures.same_loan _ left in
    IfOk-weaker c.answer_lent.result _ _
    (λ done answered. elim answered [
      | inl a ↦ inl (all_elements g.R.Read.remaining c.args.input.now _ (λ lent. lent.reader.now) c.answer_lent.new.elements c.args.brackets (search rules) known a)
      | inr a ↦ inr (lines_left g.R.Read.remaining c.answer_lent.new.elements, a)
    ])
    (c.answer_lent.ensures.all _ left)

pub returns-clause-part : goal.returns-clause-part
returns-clause-part g c = λ text known.
    let left : lines_left g.R.Read.remaining c.new-elements.result ≡ Some (element_lines c.args.brackets text) = rw (c.new-elements.ensures.fresh, known) refl in
    MatchResult-weaker c.answer_lent.result (c.answer_lent.ensures.part _ left) (λ done _. tt) (λ stopped a. (lines_left g.R.Read.remaining c.answer_lent.new.elements, a))
