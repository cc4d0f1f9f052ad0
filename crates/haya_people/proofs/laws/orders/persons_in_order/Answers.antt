use Rattle.std.proofs.Common.{sym, ◌∙◌, ap}
use Rattle.std.specs.Ordering.{is_eq}
use Rattle.haya_people.specs.PersonOrder.{persons_total, persons_tie}
use Rattle.haya_people.proofs.Styles.{is_eq-Equal}
use Rattle.haya_people.proofs.laws.orders.persons_in_order.Goals as goal

pub returns : goal.returns
returns c = record {
  total = persons_total;
  tied = λ a b. (λ h. persons_tie a b ∙ ap is_eq h, λ h. is_eq-Equal _ (sym (persons_tie a b) ∙ h));
}
