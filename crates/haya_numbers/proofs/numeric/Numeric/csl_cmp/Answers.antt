use Rattle.std.proofs.Common.{◌≡◌, refl, ℤ}
use Rattle.std.specs.Ordering.{int_cmp}
use Rattle.std.proofs.lemmas.Iterator.Consumers.{YieldsList-from_first}
use Rattle.std.proofs.lemmas.Iterator.Search.{cmp_from_yields_List}
use Rattle.haya_numbers.specs.Numeric.{numbers, value_view}
use Rattle.haya_numbers.proofs.numeric.Numeric.csl_cmp.Goals as goal

pub returns : goal.returns
returns c =
    cmp_from_yields_List {U = Unit {0}} {v = λ (x : ℤ). x} (λ _ it. it ≡ numbers (value_view c.args.other.now.value)) tt int_cmp _ c.cmp.ensures.ran
    (YieldsList-from_first (λ (x : ℤ). x) (λ s. s) (numbers (value_view c.args.self.now.value)) c.into_iter.ensures.into_iter_gives)
    (λ it b. YieldsList-from_first (λ (x : ℤ). x) (λ s. s) (numbers (value_view c.args.other.now.value)) b)
    (λ x y. refl)
