-- The derived `==` tells whether two errors have the same value.
use Rattle.std.proofs.Common.{◌≡◌, ℕ, ◌==◌, true, false, Option, None, Some, refl, ap, eq-eqb}
use Rattle.haya_text.proofs.Tells.{Same, Tells, strings-tell}
use Rattle.haya_selectors.specs.declared.selector.SelectorError.TheVariants as errors
use Rattle.haya_selectors.specs.contracts.selector.SelectorErrorPartialEq.TheImpl as error
use Rattle.haya_selectors.specs.Fault.{Fault, MissingValue, MalformedAttribute, MissingComma, UnbalancedParens, UnknownEntryType, fault}

-- a number for each kind of fault
abbrev kind : Option Fault → ℕ
kind None = 0
kind (Some MissingValue) = 1
kind (Some MalformedAttribute) = 2
kind (Some MissingComma) = 3
kind (Some UnbalancedParens) = 4
kind (Some (UnknownEntryType name)) = 5

of_two_kinds : (p q : Option Fault) → (kind p == kind q) ≡ false → Same false p q
of_two_kinds p q apart = (λ h. cc, λ h. let same : (kind p == kind q) ≡ true = eq-eqb (kind p) (kind q) (ap kind h) in cc)

pub errors-tell : Tells error.ghosts.eq fault
errors-tell errors.MissingValue errors.MissingValue = (λ _. refl, λ _. refl)
errors-tell errors.MalformedAttribute errors.MalformedAttribute = (λ _. refl, λ _. refl)
errors-tell errors.MissingComma errors.MissingComma = (λ _. refl, λ _. refl)
errors-tell errors.UnbalancedParens errors.UnbalancedParens = (λ _. refl, λ _. refl)
errors-tell errors.OutOfMemory errors.OutOfMemory = (λ _. refl, λ _. refl)
errors-tell (errors.UnknownEntryType n) (errors.UnknownEntryType m) =
    let same = strings-tell n m in (λ h. ap (λ name. Some (UnknownEntryType name)) (same.0 h), λ h. same.1 (cc))
errors-tell a b = of_two_kinds (fault a) (fault b) refl
