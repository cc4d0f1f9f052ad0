-- The derived `==` of enums of numbers tells whether both are the same.
use Rattle.std.proofs.Common.{◌≡◌, refl, ap}
use denote.Enum.Bare.{same_true, true_same}
use Rattle.haya_text.proofs.Tells.{Tells}
use Rattle.haya_numbers.specs.contracts.numeric.NumericDelimiter as delimiter
use Rattle.haya_numbers.specs.contracts.numeric.NumericDelimiterPartialEq.TheImpl as delimiter_eq
use Rattle.haya_numbers.specs.contracts.numeric.NumericError as number_fault
use Rattle.haya_numbers.specs.contracts.numeric.NumericErrorPartialEq.TheImpl as number_fault_eq
use Rattle.haya_numbers.specs.contracts.numeric.form.GrammarGender as gender
use Rattle.haya_numbers.specs.contracts.numeric.form.GrammarGenderPartialEq.TheImpl as gender_eq
use Rattle.haya_numbers.specs.contracts.numeric.form.NumberForm as form
use Rattle.haya_numbers.specs.contracts.numeric.form.NumberFormPartialEq.TheImpl as form_eq
use Rattle.haya_numbers.specs.contracts.page.PageNumberError as page_fault
use Rattle.haya_numbers.specs.contracts.page.PageNumberErrorPartialEq.TheImpl as page_fault_eq
use Rattle.haya_numbers.specs.contracts.page.PageRangesPartErrPartialEq.TheImpl as part_fault_eq
use Rattle.haya_numbers.specs.declared.page.PageRangesPartErr.TheVariants as part_fault

pub delimiters-tell : Tells delimiter_eq.ghosts.eq (λ d. d)
delimiters-tell a b = (same_true delimiter.the_type tt a b, true_same delimiter.the_type a b)

pub forms-tell : Tells form_eq.ghosts.eq (λ f. f)
forms-tell a b = (same_true form.the_type tt a b, true_same form.the_type a b)

pub genders-tell : Tells gender_eq.ghosts.eq (λ g. g)
genders-tell a b = (same_true gender.the_type tt a b, true_same gender.the_type a b)

pub number_faults-tell : Tells number_fault_eq.ghosts.eq (λ e. e)
number_faults-tell a b = (same_true number_fault.the_type tt a b, true_same number_fault.the_type a b)

pub page_faults-tell : Tells page_fault_eq.ghosts.eq (λ e. e)
page_faults-tell a b = (same_true page_fault.the_type tt a b, true_same page_fault.the_type a b)

pub part_faults-tell : Tells part_fault_eq.ghosts.eq (λ e. e)
part_faults-tell (part_fault.NumericErr a) (part_fault.NumericErr b) =
    let same = number_faults-tell a b in (λ h. ap part_fault.NumericErr (same.0 h), λ h. let e : a ≡ b = cc in same.1 e)
part_faults-tell part_fault.Malformed part_fault.Malformed = (λ _. refl, λ _. refl)
part_faults-tell part_fault.Empty part_fault.Empty = (λ _. refl, λ _. refl)
part_faults-tell part_fault.OutOfMemory part_fault.OutOfMemory = (λ _. refl, λ _. refl)
part_faults-tell _ _ = (λ h. cc, λ h. cc)
