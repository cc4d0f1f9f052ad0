use Rattle.std.proofs.Common.{◌≡◌, refl, ap}
use Rattle.std.proofs.lemmas.Bool.Decides.{Decides-eqb}
use Rattle.haya_text.proofs.Tells.{Tells}
use Rattle.haya_time.specs.DateEquality.{season-same}
use Rattle.haya_time.specs.contracts.date.DateErrorPartialEq.TheImpl as error
use Rattle.haya_time.specs.declared.date.DateError.TheVariants as variant
use Rattle.haya_time.proofs.laws.dates.kinds_equal_by_value.Goals as goal

faults-tell : Tells error.ghosts.eq (λ e. e)
faults-tell (variant.DayOutOfBounds a) (variant.DayOutOfBounds b) =
    let same = Decides-eqb a b in (λ h. ap variant.DayOutOfBounds (same.0 h), λ h. let e : a ≡ b = cc in same.1 e)
faults-tell variant.UnknownFormat variant.UnknownFormat = (λ _. refl, λ _. refl)
faults-tell variant.MonthOutOfBounds variant.MonthOutOfBounds = (λ _. refl, λ _. refl)
faults-tell _ _ = (λ h. cc, λ h. cc)

pub returns : goal.returns
returns c = record { season = season-same; fault = faults-tell }
