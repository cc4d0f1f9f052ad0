-- The derived `==` of dates tells whether they are equal.
use Rattle.std.proofs.Common.{◌≡◌, ℕ, ℤ, Bool, true, false, Option, Some, None, refl, ap, nat_eq}
use mathlib.Core.Bool.{beq}
use Rattle.std.specs.Cmp.{signed_Decides, unsigned_Decides}
use Rattle.std.specs.Option.{option_eq}
use denote.Enum.Bare.{same_true, true_same}
use Rattle.haya_text.proofs.Tells.{Same, Same-both, Same-along}
use Rattle.haya_time.specs.declared.date.Date.{Date}
use Rattle.haya_time.specs.declared.date.Season.{Season}
use Rattle.haya_time.specs.contracts.date.Season.{the_type}
use Rattle.haya_time.specs.contracts.date.SeasonPartialEq.TheImpl as season
use Rattle.haya_time.specs.contracts.date.DatePartialEq.TheImpl as date

-- the test of the values, if there are any
pub option-same : {X : Type 0} (E : X → X → Bool) → ((x y : X) → Same (E x y) x y)
    → (a b : Option X) → Same (option_eq E a b) a b
option-same E t None None = (λ _. refl, λ _. refl)
option-same E t None (Some y) = (λ h. cc, λ h. cc)
option-same E t (Some x) None = (λ h. cc, λ h. cc)
option-same E t (Some x) (Some y) =
    (λ h. ap (λ v. Some v) ((t x y).0 h), λ h. let e : x ≡ y = cc in (t x y).1 e)

pub bool-same : (a b : Bool) → Same (beq a b) a b
bool-same true true = (λ _. refl, λ _. refl)
bool-same true false = (λ h. cc, λ h. cc)
bool-same false true = (λ h. cc, λ h. cc)
bool-same false false = (λ _. refl, λ _. refl)

pub season-same : (a b : Season) → Same (season.ghosts.eq a b) a b
season-same a b = (same_true the_type tt a b, true_same the_type a b)

abbrev Parts : Type 0
Parts = ℤ × (Option ℕ × (Option ℕ × (Bool × Option Season)))

pub dates-tell : (a b : Date) → Same (date.ghosts.eq a b) a b
dates-tell a b =
    Same-along _ (λ (p : Parts). record {
      year = p.0;
      month = p.1.0;
      day = p.1.1.0;
      approximate = p.1.1.1.0;
      season = p.1.1.1.1;
    })
    (λ (d : Date). (d.year, (d.month, (d.day, (d.approximate, d.season))))) _ _ refl refl
    (Same-both _ _ _ _ _ _ (signed_Decides a.year b.year)
    (Same-both _ _ _ _ _ _ (option-same nat_eq unsigned_Decides a.month b.month)
    (Same-both _ _ _ _ _ _ (option-same nat_eq unsigned_Decides a.day b.day)
    (Same-both _ _ _ _ _ _ (bool-same a.approximate b.approximate)
    (option-same _ season-same a.season b.season)))))
