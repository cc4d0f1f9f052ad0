-- The laws of the orders of dates.
use Rattle.std.specs.Prelude.{◌≡◌, ◌↔◌, ℕ, zero, suc, Bool, true, false, ◌&&◌, Option, Some, None, nat_eq, refl}
use Rattle.std.proofs.Common.{ap, sym, ◌∙◌, subst, ℤ}
use Rattle.std.specs.declared.cmp.Ordering.{Ordering}
use Rattle.std.specs.declared.cmp.Ordering.TheVariants.{Less, Equal}
use Rattle.std.specs.Bool.{Decides}
use Rattle.std.specs.Cmp.{IsPartialOrder, IsTotalOrder, both_ways, on_po, on_total, then_po, then_total, partial_order_from_total, signed_po, unsigned_po, nat_cmp_total, int_cmp_total, bool_cmp_total, signed_Decides, unsigned_Decides, unsigned_tied, tied_then}
use Rattle.std.specs.Cmp.Lexicographic.{options_total}
use Rattle.std.specs.Option.{option_eq, option_map}
use Rattle.std.specs.Ordering.{int_eq, bool_cmp, eq_by_cmp, is_eq, ordering_reverse, ordering_then}
use Rattle.haya_text.proofs.Tells.{Same, Same-both, Same-along}
use Rattle.haya_time.specs.declared.date.Date.{Date}
use Rattle.haya_time.specs.declared.date.Season.{Season}
use Rattle.haya_time.specs.declared.date.Season.TheVariants.{Spring, Summer, Autumn, Winter}
use Rattle.haya_time.specs.contracts.date.DatePartialEq.TheImpl as date
use Rattle.haya_time.specs.DateEquality.{option-same, dates-tell}
use Rattle.haya_time.specs.DateOrder.{date_csl_cmp, date_partial_cmp, approximate_without, known_alike_cmp, day_of_month, missing_first_cmp, season_cmp, season_place, tie_cmp}

pub missing_first_total : IsTotalOrder missing_first_cmp
missing_first_total = options_total nat_cmp_total

season_total : IsTotalOrder season_cmp
season_total = on_total (option_map season_place) missing_first_total

tie_total : IsTotalOrder tie_cmp
tie_total =
    then_total (on_total (λ (d : Date). d.approximate) bool_cmp_total)
    (then_total (on_total (λ (d : Date). d.day) missing_first_total)
    (on_total (λ (d : Date). d.season) season_total))

pub csl_total : IsTotalOrder date_csl_cmp
csl_total =
    then_total (on_total (λ (d : Date). d.year) int_cmp_total)
    (then_total (on_total (λ (d : Date). d.month) missing_first_total)
    (then_total (on_total (λ (d : Date). approximate_without d.month d) bool_cmp_total)
    (then_total (on_total (λ (d : Date). d.day) missing_first_total)
    (on_total (λ (d : Date). approximate_without d.day d) bool_cmp_total))))

-- `known_alike_cmp` is a partial order of numbers that may be missing
alike_antisymm : (p q : Option ℕ)
    → known_alike_cmp p q ≡ option_map ordering_reverse (known_alike_cmp q p)
alike_antisymm None None = refl
alike_antisymm None (Some n) = refl
alike_antisymm (Some m) None = refl
alike_antisymm (Some m) (Some n) = unsigned_po.antisymm m n

alike_trans : (p q r : Option ℕ) → known_alike_cmp p q ≡ Some Less → known_alike_cmp q r ≡ Some Less
    → known_alike_cmp p r ≡ Some Less
alike_trans None None r h k = cc
alike_trans None (Some n) r h k = cc
alike_trans (Some m) None r h k = cc
alike_trans (Some m) (Some n) None h k = cc
alike_trans (Some m) (Some n) (Some o) h k = unsigned_po.trans m n o h k

pub alike_equal : (p q : Option ℕ)
    → Decides (option_eq nat_eq p q) (known_alike_cmp p q ≡ Some Equal)
alike_equal None None = (λ _. refl, λ _. refl)
alike_equal None (Some n) = (λ h. cc, λ h. cc)
alike_equal (Some m) None = (λ h. cc, λ h. cc)
alike_equal (Some m) (Some n) = unsigned_po.matches_eq m n

alike_congr : (p q r : Option ℕ) → option_eq nat_eq p q ≡ true
    → known_alike_cmp p r ≡ known_alike_cmp q r
alike_congr p q r h = ap (λ s. known_alike_cmp s r) ((option-same nat_eq unsigned_Decides p q).0 h)

alike_po : IsPartialOrder (option_eq nat_eq) known_alike_cmp
alike_po = record {
  antisymm = alike_antisymm;
  trans = alike_trans;
  matches_eq = alike_equal;
  congr = alike_congr;
}

-- the tests that hold of what the order does not tell apart
abbrev tests : Date → Date → Bool
tests x y =
    int_eq x.year y.year
    && (option_eq nat_eq x.month y.month
    && (option_eq nat_eq (day_of_month x) (day_of_month y) && eq_by_cmp tie_cmp x y))

by_tests : IsPartialOrder tests date_partial_cmp
by_tests =
    then_po (on_po (λ (d : Date). d.year) signed_po)
    (then_po (on_po (λ (d : Date). d.month) alike_po)
    (then_po (on_po day_of_month alike_po) (partial_order_from_total tie_total)))

-- what each of the tests says
pub missing_first_cmp-same : (p q : Option ℕ) → Same (is_eq (missing_first_cmp p q)) p q
missing_first_cmp-same None None = (λ _. refl, λ _. refl)
missing_first_cmp-same None (Some n) = (λ h. cc, λ h. cc)
missing_first_cmp-same (Some m) None = (λ h. cc, λ h. cc)
missing_first_cmp-same (Some m) (Some n) = (
  λ h. ap (λ v. Some v) ((unsigned_Decides m n).0 (sym (unsigned_tied m n) ∙ h)),
  λ h. let e : m ≡ n = cc in unsigned_tied m n ∙ (unsigned_Decides m n).1 e,
)

approximate-same : (a b : Bool) → Same (is_eq (bool_cmp a b)) a b
approximate-same true true = (λ _. refl, λ _. refl)
approximate-same true false = (λ h. cc, λ h. cc)
approximate-same false true = (λ h. cc, λ h. cc)
approximate-same false false = (λ _. refl, λ _. refl)

season_at : ℕ → Season
season_at zero = Spring
season_at (suc zero) = Summer
season_at (suc (suc zero)) = Autumn
season_at (suc (suc (suc n))) = Winter

season_at-place : (s : Option Season) → option_map season_at (option_map season_place s) ≡ s
unfolding season_at
season_at-place None = refl
season_at-place (Some Spring) = refl
season_at-place (Some Summer) = refl
season_at-place (Some Autumn) = refl
season_at-place (Some Winter) = refl

seasons-same : (s t : Option Season) → Same (is_eq (season_cmp s t)) s t
seasons-same s t =
    let places = missing_first_cmp-same (option_map season_place s) (option_map season_place t) in (
      λ h. sym (season_at-place s) ∙ ap (option_map season_at) (places.0 h) ∙ season_at-place t,
      λ e. places.1 (ap (option_map season_place) e),
    )

then-same : {P Q : Type 0} (a b : Ordering) (p p' : P) (q q' : Q) → Same (is_eq a) p p'
    → Same (is_eq b) q q' → Same {Y = P × Q} (is_eq (ordering_then a b)) (p, q) (p', q')
then-same {P} {Q} a b p p' q q' h k =
    let both = Same-both (is_eq a) (is_eq b) p p' q q' h k in
    (λ e. both.0 (tied_then a b ∙ e), λ e. sym (tied_then a b) ∙ both.1 e)

abbrev Parts : Type 0
Parts = ℤ × (Option ℕ × (Option ℕ × (Bool × (Option ℕ × Option Season))))

tests_same : (x y : Date) → Same (tests x y) x y
tests_same x y =
    Same-along _ (λ (p : Parts). record {
      year = p.0;
      month = p.1.0;
      day = p.1.1.1.1.0;
      approximate = p.1.1.1.0;
      season = p.1.1.1.1.1;
    })
    (λ (d : Date). (d.year, (d.month, (day_of_month d, (d.approximate, (d.day, d.season))))))
    _ _ refl refl
    (Same-both _ _ _ _ _ _ (signed_Decides x.year y.year)
    (Same-both _ _ _ _ _ _ (option-same nat_eq unsigned_Decides x.month y.month)
    (Same-both _ _ _ _ _ _ (option-same nat_eq unsigned_Decides (day_of_month x) (day_of_month y))
    (then-same _ _ _ _ _ _ (approximate-same x.approximate y.approximate)
    (then-same _ _ _ _ _ _ (missing_first_cmp-same x.day y.day)
    (seasons-same x.season y.season))))))

pub date_laws : IsPartialOrder date.ghosts.eq date_partial_cmp
date_laws =
    subst (λ (E : Date → Date → Bool). IsPartialOrder E date_partial_cmp)
    (λ i x y. both_ways (tests x y) (date.ghosts.eq x y)
    (λ h. (dates-tell x y).1 ((tests_same x y).0 h))
    (λ h. (tests_same x y).1 ((dates-tell x y).0 h)) i)
    by_tests

-- the order is equal where the dates are
pub order-equal : (x y : Date) → ((date_partial_cmp x y ≡ Some Equal) ↔ (x ≡ y))
order-equal x y = (
  λ h. (dates-tell x y).0 ((date_laws.matches_eq x y).1 h),
  λ e. (date_laws.matches_eq x y).0 ((dates-tell x y).1 e),
)
