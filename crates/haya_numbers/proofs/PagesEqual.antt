-- The derived `==` of pages tells whether they are equal by value.
use Rattle.std.proofs.Common.{◌≡◌, refl, ap}
use Rattle.haya_text.proofs.Tells.{Tells, Same-both, lists-tell}
use Rattle.haya_numbers.specs.Numeric.{numeric_view}
use Rattle.haya_numbers.specs.Pages.{EscapedRange, Range, SinglePage, part_view, parts}
use Rattle.haya_numbers.specs.contracts.numeric.NumericPartialEq.TheImpl as numeric
use Rattle.haya_numbers.specs.contracts.page.PageRangesPartPartialEq.TheImpl as part
use Rattle.haya_numbers.specs.contracts.page.PageRangesPartialEq.TheImpl as pages
use Rattle.haya_numbers.specs.declared.page.PageRangesPart.TheVariants as variant

pub part-tells : Tells numeric.ghosts.eq numeric_view → Tells part.ghosts.eq part_view
part-tells t variant.Ampersand variant.Ampersand = (λ _. refl, λ _. refl)
part-tells t variant.Comma variant.Comma = (λ _. refl, λ _. refl)
part-tells t (variant.EscapedRange s e) (variant.EscapedRange s' e') =
    let both = Same-both _ _ _ _ _ _ (t s s') (t e e') in (λ h. ap (λ p. EscapedRange p.0 p.1) (both.0 h), λ h. both.1 (let a : numeric_view s ≡ numeric_view s' = cc in let b : numeric_view e ≡ numeric_view e' = cc in cc))
part-tells t (variant.SinglePage n) (variant.SinglePage m) = (λ h. ap SinglePage ((t n m).0 h), λ h. (t n m).1 (let e : numeric_view n ≡ numeric_view m = cc in e))
part-tells t (variant.Range s e) (variant.Range s' e') =
    let both = Same-both _ _ _ _ _ _ (t s s') (t e e') in (λ h. ap (λ p. Range p.0 p.1) (both.0 h), λ h. both.1 (let a : numeric_view s ≡ numeric_view s' = cc in let b : numeric_view e ≡ numeric_view e' = cc in cc))
part-tells t a b = (λ h. cc, λ h. cc)

pub pages-tell : Tells numeric.ghosts.eq numeric_view → Tells pages.ghosts.eq parts
pages-tell t a b = lists-tell _ part_view (part-tells t) a.ranges.items b.ranges.items
