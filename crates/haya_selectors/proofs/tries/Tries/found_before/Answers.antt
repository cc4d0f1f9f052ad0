use Rattle.std.proofs.Common.{◌≡◌, ℕ, ◌+◌, ◌*◌, ◌≤◌, ◌∙◌, List, map, take, drop, sum, ap, sym, arith}
use Rattle.std.specs.Prelude.{◌-◌}
use Rattle.std.proofs.Math.Seq.{take-take}
use Rattle.std.proofs.lemmas.List.Sums.{sum_by-take-le}
use Rattle.haya_selectors.specs.declared.tries.Try.{Try}
use Rattle.haya_selectors.specs.Tries.{all_found}
use Rattle.haya_selectors.proofs.Stretches.{stretch-map}
use Rattle.haya_selectors.proofs.tries.Tries.found_before.Goals as goal

-- the tries at the first places of a row
first_of : (items : List Try) (w k n : ℕ) → n ≤ w → sum (map (λ t. t.found) (take (k + n - k) (drop k items))) ≡ sum (take n (take w (drop k (map (λ t. t.found) items))))
first_of items w k n l = ap sum (stretch-map (λ t. t.found) items k n ∙ sym (take-take n w (drop k (map (λ t. t.found) items)) l))

pub total-requires : goal.total-requires
total-requires c =
    let w = c.args.parents in
    let k = c.args.member * w in
    let row = take w (drop k (all_found c.args.self.now)) in
    let less : sum (take c.args.place row) ≤ sum row = sum_by-take-le (λ x. x) row c.args.place in
    let is = first_of c.args.self.now.tries.items w k c.args.place c.requires.inside in
    rw c.deref.ensures.value (omega (arith, is, less, c.requires.fits))

pub returns : goal.returns
returns c =
    let w = c.args.parents in
    let k = c.args.member * w in
    (rw c.deref.ensures.value at c.total.ensures) ∙ first_of c.args.self.now.tries.items w k c.args.place c.requires.inside
