use Rattle.std.proofs.Common.{◌≡◌, ◌≤◌, ℕ, List, bit_and, bit_or, cond, eqb, leb, length, map, replicate, take, refl, arith}
use Rattle.std.proofs.lemmas.Simd.{length-chunk, zip2_of_maps, zip2_splat}
use lib.Lanes.{zip2}
use Rattle.haya_slices.specs.Sought.{is_sign}
use Rattle.haya_slices.proofs.Lanes.{masked, same_bytes}
use Rattle.haya_slices.proofs.signs.first_bits.Goals as goal

-- lane by lane
abbrev equal : ℕ → ℕ → ℕ
equal a b = cond (eqb a b) 255 0

abbrev at_most : ℕ → ℕ → ℕ
at_most a b = cond (leb a b) 255 0

abbrev low_of : ℕ → ℕ
low_of x = bit_or x 32

pub returns : goal.returns
returns c =
    let v = take 64 c.args.bytes.now in
    let long : length v ≡ 64 = length-chunk 0 64 c.args.bytes.now c.requires in
    let low : zip2 bit_or v (replicate 64 32) ≡ map low_of v = zip2_splat bit_or v 64 32 long in
    let quotes = zip2_of_maps equal low_of (λ (x : ℕ). 34) v low (same_bytes v 64 34 long) in
    let from = zip2_of_maps at_most (λ (x : ℕ). 123) low_of v (same_bytes v 64 123 long) low in
    let to = zip2_of_maps at_most low_of (λ (x : ℕ). 125) v low (same_bytes v 64 125 long) in
    let braces = zip2_of_maps bit_and (λ (x : ℕ). at_most 123 (low_of x)) (λ (x : ℕ). at_most (low_of x) 125) v from to in
    masked is_sign 64 c.args.bytes.now _ (omega arith) c.requires c.type_inv.bytes _
    (zip2_of_maps bit_or (λ (x : ℕ). equal (low_of x) 34) (λ (x : ℕ). bit_and (at_most 123 (low_of x)) (at_most (low_of x) 125)) v quotes braces) refl
