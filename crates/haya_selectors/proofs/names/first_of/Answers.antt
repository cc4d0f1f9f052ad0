use Rattle.std.proofs.Common.{◌≡◌, arith, subst, sym, w32}
use Rattle.std.specs.Int.{bit_at}
use Rattle.std.proofs.lemmas.Nat.Bits.{bit_at-trailing_zeros}
use Rattle.haya_selectors.proofs.NameSets.{place_at}
use Rattle.haya_selectors.proofs.names.first_of.Goals as goal

pub returns : goal.returns
returns c =
    let set = c.args.set in
    let lowest = bit_at-trailing_zeros w32 set (omega arith) (omega arith) in
    subst (λ k. bit_at set k ≡ 1) (sym (place_at _ _ lowest.0)) lowest.1
