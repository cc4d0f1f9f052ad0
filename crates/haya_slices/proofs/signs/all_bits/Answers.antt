use Rattle.std.proofs.Common.{◌≡◌, ◌*◌, ◌+◌, ◌<◌, ◌≤◌, ◌^◌, Fits, w64, arith}
use Rattle.haya_slices.proofs.Bits.{few_bits}
use Rattle.haya_slices.proofs.signs.all_bits.Goals as goal

pub overflow_mul-bits : goal.overflow_mul-bits
overflow_mul-bits c =
    record { fits = omega (arith, few_bits c.args.bytes.now c.bytes.at c.requires c.bytes-test.true, c.bytes.invariant.bits) }

pub overflow_add-bits : goal.overflow_add-bits
overflow_add-bits c =
    record { fits = omega (arith, few_bits c.args.bytes.now c.bytes.at c.requires c.bytes-test.true, c.bytes.invariant.bits) }
