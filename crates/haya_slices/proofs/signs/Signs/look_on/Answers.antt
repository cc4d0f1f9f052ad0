use Rattle.std.proofs.Common.{◌≡◌, ◌+◌, ◌-◌, ap, arith, drop, map, take, ◌∙◌}
use lib.Lanes.{mask_l}
use Rattle.haya_slices.specs.Sought.{is_sign}
use Rattle.haya_slices.proofs.signs.Signs.look_on.Goals as goal

pub returns-then-rest-ge-LANES-clause-signs : goal.returns-then-rest-ge-LANES-clause-signs
returns-then-rest-ge-LANES-clause-signs c =
    let bytes = c.args.bytes.now in
    let end = c.args.self.now.end in
    let many : 64 ≡ end + 64 - end = omega arith in
    record {
      order = omega arith;
      within = omega (arith, c.split_at.ensures.back_len, c.if-rest-ge-LANES.true, c.requires.within);
      few = omega arith;
      bits = c.first_bits-self.ensures ∙ ap (λ t. mask_l (map is_sign (take 64 t))) c.split_at.ensures.back
          ∙ ap (λ n. mask_l (map is_sign (take n (drop end bytes)))) many;
    }
