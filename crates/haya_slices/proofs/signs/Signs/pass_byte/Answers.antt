use Rattle.std.proofs.Common.{◌≡◌, ◌+◌, ◌-◌, ◌/◌, ◌^◌, ap, arith, drop, map, subst, sym, take, ◌∙◌}
use lib.Lanes.{mask_l}
use Rattle.haya_slices.specs.Sought.{AreSigns, is_sign}
use Rattle.haya_slices.proofs.Bits.{later}
use Rattle.haya_slices.proofs.signs.Signs.pass_byte.Goals as goal
use Rattle.haya_slices.proofs.signs.Signs.pass_byte.Goals.{then-self, else-self}

pub returns-clause-signs : goal.returns-clause-signs
returns-clause-signs c =
    let bytes = c.args.bytes.now in
    let signs = c.args.self.now in
    elim c.if-self.branch [
      | then-self w ↦
          subst (λ s. AreSigns bytes (record { start = s.start + 1; end = s.end; bits = s.bits })) (sym w.self-is)
          (later bytes signs 1 c.requires (omega (arith, w.if-self.true)))
      | else-self w ↦
          let none : signs.end - signs.start ≡ 0 = omega (arith, w.if-self.false) in
          let no_more : 0 ≡ signs.end + 1 - (signs.start + 1) = omega (arith, w.if-self.false, c.requires.order) in
          subst (λ s. AreSigns bytes (record { start = s.start + 1; end = s.end; bits = s.bits })) (sym w.self-is)
          (record {
            order = omega (arith, c.requires.order);
            within = omega (arith, c.requires.order, c.requires.within, c.if-self-bytes.false, w.if-self.false);
            few = omega (arith, w.if-self.false);
            bits = c.requires.bits
                ∙ ap (λ n. mask_l (map is_sign (take n (drop signs.start bytes)))) none
                ∙ ap (λ n. mask_l (map is_sign (take n (drop (signs.start + 1) bytes)))) no_more;
          })
    ]
