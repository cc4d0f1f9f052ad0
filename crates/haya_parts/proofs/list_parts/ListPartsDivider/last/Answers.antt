use Rattle.std.proofs.Common.{◌≡◌, ◌∙◌, ap, arith, length, rules, subst, take}
use Rattle.std.proofs.lemmas.List.{take_all}
use Rattle.haya_slices.specs.Layout.{IsWhite}
use Rattle.haya_parts.proofs.Lists.{list_ended}
use Rattle.haya_parts.specs.declared.list_parts.ListPlace.TheVariants.{Closed}
use Rattle.haya_parts.proofs.list_parts.ListPartsDivider.last.Goals as goal

pub returns-then-white_len-held : goal.returns-then-white_len-held
returns-then-white_len-held g c = record {
  ends = λ taken parts begins.
      let closed : c.args.self.now.place ≡ Closed = search rules in
      let white : IsWhite c.args.held.now =
      subst IsWhite
      (ap (λ n. take n c.args.held.now) c.if-white_len-held.true
      ∙ take_all (length c.args.held.now) c.args.held.now (omega arith))
      c.white_len.ensures.white in
      list_ended g.B.Enclosed.around c.args.self.now taken c.args.held.now parts begins closed white;
}
