use Rattle.std.proofs.Common.{◌≡◌, length, eqb, leb, not, sym, ap, ◌∙◌, arith}
use Rattle.std.proofs.lemmas.List.{length-map}
use Rattle.haya_yaml_text.specs.Lanes.{may_stop, pairs}
use Rattle.haya_yaml_text.proofs.Sure.{both, compared, either, firsts, marked, seconds}
use Rattle.haya_yaml_text.proofs.scalar.doubtful.Goals as goal

pub returns : goal.returns
returns c =
    let v = c.args.signs in
    let w = c.args.next in
    let ps = pairs v w in
    let front = firsts v w (c.fits-signs.0 ∙ sym c.fits-next.0) in
    let back = seconds v w (c.fits-signs.0 ∙ sym c.fits-next.0) in
    let long : length ps ≡ 16 = sym (length-map ps (λ p. p.0)) ∙ ap length (sym front) ∙ c.fits-signs.0 in
    marked may_stop ps _ (omega (arith, long))
    (both _ _ ps (either _ _ ps (compared leb (λ p. p.0) 35 16 ps long front) (compared eqb (λ p. p.0) 58 16 ps long front))
    (either _ _ ps (either _ _ ps (compared leb (λ p. p.1) 35 16 ps long back) (compared eqb (λ p. p.1) 58 16 ps long back)) (compared (λ a b. not (eqb a b)) (λ p. p.0) 32 16 ps long front)))
