use Rattle.std.proofs.Common.{ap, ◌≡◌, ◌<◌, length, arith, get_or, ◌∙◌}
use Rattle.std.proofs.lemmas.Bool.Decides.{nat_tests}
use Rattle.haya_json_elements.specs.Steps.{opening_bracket}
use Rattle.haya_parts.proofs.Lists.{front_white_taken, opening_taken}
use Rattle.haya_parts.proofs.list_parts.ListParts.front.Goals as goal

pub returns-then-white-gt0-clause-takes : goal.returns-then-white-gt0-clause-takes
returns-then-white-gt0-clause-takes g c = λ taken parts begins.
    rw (c.split.ensures.front, c.split.ensures.behind)
    (front_white_taken g.B.Enclosed.around c.args.self.now taken c.args.held.now parts begins c.white_len-white.result
    c.requires c.white_len-white.ensures.within c.white_len-white.ensures.white)

pub returns-clause-takes : goal.returns-clause-takes
returns-clause-takes g c = λ taken parts begins.
    let held = c.args.held.now in
    let some : 0 < length held = grind (arith, nat_tests, c.if-is_empty.ensures) in
    let opens : get_or held 0 0 ≡ opening_bracket g.B.Enclosed.around =
    c.if-held-opening_byte.false ∙ c.opening_byte.ensures ∙ ap opening_bracket c.brackets.ensures in
    rw (c.split-2.ensures.front, c.split-2.ensures.behind)
    (opening_taken g.B.Enclosed.around c.args.self.now taken held parts begins c.new-self.result c.new-self.ensures
    c.requires some opens)
