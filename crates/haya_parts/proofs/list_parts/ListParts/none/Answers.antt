use Rattle.std.proofs.Common.{◌≡◌, ◌+◌, get_or, rules}
use Rattle.haya_json_elements.specs.Steps.{closing_bracket}
use Rattle.haya_parts.proofs.Lists.{closing_taken}
use Rattle.haya_parts.specs.declared.list_parts.ListPlace.TheVariants.{Opened}
use Rattle.haya_parts.proofs.list_parts.ListParts.none.Goals as goal

pub returns-then-held-at-clause-takes : goal.returns-then-held-at-clause-takes
returns-then-held-at-clause-takes g c = λ taken parts begins.
    let d = c.args.self.now in
    let held = c.args.held.now in
    let n = c.args.at + 1 in
    let opened : d.place ≡ Opened = search rules in
    let closes : get_or held c.args.at 0 ≡ closing_bracket g.B.Enclosed.around = search rules in
    rw (c.split.ensures.front, c.split.ensures.behind)
    (closing_taken g.B.Enclosed.around d taken held parts begins d.search c.args.at opened c.requires.within
    c.requires.white closes)
