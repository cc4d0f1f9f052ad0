use Rattle.std.proofs.Common.{option_map, subst, sym, Some}
use Rattle.std.specs.Option.{option_copied}
use Rattle.haya_views.specs.Hits.{NextIs}
use Rattle.hayagriva_c.specs.Hits.{NextGives}
use Rattle.hayagriva_c.proofs.NextHit.{gives_next}
use Rattle.hayagriva_c.proofs.hits.next_of.Goals as goal

pub returns-in-Some-found : goal.returns-in-Some-found
returns-in-Some-found c =
    let library = c.in-Some.shelf.now.library in
    let asked = c.in-Some-asked.asked.now in
    let hit = subst (NextIs asked.selector library c.args.place.now) c.in-Some-found.is c.in-Ok.ensures in
    let gives = gives_next library asked c.in-Some-found.found c.give.result c.args.place.now c.give.new.place c.args.hit.now c.give.new.hit c.args.bound.now c.give.new.bound hit c.give.ensures in
    subst (λ s. NextGives (option_map (λ s. s.now.library) s) (option_copied c.args.asked) c.give.result c.args.place.now c.give.new.place c.args.hit.now c.give.new.hit c.args.bound.now c.give.new.bound) (sym c.in-Some.is)
    (subst (λ a. NextGives (Some library) (option_copied a) c.give.result c.args.place.now c.give.new.place c.args.hit.now c.give.new.hit c.args.bound.now c.give.new.bound) (sym c.in-Some-asked.is) gives)
