use Rattle.std.proofs.Common.{rules, ◌∙◌}
use Rattle.std.proofs.lemmas.Iterator.{YieldsList-from_slice}
use Rattle.std.proofs.lemmas.Iterator.Search.{any_from_yields_List}
use Rattle.haya_people.specs.Person.{person_view}
use Rattle.haya_printing.specs.Parts.{has_alias}
use Rattle.haya_printing.proofs.Alone.{list_any-map}
use Rattle.haya_printing.proofs.parts.some_has_alias.Goals as goal

pub returns : goal.returns
returns c =
    any_from_yields_List (λ p. has_alias (person_view p)) _ _ c.any.result c.any.ensures.ran (YieldsList-from_slice c.args.people.now c.iter.ensures.rest) (λ x b q k. search rules)
    ∙ list_any-map has_alias person_view c.args.people.now
