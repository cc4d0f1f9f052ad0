use Rattle.std.proofs.Common.{rules, ◌∙◌}
use Rattle.std.specs.List.{list_any}
use Rattle.std.proofs.lemmas.Iterator.{YieldsList-from_slice}
use Rattle.std.proofs.lemmas.Iterator.Search.{any_from_yields_List}
use Rattle.haya_people.specs.Roles.{roles_view}
use Rattle.haya_printing.specs.Parts.{has_alias}
use Rattle.haya_printing.proofs.Alone.{list_any-map}
use Rattle.haya_printing.proofs.parts.some_in_roles_has_alias.Goals as goal

pub returns : goal.returns
returns c =
    any_from_yields_List (λ p. list_any has_alias (roles_view p).names) _ _ c.any.result c.any.ensures.ran (YieldsList-from_slice c.args.roles.now c.iter.ensures.rest) (λ x b q k. search rules)
    ∙ list_any-map (λ r. list_any has_alias r.names) roles_view c.args.roles.now
