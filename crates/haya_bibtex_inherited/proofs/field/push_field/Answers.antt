use Rattle.std.proofs.Common.{ap, ◌∙◌}
use Rattle.std.proofs.lemmas.Map.Text.{btree_map_updates_str}
use Rattle.haya_bibtex_inherited.specs.Views.{field_view, fields_view}
use Rattle.haya_bibtex_inherited.proofs.Giving.{knows_more}
use Rattle.std.proofs.lemmas.List.{map_push}
use Rattle.haya_bibtex_inherited.proofs.field.push_field.Goals as goal

pub returns-clause-knows : goal.returns-clause-knows
returns-clause-knows c = λ q.
    knows_more (fields_view c.args.fields.now.list.items) _ (field_view c.args.field) q _ _ tt
    (btree_map_updates_str c.args.field.name.now c.args.fields.now.names c.insert.new.self _ c.in_ok-insert.ensures.updates q)
    (c.requires.knows q) (ap fields_view c.in_ok-push.ensures.items ∙ map_push field_view c.args.fields.now.list.items c.args.field)
