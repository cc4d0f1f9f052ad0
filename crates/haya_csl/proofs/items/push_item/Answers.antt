use Rattle.std.proofs.Common.{◌≡◌, ℕ, List, Ok, refl, ap, ◌∙◌}
use Rattle.json.specs.Json.{Json, Members, object}
use Rattle.json.specs.Value.{members_view, value_view}
use Rattle.json.proofs.Trees.{view-Object}
use Rattle.haya_csl.specs.Items.{item_key, item_said, item_under}
use Rattle.haya_csl.specs.declared.item_key.ItemKey.{ItemKey}
use Rattle.haya_csl.proofs.items.push_item.Goals as goal

said_under : (by : ItemKey) (j : Json) (ms : Members) (key : List ℕ) → j ≡ object ms → item_key by j ≡ Ok key → item_said by j ≡ Ok (item_under by key j ms)
said_under by j ms key is keyed = let keyed_so = rw is at keyed in rw is (rw keyed_so refl)

pub returns-in-Ok-push_under-clause-ok : goal.returns-in-Ok-push_under-clause-ok
returns-in-Ok-push_under-clause-ok c =
    let is : value_view c.args.item.now ≡ object (members_view c.in-Object.members.items) = ap value_view c.in-Object.is ∙ view-Object c.in-Object.members in
    record {
      view = item_under c.args.by c.in-Ok.key.now (value_view c.args.item.now) (members_view c.in-Object.members.items);
      said = said_under c.args.by (value_view c.args.item.now) (members_view c.in-Object.members.items) c.in-Ok.key.now is c.in-Ok.ensures.ok;
      pushed = c.in-Ok-push_under.ensures.pushed;
      told = c.in-Ok-push_under.ensures.told;
    }
