use Rattle.std.proofs.Common.{◌↔◌, drop, length}
use Rattle.json.specs.Strict.{ItemsHaveUniqueKeys, MembersHaveUniqueKeys}
use Rattle.json.specs.Tree.{json_tokens, items_tokens, members_tokens}
use Rattle.json.specs.Value.{value_view, items_view, members_view}
use Rattle.haya_json.proofs.unique.+unique.Given as goal

-- a value has fewer tokens than what it is in

abbrev pub decreases-has_unique_names : goal.decreases-has_unique_names
decreases-has_unique_names l = length (json_tokens (value_view l.json.now))

abbrev pub decreases-have_unique_names : goal.decreases-have_unique_names
decreases-have_unique_names l = length (items_tokens (items_view l.items.now.items))

abbrev pub decreases-members_have_unique_names : goal.decreases-members_have_unique_names
decreases-members_have_unique_names l = length (members_tokens (members_view l.members.now.items))

-- all do, where those that are left do

abbrev pub invariant-have_unique_names-items : goal.invariant-have_unique_names-items
invariant-have_unique_names-items l =
    ItemsHaveUniqueKeys (items_view (drop l.item-index l.item-items)) ↔ ItemsHaveUniqueKeys (items_view l.item-items)

abbrev pub invariant-members_have_unique_names-members : goal.invariant-members_have_unique_names-members
invariant-members_have_unique_names-members l =
    MembersHaveUniqueKeys (members_view (drop l.member-index l.member-items)) ↔ MembersHaveUniqueKeys (members_view l.member-items)
