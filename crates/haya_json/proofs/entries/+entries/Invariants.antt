use Rattle.std.proofs.Common.{◌≡◌, ◌+◌, ◌*◌, length, drop}
use Rattle.json.specs.Tree.{json_tokens, items_tokens, members_tokens}
use Rattle.json.specs.Value.{value_view, items_view, members_view}
use Rattle.haya_json.specs.Entries.{items_said, members_said}
use Rattle.haya_json.specs.Readings.{entry_view, parents_view}
use Rattle.haya_json.proofs.Lists.{joined}
use Rattle.haya_json.proofs.entries.+entries.Given as goal

abbrev pub decreases-read_entry : goal.decreases-read_entry
decreases-read_entry l = 3 * length (json_tokens (value_view l.json.now))

abbrev pub decreases-read_object : goal.decreases-read_object
decreases-read_object l = 3 * length (members_tokens (members_view l.members.now.items)) + 2

abbrev pub decreases-read_members : goal.decreases-read_members
decreases-read_members l = 3 * length (members_tokens (members_view l.members.now.items)) + 1

abbrev pub decreases-set_members : goal.decreases-set_members
decreases-set_members l = 3 * length (members_tokens (members_view l.members.now.items))

abbrev pub decreases-set_member : goal.decreases-set_member
decreases-set_member l = 3 * length (json_tokens (value_view l.json.now)) + 2

abbrev pub decreases-read_parents : goal.decreases-read_parents
decreases-read_parents l = 3 * length (json_tokens (value_view l.json.now)) + 1

abbrev pub decreases-read_each : goal.decreases-read_each
decreases-read_each l = 3 * length (items_tokens (items_view l.items.now.items))

abbrev pub decreases-add_parent : goal.decreases-add_parent
decreases-add_parent l = 3 * length (json_tokens (value_view l.json.now)) + 1

-- the parents of all items are those that are read, and then those of the items left
abbrev pub invariant-read_each-entries : goal.invariant-read_each-entries
invariant-read_each-entries l =
    items_said l.key l.default 0 (items_view l.items.items)
    ≡ joined (parents_view l.parents) (items_said l.key l.default l.place (items_view (drop l.place l.items.items)))

-- what all members make of the first entry is what those left make of the entry so far
abbrev pub invariant-set_members-members : goal.invariant-set_members-members
invariant-set_members-members l =
    members_said l.key l.default l.kind (members_view l.member-items) (entry_view l.initial.entry l.initial.lost.items)
    ≡ members_said l.key l.default l.kind (members_view (drop l.member-index l.member-items)) (entry_view l.entry l.lost.items)
