use Rattle.std.proofs.Common.{◌<◌, length, sym, subst, rules}
use Rattle.json.specs.Tree.{json_tokens, items_tokens, members_tokens}
use Rattle.json.specs.Value.{value_view, items_view, members_view}
use Rattle.json.proofs.Trees.{item_smaller, member_smaller}
use Rattle.haya_json.proofs.entries.+entries.Goals as goal

pub read_each-add_parent-requires : goal.read_each-add_parent-requires
read_each-add_parent-requires t c =
    let xs = c.args.items.now.items in
    let x = c.index.result.now in
    let smaller : length (json_tokens (value_view x)) < length (items_tokens (items_view xs)) =
    subst (λ y. length (json_tokens (value_view y)) < length (items_tokens (items_view xs))) (sym c.index.ensures)
    (item_smaller xs c.entries.place x (search rules)) in
    search rules

pub set_members-set_member-requires : goal.set_members-set_member-requires
set_members-set_member-requires t c =
    let xs = c.deref-member-items.result.now in
    let x = c.member-item.result in
    let smaller : length (json_tokens (value_view x.1)) < length (members_tokens (members_view c.args.members.now.items)) =
    subst (λ ys. length (json_tokens (value_view x.1)) < length (members_tokens (members_view ys))) c.deref-member-items.ensures.value
    (subst (λ y. length (json_tokens (value_view y.1)) < length (members_tokens (members_view xs))) (sym c.member-item.is)
    (member_smaller xs c.members.member-index x (search rules))) in
    search rules
