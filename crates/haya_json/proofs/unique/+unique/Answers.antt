use Rattle.std.proofs.Common.{◌≡◌, ◌<◌, length, sym, ap, ◌∙◌, subst, arith, rules}
use Rattle.json.specs.Json.{object}
use Rattle.json.specs.Strict.{keys, AreDistinct, HasUniqueKeys}
use Rattle.json.specs.Tree.{json_tokens, items_tokens, members_tokens}
use Rattle.json.specs.Value.{value_view, items_view, members_view}
use Rattle.json.proofs.Trees.{item_smaller, member_smaller, view-Object}
use Rattle.json.proofs.Unique.Keys.{texts}
use Rattle.haya_json.proofs.unique.+unique.Goals as goal

pub has_unique_names-returns-else-are_distinct : goal.has_unique_names-returns-else-are_distinct
has_unique_names-returns-else-are_distinct t c =
    let ms = members_view c.in-Object.members.items in
    let seen : value_view c.args.json.now ≡ object ms = ap value_view c.in-Object.is ∙ view-Object c.in-Object.members in
    let copied : texts c.deref_mut.result.now ≡ keys ms = ap texts c.deref_mut.ensures.value ∙ c.in_ok-copy_names-in-Object.ensures in
    let no = c.if-are_distinct.false in
    (λ yes. absurd (cc), λ h. c.are_distinct.ensures.1 (subst AreDistinct (sym copied) (subst HasUniqueKeys seen h).0))

pub have_unique_names-has_unique_names-requires : goal.have_unique_names-has_unique_names-requires
have_unique_names-has_unique_names-requires t c =
    let xs = c.deref-item-items.result.now in
    let x = c.item-item.result in
    let smaller : length (json_tokens (value_view x)) < length (items_tokens (items_view c.args.items.now.items)) =
    subst (λ ys. length (json_tokens (value_view x)) < length (items_tokens (items_view ys))) c.deref-item-items.ensures.value
    (subst (λ y. length (json_tokens (value_view y)) < length (items_tokens (items_view xs))) (sym c.item-item.is) (item_smaller xs c.items.item-index x (omega arith))) in
    search rules

pub members_have_unique_names-has_unique_names-requires : goal.members_have_unique_names-has_unique_names-requires
members_have_unique_names-has_unique_names-requires t c =
    let xs = c.deref-member-items.result.now in
    let x = c.member-item.result in
    let smaller : length (json_tokens (value_view x.1)) < length (members_tokens (members_view c.args.members.now.items)) =
    subst (λ ys. length (json_tokens (value_view x.1)) < length (members_tokens (members_view ys))) c.deref-member-items.ensures.value
    (subst (λ y. length (json_tokens (value_view y.1)) < length (members_tokens (members_view xs))) (sym c.member-item.is) (member_smaller xs c.members.member-index x (omega arith))) in
    search rules
