use Rattle.std.proofs.Common.{◌≡◌, ◌+◌, ◌-◌, ◌<◌, Some, drop, length, map, ap, refl, sym, ◌∙◌, arith}
use Rattle.std.specs.List.{flat_map}
use Rattle.std.specs.Prelude.{option_map, slice_get}
use Rattle.std.proofs.lemmas.Option.{slice_get-map, slice_get_read}
use Rattle.haya_people.specs.Person.{PersonView, person_view}
use Rattle.haya_people.specs.Roles.{role_name, role_view, roles_view}
use Rattle.haya_views.specs.Persons.{CreditView, with_role}
use Rattle.haya_views.proofs.Behind.{get_behind, get_first, items_from, with_role-length}
use Rattle.haya_views.proofs.persons.name_at.Goals as goal

pub returns-then-left-many : goal.returns-then-left-many
returns-then-left-many c =
    let xs = map roles_view c.args.lists.now in
    let k = c.lists.list-index in
    let list = c.list-item.result in
    let names = list.names.items in
    let left = c.lists.left in
    let mine = with_role (roles_view list) in
    let more = flat_map with_role (drop (k + 1) xs) in
    let make : PersonView → CreditView = λ person. record { person = person; role = Some (role_name (role_view list.role)) } in
    let many : length mine ≡ c.len-many.result = with_role-length list ∙ sym list.names.ok.0 ∙ sym c.len-many.ensures in
    let room : length names ≡ c.len-many.result = sym list.names.ok.0 ∙ sym c.len-many.ensures in
    let within : left < length names = omega (arith, room, c.if-left-many.true) in
    let first : left < length mine = omega (arith, many, c.if-left-many.true) in
    let at : slice_get names left ≡ Some c.index.result.now = slice_get_read names (length names) left c.index.result.now refl within c.index.ensures in
    sym
    (c.lists.invariant
    ∙ ap (λ l. slice_get l left) (items_from with_role roles_view c.args.lists.now k list c.lists-test.true (sym c.list-item.is))
    ∙ get_first mine more left first
    ∙ slice_get-map make (map person_view names) left
    ∙ ap (option_map make) (slice_get-map person_view names left ∙ ap (option_map person_view) at))

pub lists-preserved : goal.lists-preserved
lists-preserved c =
    let xs = map roles_view c.args.lists.now in
    let k = c.lists.list-index in
    let list = c.list-item.result in
    let left = c.lists.left in
    let mine = with_role (roles_view list) in
    let more = flat_map with_role (drop (k + 1) xs) in
    let many : length mine ≡ c.len-many.result = with_role-length list ∙ sym list.names.ok.0 ∙ sym c.len-many.ensures in
    let past : left ≡ length mine + (left - c.len-many.result) = omega (arith, many, c.if-left-many.false) in
    c.lists.invariant
    ∙ ap (λ l. slice_get l left) (items_from with_role roles_view c.args.lists.now k list c.lists-test.true (sym c.list-item.is))
    ∙ get_behind mine more left (left - c.len-many.result) past
