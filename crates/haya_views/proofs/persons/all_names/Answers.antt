use Rattle.std.proofs.Common.{◌≡◌, ◌≤◌, ◌+◌, ◌-◌, ◌^◌, drop, length, map, min, ap, sym, subst, ◌∙◌, arith}
use Rattle.std.specs.List.{flat_map}
use Rattle.std.proofs.Math.ListN.{drop_of_length-le}
use Rattle.std.proofs.lemmas.List.{length-append, length-map}
use Rattle.haya_people.specs.Roles.{roles_view}
use Rattle.haya_views.specs.Persons.{with_role}
use Rattle.haya_views.proofs.Behind.{items_from, kept_low, with_role-length}
use Rattle.haya_views.proofs.persons.all_names.Goals as goal

pub lists-preserved : goal.lists-preserved
lists-preserved c =
    let xs = map roles_view c.args.lists.now in
    let k = c.lists.list-index in
    let list = c.list-item.result in
    let rest = length (flat_map with_role (drop (k + 1) xs)) in
    let many : length (with_role (roles_view list)) ≡ c.len.result = with_role-length list ∙ sym list.names.ok.0 ∙ sym c.len.ensures in
    let so : length (flat_map with_role (drop k xs)) ≡ c.len.result + rest =
    ap length (items_from with_role roles_view c.args.lists.now k list c.lists-test.true (sym c.list-item.is))
    ∙ length-append (with_role (roles_view list)) (flat_map with_role (drop (k + 1) xs))
    ∙ ap (λ n. n + rest) many in (
      omega (arith, c.saturating_add-all.ensures),
      ap (λ n. min (n + rest) (2 ^ 64 - 1)) c.saturating_add-all.ensures ∙ kept_low c.lists.all c.len.result rest
          ∙ ap (λ n. min (c.lists.all + n) (2 ^ 64 - 1)) (sym so) ∙ c.lists.invariant.1,
    )

pub returns : goal.returns
returns c =
    let xs = map roles_view c.args.lists.now in
    let past : length xs ≤ c.lists.list-index = subst (λ n. n ≤ c.lists.list-index) (sym (length-map c.args.lists.now roles_view)) c.lists-test.false in
    let none : length (flat_map with_role (drop c.lists.list-index xs)) ≡ 0 = ap (λ l. length (flat_map with_role l)) (drop_of_length-le xs past) in
    omega (arith, c.lists.invariant.0, c.lists.invariant.1, none)
