use Rattle.std.proofs.Common.{◌≡◌, ◌<◌, ◌+◌, ◌++◌, None, Some, length, take, map, get_or, ap, sym, ◌∙◌, arith}
use Rattle.std.specs.List.{flat_map}
use Rattle.std.specs.Prelude.{option_and_then, slice_get}
use Rattle.std.proofs.lemmas.List.{length-map, take-map}
use Rattle.std.proofs.lemmas.Option.{slice_get-get_or}
use Rattle.haya_entry.specs.Tree.{parents, view}
use Rattle.haya_views.specs.InOrder.{entry_at, in_order, parent_at}
use Rattle.haya_views.proofs.Nested.{moved}
use Rattle.haya_views.proofs.Orders.{deeper, first_is, past, reached, seen}
use Rattle.haya_views.proofs.entries.parent_of.Goals as goal

pub returns-in-Some-checked_add-2 : goal.returns-in-Some-checked_add-2
returns-in-Some-checked_add-2 c =
    let t = view c.in-Some.entry.now in
    let library = c.args.library.now in
    let id = c.args.id.now in
    let place = c.args.place in
    let xs = c.parents-2.result.now in
    let at : entry_at library id ≡ Some t = sym c.in-Some.ensures in
    let same : length c.parents.result.now ≡ length (parents t) = sym (length-map c.parents.result.now view) ∙ ap length c.parents.ensures in
    let within : place < length (parents t) = omega (arith, same, c.if-place-parents.false) in
    let p = get_or (parents t) place t in
    let some : slice_get (parents t) place ≡ Some p = slice_get-get_or (parents t) place t within in
    let cut : map view (take place xs) ≡ take place (parents t) =
    sym (take-map view place xs) ∙ ap (take place) c.parents-2.ensures in
    let pushed : map seen c.push_all.new.all.items ≡ map seen c.new-before.result.items ++ flat_map in_order (map view (take place xs)) = c.in_ok-push_all.ensures in
    let long : c.len.result ≡ past (parents t) place =
    c.len.ensures ∙ c.push_all.new.all.ok.0 ∙ sym (length-map c.push_all.new.all.items seen)
    ∙ ap length (pushed ∙ ap (λ l. map seen l ++ flat_map in_order (map view (take place xs))) c.new-before.ensures.items ∙ ap (flat_map in_order) cut) in
    let more = c.in-Some-checked_add.ensures.1 in
    let sum = c.in-Some-checked_add-2.ensures.1 in
    let step : c.in-Some-checked_add-2.step ≡ id.step + ((past (parents t) place + 0) + 1) = omega (arith, long, more, sum) in
    let there : entry_at library (record { place = id.place; step = c.in-Some-checked_add-2.step }) ≡ Some p =
    ap (λ n. entry_at library (record { place = id.place; step = n })) step
    ∙ moved library id t p ((past (parents t) place + 0) + 1) at (deeper t p (past (parents t) place + 0) (reached (parents t) place 0 p p some (first_is p))) in
    let asked : parent_at library id place ≡ Some p = ap (option_and_then (λ x. slice_get (parents x) place)) at ∙ some in
    (there ∙ sym asked, λ none. (let no : Some p ≡ None = sym asked ∙ none in cc))
