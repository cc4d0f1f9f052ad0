use Rattle.std.proofs.Common.{◌≡◌, ℕ, ◌∙◌, ◌++◌, List, [], Option, Some, None, length, take, ap, append-nil, subst, sym}
use Rattle.std.specs.Prelude.{All}
use Rattle.std.specs.Option.{option_map_or}
use Rattle.std.proofs.lemmas.List.{length-map}
use Rattle.haya_assignment.specs.Assignment.{least, rows}
use Rattle.haya_selectors.specs.Evaluation.{pairs_view}
use Rattle.haya_selectors.specs.Tries.{all_found, all_held, held_rows, joined_at}
use Rattle.haya_selectors.proofs.Stretches.{width_of-rows}
use Rattle.haya_selectors.proofs.Tried.{least_fits, none_left, stored_width}
use Rattle.haya_selectors.proofs.bindings.Bindings.assign.Goals as goal

pub least_assignment-requires : goal.least_assignment-requires
least_assignment-requires c =
    let w = c.args.parents in
    let n = c.args.members in
    let table = take n c.write_table.new.table.items in
    let wide : All (λ row. length row ≡ w) (rows table) =
    subst (All (λ row. length row ≡ w)) (sym c.in_ok-write_table.ensures.rows) (width_of-rows w n (all_held c.args.tries.now) c.requires.count) in
    record { width = rw c.deref.ensures.value (stored_width table w wide) }

pub keep-requires-clause-count : goal.keep-requires-clause-count
keep-requires-clause-count c =
    let w = c.args.parents in
    let n = c.args.members in
    let tries = c.args.tries.now in
    let places = c.in-Found.places.items in
    let found : least (held_rows w n tries) ≡ Some places = rw (c.in-Found.is, c.deref.ensures.value, c.in_ok-write_table.ensures.rows) at c.in_ok-places.ensures.answer in
    let fits = least_fits w n (all_held tries) places c.requires.count found in
    let as_long : length (all_found tries) ≡ length (all_held tries) = length-map tries.tries.items _ ∙ sym (length-map tries.tries.items _) in
    rw (c.deref-in-Found.ensures.value, fits.as_many) (as_long ∙ c.requires.count)

pub keep-requires-clause-within : goal.keep-requires-clause-within
keep-requires-clause-within c =
    let w = c.args.parents in
    let n = c.args.members in
    let tries = c.args.tries.now in
    let places = c.in-Found.places.items in
    let found : least (held_rows w n tries) ≡ Some places = rw (c.in-Found.is, c.deref.ensures.value, c.in_ok-write_table.ensures.rows) at c.in_ok-places.ensures.answer in
    let fits = least_fits w n (all_held tries) places c.requires.count found in
    rw (c.deref-in-Found.ensures.value, fits.as_many) (c.requires.within ∙ ap length (sym c.self.view_is))

pub keep-requires-clause-inside : goal.keep-requires-clause-inside
keep-requires-clause-inside c =
    let w = c.args.parents in
    let n = c.args.members in
    let tries = c.args.tries.now in
    let places = c.in-Found.places.items in
    let found : least (held_rows w n tries) ≡ Some places = rw (c.in-Found.is, c.deref.ensures.value, c.in_ok-write_table.ensures.rows) at c.in_ok-places.ensures.answer in
    let fits = least_fits w n (all_held tries) places c.requires.count found in
    rw c.deref-in-Found.ensures.value fits.inside

pub returns-in-Found-clause-left : goal.returns-in-Found-clause-left
returns-in-Found-clause-left c = λ names front pieces l r e.
    let w = c.args.parents in
    let n = c.args.members in
    let tries = c.args.tries.now in
    let places = c.in-Found.places.items in
    let found : least (held_rows w n tries) ≡ Some places = rw (c.in-Found.is, c.deref.ensures.value, c.in_ok-write_table.ensures.rows) at c.in_ok-places.ensures.answer in
    let fits = least_fits w n (all_held tries) places c.requires.count found in
    let kept = rw (c.deref-in-Found.ensures.value, fits.as_many) at c.keep.ensures in
    subst (λ (o : Option (List ℕ)). pairs_view names c.keep.new.self ≡ front ++ option_map_or (joined_at pieces) o []) (sym found)
    (kept names front pieces l r (ap (pairs_view names) c.self.view_is ∙ e))

pub returns-clause-left : goal.returns-clause-left
returns-clause-left c = λ names front pieces l r e.
    let answer = rw (c.in-Short.is, c.deref.ensures.value, c.in_ok-write_table.ensures.rows) at c.in_ok-places.ensures.answer in
    let none : least (held_rows c.args.parents c.args.members c.args.tries.now) ≡ None = answer.0 in
    let left = none_left names c.args.self.now c.truncate.new.self c.args.before front pieces (c.truncate.ensures ∙ ap (take c.args.before) c.self.view_is) l e in
    subst (λ (o : Option (List ℕ)). pairs_view names c.truncate.new.self ≡ front ++ option_map_or (joined_at pieces) o []) (sym none) (left ∙ sym (append-nil front))
