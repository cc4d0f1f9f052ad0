use Rattle.std.proofs.Common.{◌≡◌, ℕ, subst, ◌+◌, ◌<◌, ◌∙◌, [], ◌∷◌, ◌++◌, Some, true, false, get_or, drop, length, reverse, ap, sym, refl, arith}
use Rattle.std.specs.Prelude.{slice_get}
use Rattle.std.proofs.lemmas.List.{drop_more, length-map, length_push, length-set, reverse-append}
use Rattle.haya_assignment.specs.Assignment.{not_taken, rows, true_positions}
use Rattle.haya_assignment.specs.Placed.{accepts}
use Rattle.haya_assignment.specs.declared.greedy.Order.TheVariants.{Ascending}
use Rattle.haya_assignment.proofs.InTurn.{first_is, flags_more, greedy_more, held_push, none_there, placed_push}
use Rattle.haya_assignment.proofs.Listing.{IsFree}
use Rattle.haya_assignment.proofs.Reaching.{accepts_within}
use Rattle.haya_assignment.proofs.greedy.take_in_turn.Goals as goal

pub members-preserved : goal.members-preserved
unfolding accepts
members-preserved c =
    let table = rows c.args.table.now in
    let m = c.members.member in
    let row = get_or table m [] in
    let places = c.members.positions.items in
    let taken = reverse places in
    let i = c.in-Some.position in
    let was = c.members.invariant in
    let left : drop m table ≡ row ∷ drop (m + 1) table = drop_more table m [] (omega (arith, length-map c.args.table.now (λ row. row.items))) in
    let within : i < length c.members.taken.items = omega (arith, c.in-Some.ensures.within, was.as_many) in
    let free : IsFree taken i = sym (was.flags i within) ∙ (rw c.deref.ensures.value at c.in-Some.ensures.left) in
    let first : c.args.order.now ≡ Ascending → slice_get (not_taken taken (true_positions row)) 0 ≡ Some i = λ up. first_is taken row i c.in-Some.ensures.accepted free (λ k l ok is_free.
    let set : get_or c.members.taken.items k false ≡ true = rw c.deref.ensures.value at (c.in-Some.ensures.first up k l ok) in
    let flag = was.flags k (omega (arith, l, within)) in
    absurd (let no : true ≡ false = sym set ∙ flag ∙ is_free in cc)) in
    let pushed : c.push.new.self.items ≡ places ++ i ∷ [] = c.in_ok-push.ensures.items in
    let turned : reverse c.push.new.self.items ≡ i ∷ taken = ap reverse pushed ∙ reverse-append places (i ∷ []) in
    record {
      as_many = length-set c.members.taken.items i true ∙ was.as_many;
      many = rw pushed (omega (arith, length_push places i, was.many));
      placed = rw pushed (placed_push (accepts table) places i was.placed (subst (λ (n : ℕ). accepts table n i ≡ true) (sym was.many) c.in-Some.ensures.accepted) (none_there c.members.taken.items places i (rw c.deref.ensures.value at c.in-Some.ensures.left) was.held));
      held = rw pushed (held_push c.members.taken.items places i within was.held);
      flags = rw turned (flags_more taken c.members.taken.items i within was.flags);
      answer = λ up. rw (turned, pushed) (sym (greedy_more taken places row (drop (m + 1) table) i (first up)) ∙ (rw left at (was.answer up)));
      first = λ e. absurd (omega arith);
      least = omega (arith, was.least, c.in-Some.ensures.at_least);
      most = omega (arith, was.most, c.first_left.ensures.at_most);
    }

pub returns-in_default-clause-first : goal.returns-in_default-clause-first
returns-in_default-clause-first c = λ up none some j.
    let table = rows c.args.table.now in
    let was = c.members.invariant in
    let start : c.members.member ≡ 0 = omega (arith, was.many) in
    (elim (accepts table 0 j) as (λ b. accepts table 0 j ≡ b → accepts table 0 j ≡ false) [
      | true ↦ λ ok.
          let ok' : accepts table c.members.member j ≡ true = rw start ok in
          let set : get_or c.members.taken.items j false ≡ true = rw c.deref.ensures.value at (c.in_default.ensures.none up j (accepts_within c.args.table.now c.args.parents c.members.member j c.requires.width ok') ok') in
          let left : get_or c.members.taken.items j false ≡ false = was.first start j in
          absurd (cc)
      | false ↦ λ e. e
    ]) refl
