use Rattle.std.proofs.Common.{◌≡◌, ℕ, ◌+◌, ◌*◌, ◌<◌, ◌∙◌, Bool, List, [], ◌∷◌, ◌++◌, length, take, ap, sym, arith}
use Rattle.std.specs.Prelude.{Vec, slice_set}
use Rattle.std.proofs.Math.ListN.{length-set}
use Rattle.std.proofs.lemmas.List.{map-append, take_more_set}
use Rattle.haya_assignment.specs.Assignment.{rows}
use Rattle.haya_selectors.specs.declared.tries.Try.{Try}
use Rattle.haya_selectors.specs.Tries.{all_held, rows_of}
use Rattle.haya_selectors.proofs.Stretches.{row_of, rows_of-more, stretch-map}
use Rattle.haya_selectors.proofs.tries.Tries.write_table.Goals as goal

-- a row that is written behind those before it
rows_more : {Z : Type 0} (table : List (Vec Bool Z)) (m : ℕ) (row : Vec Bool Z) → m < length table → rows (take (m + 1) (slice_set table m row)) ≡ rows (take m table) ++ row.items ∷ []
rows_more table m row l = ap rows (take_more_set table m row l) ∙ map-append (λ row. row.items) (take m table) (row ∷ [])

pub members-preserved : goal.members-preserved
members-preserved c =
    let w = c.args.parents in
    let m = c.members.member in
    let held = λ (t : Try). t.held in
    let all = all_held c.args.self.now in
    let table = c.members.table.items in
    let inv = c.members.invariant in
    let new = c.write_row.new.row in
    let there : m < length table = omega (arith, inv.enough) in
    let row : new.items ≡ row_of w m all = (rw c.deref.ensures.value at c.in_ok-write_row.ensures) ∙ stretch-map held c.args.self.now.tries.items (m * w) w in
    record {
      enough = omega (arith, inv.enough, length-set table m new);
      rows = rows_more table m new there ∙ ap (λ front. front ++ new.items ∷ []) inv.rows ∙ ap (λ r. rows_of w m all ++ r ∷ []) row ∙ sym (rows_of-more w m all);
    }
