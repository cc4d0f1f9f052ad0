use Rattle.std.proofs.Common.{◌≡◌, ℕ, Global, List, [], ◌∷◌, length, ap, sym, ◌∙◌, arith, rules}
use Rattle.std.specs.Prelude.{◌==◌}
use Rattle.std.specs.Borrow.{Bor}
use Rattle.std.specs.Vec.{vec_len}
use Rattle.std.proofs.lemmas.Bool.Decides.{nat_tests}
use Rattle.json.specs.Json as json
use Rattle.json.specs.Value.{items_view, members_view, value_view}
use Rattle.json.specs.declared.value.Value.{Value}
use Rattle.json.proofs.Trees.{view-Array, view-Object}
use Rattle.haya_csl.specs.Kinds.{is_empty}
use Rattle.haya_csl.proofs.kinds.is_empty.Goals as goal

-- a list is empty where it has no items
empty_array : (vs : List (Value Global)) (n : ℕ) → length vs ≡ n → (n == 0) ≡ is_empty (json.array (items_view vs))
empty_array [] n h = grind (arith, nat_tests)
empty_array (v ∷ vs) n h = grind (arith, nat_tests)

-- and an object where it has no members
empty_object : (ms : List (Bor (List ℕ) × Value Global)) (n : ℕ) → length ms ≡ n → (n == 0) ≡ is_empty (json.object (members_view ms))
empty_object [] n h = grind (arith, nat_tests)
empty_object (m ∷ ms) n h = grind (arith, nat_tests)

pub returns-in-Array : goal.returns-in-Array
returns-in-Array c =
    let items : length c.in-Array.items.items ≡ vec_len c.in-Array.items = search rules in
    let view : value_view c.args.json.now ≡ json.array (items_view c.in-Array.items.items) = ap value_view c.in-Array.is ∙ view-Array c.in-Array.items in
    c.is_empty-in-Array.ensures ∙ empty_array _ _ items ∙ ap is_empty (sym view)

pub returns-in-Object : goal.returns-in-Object
returns-in-Object c =
    let members : length c.in-Object.members.items ≡ vec_len c.in-Object.members = search rules in
    let view : value_view c.args.json.now ≡ json.object (members_view c.in-Object.members.items) = ap value_view c.in-Object.is ∙ view-Object c.in-Object.members in
    c.is_empty-in-Object.ensures ∙ empty_object _ _ members ∙ ap is_empty (sym view)
