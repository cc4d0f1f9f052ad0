-- Entries and their ancestors in order.
use Rattle.std.proofs.Common.{◌≡◌, ◌+◌, ◌<◌, ◌≤◌, ◌++◌, ◌∷◌, [], ℕ, List, Some, length, take, map, get_or, refl, sym, ap, ◌∙◌, subst, arith, add-one, append_assoc, drop, suc}
use Rattle.std.specs.Borrow.{Bor}
use Rattle.std.specs.Prelude.{flat_map, option_map, slice_get}
use Rattle.std.proofs.lemmas.Grind.{flat_map-append}
use Rattle.std.proofs.lemmas.List.{append-nil, drop_more, length-append, take_more}
use Rattle.std.proofs.lemmas.List.Concat.{flat_map-cons, get_or-flat_map}
use Rattle.std.proofs.lemmas.List.Folds.{length-flat_map-take}
use Rattle.std.proofs.lemmas.Option.{get_or_from_slice_get, slice_get-get_or, slice_get-map, slice_get_within}
use Rattle.haya_entry.specs.Tree.{Tree, Trees, node, no_trees, one_more, parents, tree_list, view}
use Rattle.haya_entry.specs.declared.entry.Entry.{Entry}
use Rattle.haya_views.specs.InOrder.{in_order, all_in_order}

all_is : (ts : Trees) → all_in_order ts ≡ flat_map in_order (tree_list ts)
all_is no_trees = refl
all_is (one_more t ts) = ap (λ l. in_order t ++ l) (all_is ts) ∙ sym (flat_map-cons in_order t (tree_list ts))

-- itself, and then its parents and their ancestors
pub in_order_is : (t : Tree) → in_order t ≡ t ∷ flat_map in_order (parents t)
in_order_is (node f ps) = ap (λ l. node f ps ∷ l) (all_is ps)

-- an entry of a slice by value
pub item : (entries : List Entry) (k : ℕ) (e : Entry) → k < length entries → get_or entries k e ≡ e → slice_get (map view entries) k ≡ Some (view e)
item entries k e within is = slice_get-map view entries k ∙ ap (option_map view) (slice_get-get_or entries k e within ∙ ap Some is)

one : (t : Tree) → flat_map in_order (t ∷ []) ≡ in_order t
one t = flat_map-cons in_order t [] ∙ append-nil (in_order t)

module _ (ts : List Tree) where
  -- how many are in order before a place
  abbrev pub past : ℕ → ℕ
  past k = length (flat_map in_order (take k ts))

  -- those of one tree more
  pub taken : (k : ℕ) (t : Tree) → slice_get ts k ≡ Some t → flat_map in_order (take (k + 1) ts) ≡ flat_map in_order (take k ts) ++ in_order t
  taken k t e =
      let within : k < length ts = slice_get_within ts k t e in
      ap (flat_map in_order) (take_more ts k t within ∙ ap (λ x. take k ts ++ x ∷ []) (get_or_from_slice_get ts k t t e))
      ∙ flat_map-append in_order (take k ts) (t ∷ [])
      ∙ ap (λ l. flat_map in_order (take k ts) ++ l) (one t)

  pub past_more : (k : ℕ) (t : Tree) → slice_get ts k ≡ Some t → past (k + 1) ≡ past k + length (in_order t)
  past_more k t e = ap length (taken k t e) ∙ length-append (flat_map in_order (take k ts)) (in_order t)

  -- one of those of a tree of the list
  pub reached : (k i : ℕ) (t u : Tree) → slice_get ts k ≡ Some t → slice_get (in_order t) i ≡ Some u → slice_get (flat_map in_order ts) (past k + i) ≡ Some u
  reached k i t u e h =
      let within : k < length ts = slice_get_within ts k t e in
      let is : get_or ts k t ≡ t = get_or_from_slice_get ts k t t e in
      let inside : i < length (in_order (get_or ts k t)) = subst (λ x. i < length (in_order x)) (sym is) (slice_get_within (in_order t) i u h) in
      let most : past k + length (in_order (get_or ts k t)) ≤ length (flat_map in_order ts) = length-flat_map-take in_order ts k t within in
      let there : past k + i < length (flat_map in_order ts) = omega (arith, inside, most) in
      slice_get-get_or (flat_map in_order ts) (past k + i) u there
      ∙ ap Some (get_or-flat_map in_order ts k i t u within inside ∙ ap (λ x. get_or (in_order x) i u) is ∙ get_or_from_slice_get (in_order t) i u u h)

-- how many there are
pub in_order_length : (t : Tree) → length (in_order t) ≡ length (flat_map in_order (parents t)) + 1
in_order_length t = rw add-one (ap length (in_order_is t))

-- itself is the first
pub first_is : (t : Tree) → slice_get (in_order t) 0 ≡ Some t
first_is t = ap (λ l. slice_get l 0) (in_order_is t)

-- one of its ancestors
pub deeper : (t u : Tree) (n : ℕ) → slice_get (flat_map in_order (parents t)) n ≡ Some u → slice_get (in_order t) (n + 1) ≡ Some u
deeper t u n h = rw add-one (ap (λ l. slice_get l (suc n)) (in_order_is t) ∙ h)

-- an entry more, with its ancestors
pub entry_more : (entries : List Entry) (k : ℕ) (e : Entry) → k < length entries → get_or entries k e ≡ e → (A : List Tree)
    → A ++ flat_map in_order (map view (drop k entries)) ≡ ((A ++ view e ∷ []) ++ flat_map in_order (parents (view e))) ++ flat_map in_order (map view (drop (k + 1) entries))
entry_more entries k e within is A =
    let P = flat_map in_order (parents (view e)) in
    let R = flat_map in_order (map view (drop (k + 1) entries)) in
    ap (λ l. A ++ flat_map in_order (map view l)) (drop_more entries k e within ∙ ap (λ x. x ∷ drop (k + 1) entries) is)
    ∙ ap (λ l. A ++ l) (flat_map-cons in_order (view e) (map view (drop (k + 1) entries)) ∙ ap (λ l. l ++ R) (in_order_is (view e)))
    ∙ sym (append_assoc A (view e ∷ P) R)
    ∙ ap (λ l. l ++ R) (sym (append_assoc A (view e ∷ []) P))

-- an entry behind a reference, by value
abbrev pub seen : Bor Entry → Tree
seen e = view e.now

pub seen_item : (entries : List (Bor Entry)) (k : ℕ) (e : Bor Entry) → k < length entries → get_or entries k e ≡ e → slice_get (map seen entries) k ≡ Some (view e.now)
seen_item entries k e within is = slice_get-map seen entries k ∙ ap (option_map seen) (slice_get-get_or entries k e within ∙ ap Some is)

-- a part of a sum
pub part_le : (n a b : ℕ) → n ≡ a + b → a ≤ n
part_le n a b is = omega (arith, is)
