-- Entries as rows: what stays when an entry is put behind the parents of another, or is closed.
use Rattle.std.proofs.Common.{◌≡◌, ◌≤◌, ℕ, suc, ◌+◌, List, [], ◌∷◌, ◌++◌, Result, Ok, Err, length, map, get_or, set, zero, refl, sym, ap, ◌∙◌, append_assoc, append-nil, length-append, subst, slice_get, min, arith}
use Rattle.std.specs.Prelude.{IsOkAnd, OnOk, option_to_list}
use Rattle.std.proofs.lemmas.List.{length-map, map-append}
use Rattle.hayagriva.specs.Lookups.{add_parent}
use Rattle.hayagriva.specs.Tree.{Tree, Trees, Fields, node, trees, tree_list, no_trees, one_more, fields, view, with_fields}
use Rattle.hayagriva.specs.declared.Entry.{Entry}
use Rattle.haya_lines.specs.Line.{Row, leaf, row_at}
use Rattle.haya_lines.specs.declared.error.LineError.{LineError}
use Rattle.haya_line_library.specs.Input.{rows_of, rows_of_all}
use Rattle.haya_line_library.specs.Chain.{LastOf, OpensEntry, Stands, TakesRow, chain_rows, left_rows, opened_rows}
use Rattle.haya_line_library.specs.Opened.{Opened}

pub rows_of_all-append : (d : ℕ) (ts us : List Tree) → rows_of_all d (trees (ts ++ us)) ≡ rows_of_all d (trees ts) ++ rows_of_all d (trees us)
rows_of_all-append d [] us = refl
rows_of_all-append d (t ∷ ts) us = ap (λ l. rows_of d t ++ l) (rows_of_all-append d ts us) ∙ sym (append_assoc (rows_of d t) (rows_of_all d (trees ts)) (rows_of_all d (trees us)))

trees-tree_list : (ts : Trees) → trees (tree_list ts) ≡ ts
trees-tree_list no_trees = refl
trees-tree_list (one_more t ts) = ap (one_more t) (trees-tree_list ts)

rows_of-add_parent : (d : ℕ) (parent child : Tree) → rows_of d (add_parent parent child) ≡ rows_of d child ++ rows_of (d + 1) parent
rows_of-add_parent d parent (node f ps) =
    ap (λ l. record { depth = d; fields = f } ∷ l)
    (rows_of_all-append (d + 1) (tree_list ps) (parent ∷ []) ∙ ap (λ l. l ++ rows_of_all (d + 1) (trees (parent ∷ []))) (ap (rows_of_all (d + 1)) (trees-tree_list ps)) ∙ ap (λ l. rows_of_all (d + 1) ps ++ l) (append-nil (rows_of (d + 1) parent)))

-- an entry behind the parents of the one before it
chain_rows-add_parent : (d : ℕ) (front : List Tree) (child parent : Tree) → chain_rows d (front ++ child ∷ parent ∷ []) ≡ chain_rows d (front ++ add_parent parent child ∷ [])
chain_rows-add_parent d [] child parent = sym (append_assoc (rows_of d child) (rows_of (d + 1) parent) []) ∙ ap (λ l. l ++ []) (sym (rows_of-add_parent d parent child))
chain_rows-add_parent d (t ∷ front) child parent = ap (λ l. rows_of d t ++ l) (chain_rows-add_parent (d + 1) front child parent)

-- one more entry, with no parents yet
chain_rows-leaf : (d : ℕ) (ts : List Tree) (f : Fields) → chain_rows d (ts ++ leaf f ∷ []) ≡ chain_rows d ts ++ record { depth = d + length ts; fields = f } ∷ []
chain_rows-leaf d [] f = let here : d ≡ d + 0 = omega arith in ap (λ n. record { depth = n; fields = f } ∷ []) here
chain_rows-leaf d (t ∷ ts) f =
    let deeper : (d + 1) + length ts ≡ d + length (t ∷ ts) = omega arith in
    ap (λ l. rows_of d t ++ l) (chain_rows-leaf (d + 1) ts f) ∙ sym (append_assoc (rows_of d t) (chain_rows (d + 1) ts) _)
    ∙ ap (λ n. (rows_of d t ++ chain_rows (d + 1) ts) ++ record { depth = n; fields = f } ∷ []) deeper

with_last : {X : Type 0} (v : X → Tree) (d : ℕ) (items : List X) (n : ℕ) (x next : X) (parent : Tree) → n + 1 ≡ length items
    → v next ≡ add_parent parent (v (get_or items n x)) → chain_rows d (map v items ++ parent ∷ []) ≡ chain_rows d (map v (set items n next))
with_last v d [] n x next parent last is = absurd (omega arith)
with_last v d (y ∷ []) zero x next parent last is = chain_rows-add_parent d [] (v y) parent ∙ ap (λ t. rows_of d t ++ []) (sym is)
with_last v d (y ∷ z ∷ more) zero x next parent last is = absurd (omega arith)
with_last v d (y ∷ []) (suc n) x next parent last is = absurd (omega arith)
with_last v d (y ∷ z ∷ more) (suc n) x next parent last is = ap (λ l. rows_of d (v y) ++ l) (with_last v (d + 1) (z ∷ more) n x next parent (omega arith) is)

-- where the chain is seen by v: its last entry is put behind the parents of the one before it
pub last-put : {X : Type 0} (v : X → Tree) (items all : List X) (n : ℕ) (x next parent : X) → n + 1 ≡ length items → map v all ≡ map v (items ++ parent ∷ [])
    → v next ≡ add_parent (v parent) (v (get_or items n x)) → chain_rows 0 (map v (set items n next)) ≡ chain_rows 0 (map v all)
last-put v items all n x next parent last same is =
    sym (with_last v 0 items n x next (v parent) last is) ∙ ap (chain_rows 0) (sym (map-append v items (parent ∷ [])) ∙ sym same)

-- or closed, where there is none
pub one-closed : {X : Type 0} (v : X → Tree) (items all : List X) → length items ≡ 1 → map v all ≡ map v items → left_rows (map v items) [] ≡ chain_rows 0 (map v all)
one-closed v [] all one same = absurd (omega arith)
one-closed v (y ∷ []) all one same = append-nil (rows_of 0 (v y) ++ []) ∙ ap (chain_rows 0) (sym same)
one-closed v (y ∷ z ∷ more) all one same = absurd (omega arith)

-- one entry or none
pub listed_first : {X : Type 0} (xs : List X) → length xs ≤ 1 → option_to_list (slice_get xs 0) ≡ xs
listed_first [] few = refl
listed_first (x ∷ []) few = refl
listed_first (x ∷ y ∷ xs) few = absurd (omega arith)

-- what a reader holds, where at most one entry is closed
pub rows-listed : {X : Type 0} (v : X → Tree) (closed chain : List X) → length closed ≤ 1
    → opened_rows (record { chain = map v chain; closed = slice_get (map v closed) 0 }) ≡ left_rows (map v closed) (map v chain)
rows-listed v closed chain few = ap (λ l. left_rows l (map v chain)) (listed_first (map v closed) (omega (arith, few, length-map closed v)))

nothing_left : {X : Type 0} (v : X → Tree) (chain : List X) → length chain ≡ 0 → map v chain ≡ []
nothing_left v [] none = refl
nothing_left v (x ∷ chain) none = absurd (omega arith)

-- where nothing is left open
pub all_closed : {A E X : Type 0} (r : Result A E) (v : X → Tree) (old : List Tree) (n : ℕ) (closed chain : List X) → OnOk r (length chain ≡ min 0 n)
    → OnOk r (left_rows (map v closed) (map v chain) ≡ chain_rows 0 old) → length closed ≤ 1 → OnOk r (LastOf old (record { chain = map v chain; closed = slice_get (map v closed) 0 }))
all_closed (Ok a) v old n closed chain none kept few = record {
  none = nothing_left v chain (omega (arith, none));
  rows = rows-listed v closed chain few ∙ kept;
}
all_closed (Err e) v old n closed chain none kept few = tt

-- what holds of the row that was read, whose entry was opened behind those that are left of a chain
pub row_taken : (read : Result Row LineError) (d : ℕ) (of_fields : Result Fields LineError) (chain left closed : List Tree) (now : Opened)
    → read ≡ row_at d of_fields → length left ≡ d → OpensEntry of_fields left now.chain → left_rows closed left ≡ chain_rows 0 chain → option_to_list now.closed ≡ closed
    → IsOkAnd read (λ row. TakesRow row chain now)
row_taken read d of_fields chain left closed now head deep opens kept same = rw head (by of_fields opens)
  where
    by : (r : Result Fields LineError) → OpensEntry r left now.chain → IsOkAnd (row_at d r) (λ row. TakesRow row chain now)
    by (Ok f) h =
        let depth : 0 + length left ≡ d = omega (arith, deep) in
        record {
          depth = omega (arith, deep, ap length h, length-append left (leaf f ∷ []));
          rows =
              rw (same, h) (ap (λ l. rows_of_all 0 (trees closed) ++ l) (chain_rows-leaf 0 left f) ∙ sym (append_assoc (rows_of_all 0 (trees closed)) (chain_rows 0 left) _)
              ∙ ap (λ l. l ++ record { depth = 0 + length left; fields = f } ∷ []) kept ∙ ap (λ n. chain_rows 0 chain ++ record { depth = n; fields = f } ∷ []) depth);
        }
    by (Err e) h = absurd h

-- ---- an entry behind others
set_behind : {X : Type 0} (olds : List X) (e next : X) → set (olds ++ e ∷ []) (length olds) next ≡ olds ++ next ∷ []
set_behind [] e next = refl
set_behind (o ∷ olds) e next = ap (λ l. o ∷ l) (set_behind olds e next)

get_behind : {X : Type 0} (olds : List X) (e x : X) → get_or (olds ++ e ∷ []) (length olds) x ≡ e
get_behind [] e x = refl
get_behind (o ∷ olds) e x = get_behind olds e x

module _ (olds items : List Entry) (n : ℕ) (x : Entry) (t : Tree) (stands : Stands t olds items) (last : n + 1 ≡ length items) (at : x ≡ get_or items n x) where
  here : n ≡ length olds
  here = omega (arith, ap length stands.items, length-append olds (stands.entry ∷ []))

  pub opened-view : view x ≡ t
  opened-view =
      ap view (at ∙ ap (λ l. get_or l n x) stands.items ∙ ap (λ k. get_or (olds ++ stands.entry ∷ []) k x) here ∙ get_behind olds stands.entry x) ∙ stands.value

  -- its fields are read in its place
  pub opened : (next : Entry) (read : Fields → Result Fields LineError) → ((f : Fields) → with_fields (λ _. f) t ≡ leaf f)
      → IsOkAnd (read (fields (view x))) (λ f. view next ≡ with_fields (λ _. f) (view x)) → OpensEntry (read (fields t)) (map view olds) (map view (set items n next))
  opened next read bare set_fields = by (read (fields t)) (subst (λ u. IsOkAnd (read (fields u)) (λ f. view next ≡ with_fields (λ _. f) u)) opened-view set_fields)
    where
      put : set items n next ≡ olds ++ next ∷ []
      put = ap (λ l. set l n next) stands.items ∙ ap (λ k. set (olds ++ stands.entry ∷ []) k next) here ∙ set_behind olds stands.entry next

      by : (r : Result Fields LineError) → IsOkAnd r (λ f. view next ≡ with_fields (λ _. f) t) → OpensEntry r (map view olds) (map view (set items n next))
      by (Ok f) h = ap (map view) put ∙ map-append view olds (next ∷ []) ∙ ap (λ u. map view olds ++ u ∷ []) (h ∙ bare f)
      by (Err e) h = absurd h
