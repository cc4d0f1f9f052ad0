-- The ancestors of an ancestor are among those of the entry, in the same order.
use Rattle.std.proofs.Common.{◌≡◌, ◌+◌, ◌-◌, ◌<◌, ◌++◌, ◌∷◌, [], ℕ, zero, suc, List, None, Some, inl, inr, length, refl, sym, ap, ◌∙◌, subst, arith, append_assoc}
use Rattle.std.specs.Prelude.{option_and_then, slice_get, unwrap_or}
use Rattle.std.proofs.Math.ListN.{get_or-append}
use Rattle.std.proofs.lemmas.List.{append-nil, get_or-append-add, length-append}
use Rattle.std.proofs.lemmas.Option.{get_or_from_slice_get, slice_get-get_or, slice_get_cases, slice_get_within}
use Rattle.haya_entry.specs.Tree.{Tree, Trees, node, no_trees, one_more}
use Rattle.haya_views.specs.InOrder.{in_order, all_in_order, entry_at}
use Rattle.haya_views.specs.declared.entry_id.EntryId.{EntryId}

module _ (xs ys : List Tree) where
  in_first : (n : ℕ) (x : Tree) → slice_get xs n ≡ Some x → slice_get (xs ++ ys) n ≡ Some x
  in_first n x h =
      let within : n < length xs = slice_get_within xs n x h in
      let longer = length-append xs ys in
      slice_get-get_or (xs ++ ys) n x (omega (arith, within, longer)) ∙ ap Some (get_or-append xs ys x n within ∙ get_or_from_slice_get xs n x x h)

  in_second : (k : ℕ) (x : Tree) → slice_get ys k ≡ Some x → slice_get (xs ++ ys) (length xs + k) ≡ Some x
  in_second k x h =
      let within : k < length ys = slice_get_within ys k x h in
      let longer = length-append xs ys in
      slice_get-get_or (xs ++ ys) (length xs + k) x (omega (arith, within, longer)) ∙ ap Some (get_or-append-add xs ys k x ∙ get_or_from_slice_get ys k x x h)

  from_second : (k : ℕ) (x : Tree) → slice_get (xs ++ ys) (length xs + k) ≡ Some x → slice_get ys k ≡ Some x
  from_second k x h =
      let within : length xs + k < length (xs ++ ys) = slice_get_within (xs ++ ys) (length xs + k) x h in
      let longer = length-append xs ys in
      slice_get-get_or ys k x (omega (arith, within, longer)) ∙ ap Some (sym (get_or-append-add xs ys k x) ∙ get_or_from_slice_get (xs ++ ys) (length xs + k) x x h)

-- the whole has the part behind so many
record IsPartAt (whole part : List Tree) (n : ℕ) : Type 0 where
  before : List Tree
  behind : List Tree
  is : whole ≡ before ++ (part ++ behind)
  long : length before ≡ n

mutual
  part_of : (r t : Tree) (s : ℕ) → slice_get (in_order r) s ≡ Some t → IsPartAt (in_order r) (in_order t) s
  part_of (node f ps) t zero h =
      let same : node f ps ≡ t = ap (λ o. unwrap_or o t) h in
      record { before = []; behind = []; is = subst (λ x. in_order (node f ps) ≡ in_order x ++ []) same (sym (append-nil (in_order (node f ps)))); long = refl }
  part_of (node f ps) t (suc s) h =
      let part = part_of_all ps t s h in
      record { before = node f ps ∷ part.before; behind = part.behind; is = ap (λ l. node f ps ∷ l) part.is; long = ap suc part.long }

  part_of_all : (ps : Trees) (t : Tree) (s : ℕ) → slice_get (all_in_order ps) s ≡ Some t → IsPartAt (all_in_order ps) (in_order t) s
  part_of_all no_trees t s h = absurd (let none : s < 0 = slice_get_within [] s t h in omega (arith, none))
  part_of_all (one_more p ps) t s h = elim (slice_get_cases (in_order p) s).1 [
    | inl w ↦
        (let same : w.0 ≡ t = ap (λ o. unwrap_or o t) (sym (in_first (in_order p) (all_in_order ps) s w.0 w.2) ∙ h) in
        let part = part_of p t s (w.2 ∙ ap Some same) in
        record {
          before = part.before;
          behind = part.behind ++ all_in_order ps;
          is =
              ap (λ l. l ++ all_in_order ps) part.is
              ∙ append_assoc part.before (in_order t ++ part.behind) (all_in_order ps)
              ∙ ap (λ l. part.before ++ l) (append_assoc (in_order t) part.behind (all_in_order ps));
          long = part.long;
        })
    | inr past ↦
        (let k = s - length (in_order p) in
        let there : s ≡ length (in_order p) + k = omega (arith, past.0) in
        let part = part_of_all ps t k (from_second (in_order p) (all_in_order ps) k t (ap (slice_get (in_order p ++ all_in_order ps)) (sym there) ∙ h)) in
        record {
          before = in_order p ++ part.before;
          behind = part.behind;
          is = ap (λ l. in_order p ++ l) part.is ∙ sym (append_assoc (in_order p) part.before (in_order t ++ part.behind));
          long = length-append (in_order p) part.before ∙ ap (λ n. length (in_order p) + n) part.long ∙ sym there;
        })
  ]

pub nested : (r t u : Tree) (s i : ℕ) → slice_get (in_order r) s ≡ Some t → slice_get (in_order t) i ≡ Some u → slice_get (in_order r) (s + i) ≡ Some u
nested r t u s i h g =
    let part = part_of r t s h in
    ap (λ l. slice_get l (s + i)) part.is
    ∙ ap (λ n. slice_get (part.before ++ (in_order t ++ part.behind)) (n + i)) (sym part.long)
    ∙ in_second part.before (in_order t ++ part.behind) i u (in_first (in_order t) part.behind i u g)

-- an ancestor of the entry that is meant has its number behind that one's
pub moved : (library : List Tree) (id : EntryId) (t u : Tree) (i : ℕ) → entry_at library id ≡ Some t → slice_get (in_order t) i ≡ Some u
    → entry_at library (record { place = id.place; step = id.step + i }) ≡ Some u
moved library id t u i h g = elim (slice_get_cases library id.place).1 [
  | inl w ↦
      (ap (option_and_then (λ r. slice_get (in_order r) (id.step + i))) w.2
      ∙ nested w.0 t u id.step i (sym (ap (option_and_then (λ r. slice_get (in_order r) id.step)) w.2) ∙ h) g)
  | inr gone ↦ absurd (let no : None ≡ Some t = sym (ap (option_and_then (λ r. slice_get (in_order r) id.step)) gone.1) ∙ h in cc)
]
