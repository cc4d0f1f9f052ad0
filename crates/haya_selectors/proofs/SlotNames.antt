-- The names of slots: what adding names gives.
use Rattle.std.proofs.Common.{◌≡◌, ◌<◌, ℕ, suc, ◌+◌, Bool, true, false, cond, List, [], ◌∷◌, ◌++◌, Some, None, length, get_or, refl, subst, sym, ap, ◌∙◌, append-nil, append_assoc, arith}
use Rattle.std.specs.Prelude.{◌&&◌, ◌||◌, not, filter, position}
use Rattle.std.specs.List.{list_any, position_from}
use Rattle.std.specs.Str.{bytes_eq}
use Rattle.std.specs.Cmp.Lexicographic.{nat_list_eq_equiv}
use Rattle.std.proofs.lemmas.Iterator.Adapters.{position_from-zero}
use Rattle.std.proofs.lemmas.List.Folds.{list_any-append}
use Rattle.std.proofs.lemmas.List.Sums.{fold-append}
use Rattle.std.proofs.lemmas.Map.Steps.{list_any_congr}
use Rattle.std.proofs.lemmas.Slice.Eq.{bytes_eq-Decides}
use Rattle.indexmap.specs.IndexSet.{insert_all, insert_key}
use Rattle.haya_selectors.specs.BoundNames.{all_bound_names, bound_names, distinct_names, later_names}
use Rattle.haya_selectors.specs.declared.nodes.Nodes.{Nodes}
use Rattle.haya_selectors.specs.Nodes.{AddsNames, slot_names}
use Rattle.haya_selectors.specs.Side.{is_end, with_first}
use Rattle.haya_selectors.specs.Syntax.{Syntax, Wildcard, Entry, Neg, Binding, Attr, Alt, Multi, Ancestrage, none, more, syntaxes}

-- ---- the names of members
pub all_bound_names-push : (ss : List Syntax) (s : Syntax) → all_bound_names (syntaxes (ss ++ s ∷ [])) ≡ all_bound_names (syntaxes ss) ++ bound_names s
all_bound_names-push [] s = append-nil (bound_names s)
all_bound_names-push (t ∷ ts) s =
    ap (λ l. bound_names t ++ l) (all_bound_names-push ts s) ∙ sym (append_assoc (bound_names t) (all_bound_names (syntaxes ts)) (bound_names s))

-- the names of a form by those of its first part
pub bound_names-first : (s x : Syntax) → is_end s ≡ false → bound_names (with_first s x) ≡ bound_names x ++ later_names s
bound_names-first Wildcard x e = cc
bound_names-first (Entry t) x e = cc
bound_names-first (Neg s) x e = sym (append-nil (bound_names x))
bound_names-first (Binding n s) x e = refl
bound_names-first (Attr s names) x e = sym (append-nil (bound_names x))
bound_names-first (Alt none) x e = cc
bound_names-first (Alt (more s ss)) x e = refl
bound_names-first (Multi none) x e = cc
bound_names-first (Multi (more s ss)) x e = refl
bound_names-first (Ancestrage l r) x e = refl

pub bound_names-end : (s : Syntax) → is_end s ≡ true → bound_names s ≡ []
bound_names-end Wildcard e = refl
bound_names-end (Entry t) e = refl
bound_names-end (Neg s) e = cc
bound_names-end (Binding n s) e = cc
bound_names-end (Attr s names) e = cc
bound_names-end (Alt none) e = refl
bound_names-end (Alt (more s ss)) e = cc
bound_names-end (Multi none) e = refl
bound_names-end (Multi (more s ss)) e = cc
bound_names-end (Ancestrage l r) e = cc

-- names that are added, and then others
pub adds_then : (a b c : Nodes) (names others : List (List ℕ)) → AddsNames a b names → AddsNames b c others → AddsNames a c (names ++ others)
adds_then a b c names others h k =
    k ∙ ap (λ l. insert_all bytes_eq l others) h ∙ sym (fold-append (insert_key bytes_eq) (slot_names a) names others)

-- ---- distinct names
fused : {X : Type 0} (p q r : X → Bool) → ((x : X) → r x ≡ (q x && p x)) → (xs : List X) → filter r xs ≡ filter p (filter q xs)
fused p q r e [] = refl
fused p q r e (x ∷ xs) = rw (e x, fused p q r e xs) (either (q x)) where
  either : (b : Bool) → cond (b && p x) (x ∷ filter p (filter q xs)) (filter p (filter q xs)) ≡ filter p (cond b (x ∷ filter q xs) (filter q xs))
  either true = refl
  either false = refl

all_kept : {X : Type 0} (xs : List X) → filter (λ x. true) xs ≡ xs
all_kept [] = refl
all_kept (x ∷ xs) = ap (λ l. x ∷ l) (all_kept xs)

abbrev is_new : List (List ℕ) → List ℕ → Bool
is_new known m = not (list_any (bytes_eq m) known)

-- a name that is known isn't new
known_stays : (known : List (List ℕ)) (n m : List ℕ) → list_any (bytes_eq n) known ≡ true → is_new known m ≡ (not (bytes_eq n m) && is_new known m)
known_stays known n m h = by (bytes_eq n m) refl where
  by : (b : Bool) → bytes_eq n m ≡ b → is_new known m ≡ (not b && is_new known m)
  by true e = ap not (sym (list_any_congr nat_list_eq_equiv n m known e) ∙ h)
  by false e = refl

-- once a name is known, it isn't new
known_then : (known : List (List ℕ)) (n m : List ℕ) → is_new (known ++ n ∷ []) m ≡ (not (bytes_eq n m) && is_new known m)
known_then known n m = rw (list_any-append, nat_list_eq_equiv.symm m n) (by (list_any (bytes_eq m) known) (bytes_eq n m)) where
  by : (a b : Bool) → not (a || (b || false)) ≡ (not b && not a)
  by true true = refl
  by true false = refl
  by false true = refl
  by false false = refl

-- what is added to names that are known
pub insert_all-is : (known names : List (List ℕ)) → insert_all bytes_eq known names ≡ known ++ filter (is_new known) (distinct_names names)
insert_all-is known [] = sym (append-nil known)
insert_all-is known (n ∷ names) = by (insert_all-is known names) (insert_all-is (known ++ n ∷ []) names) (list_any (bytes_eq n) known) refl where
  by : insert_all bytes_eq known names ≡ known ++ filter (is_new known) (distinct_names names)
      → insert_all bytes_eq (known ++ n ∷ []) names ≡ (known ++ n ∷ []) ++ filter (is_new (known ++ n ∷ [])) (distinct_names names)
      → (b : Bool) → list_any (bytes_eq n) known ≡ b
      → insert_all bytes_eq known (n ∷ names) ≡ known ++ filter (is_new known) (n ∷ filter (λ m. not (bytes_eq n m)) (distinct_names names))
  by h k true e =
      rw e (h ∙ ap (λ l. known ++ l) (fused (is_new known) (λ m. not (bytes_eq n m)) (is_new known) (λ m. known_stays known n m e) (distinct_names names)))
  by h k false e =
      rw e (k ∙ append_assoc known (n ∷ []) (filter (is_new (known ++ n ∷ [])) (distinct_names names))
      ∙ ap (λ l. known ++ n ∷ l) (fused (is_new known) (λ m. not (bytes_eq n m)) (is_new (known ++ n ∷ [])) (λ m. known_then known n m) (distinct_names names)))

-- names that are added to none are the distinct ones
pub adds_to_none : (a b : Nodes) (names : List (List ℕ)) → slot_names a ≡ [] → AddsNames a b names → slot_names b ≡ distinct_names names
adds_to_none a b names e h = h ∙ ap (λ l. insert_all bytes_eq l names) e ∙ insert_all-is [] names ∙ all_kept (distinct_names names)

-- ---- a name's place
pub record StandsAt (name : List ℕ) (names : List (List ℕ)) (i : ℕ) : Type 0 where
  pub inside : i < length names
  pub named : get_or names i [] ≡ name
  pub known : list_any (bytes_eq name) names ≡ true

module _ (name : List ℕ) where
  found_from : (names : List (List ℕ)) (start i : ℕ) → position_from (bytes_eq name) start names ≡ Some i
      → (j : ℕ) × (i ≡ start + j) × StandsAt name names j
  found_from [] start i e = absurd (cc)
  found_from (n ∷ names) start i e = by (found_from names (start + 1) i) (bytes_eq name n) refl where
    by : (position_from (bytes_eq name) (start + 1) names ≡ Some i → (j : ℕ) × (i ≡ start + 1 + j) × StandsAt name names j)
        → (b : Bool) → bytes_eq name n ≡ b → (j : ℕ) × (i ≡ start + j) × StandsAt name (n ∷ names) j
    by later true h =
        let here : Some start ≡ Some i = rw h at e in
        let same : start ≡ i = cc in
        (0, omega arith, record { inside = omega arith; named = sym ((bytes_eq-Decides name n).0 h); known = rw h refl })
    by later false h =
        let there = later (rw h at e) in
        (suc there.0, omega (arith, there.1), record { inside = omega (arith, there.2.inside); named = there.2.named; known = rw h there.2.known })

  -- where a search ends
  pub place_found : (names : List (List ℕ)) (i : ℕ) → position (bytes_eq name) names ≡ Some i → StandsAt name names i
  place_found names i e =
      let f = found_from names 0 i (sym (position_from-zero (bytes_eq name) names) ∙ e) in
      let same : f.0 ≡ i = omega (arith, f.1) in
      subst (StandsAt name names) same f.2

  -- a search that finds nothing
  missing_from : (names : List (List ℕ)) (start : ℕ) → position_from (bytes_eq name) start names ≡ None → list_any (bytes_eq name) names ≡ false
  missing_from [] start e = refl
  missing_from (n ∷ names) start e = by (missing_from names (start + 1)) (bytes_eq name n) refl where
    by : (position_from (bytes_eq name) (start + 1) names ≡ None → list_any (bytes_eq name) names ≡ false)
        → (b : Bool) → bytes_eq name n ≡ b → list_any (bytes_eq name) (n ∷ names) ≡ false
    by later true h = absurd (let no : Some start ≡ None = rw h at e in cc)
    by later false h = rw h (later (rw h at e))

  pub place_missing : (names : List (List ℕ)) → position (bytes_eq name) names ≡ None → list_any (bytes_eq name) names ≡ false
  place_missing names e = missing_from names 0 (sym (position_from-zero (bytes_eq name) names) ∙ e)

  -- with one name more
  last_from : (names : List (List ℕ)) (start : ℕ) → position_from (bytes_eq name) start names ≡ None
      → position_from (bytes_eq name) start (names ++ name ∷ []) ≡ Some (start + length names)
  last_from [] start e = let here : bytes_eq name name ≡ true = (bytes_eq-Decides name name).1 refl in let none : start ≡ start + 0 = omega arith in rw here (ap Some none)
  last_from (n ∷ names) start e = by (last_from names (start + 1)) (bytes_eq name n) refl where
    by : (position_from (bytes_eq name) (start + 1) names ≡ None → position_from (bytes_eq name) (start + 1) (names ++ name ∷ []) ≡ Some (start + 1 + length names))
        → (b : Bool) → bytes_eq name n ≡ b → position_from (bytes_eq name) start (n ∷ names ++ name ∷ []) ≡ Some (start + suc (length names))
    by later true h = absurd (let no : Some start ≡ None = rw h at e in cc)
    by later false h = let moved : start + 1 + length names ≡ start + suc (length names) = omega arith in rw h (later (rw h at e) ∙ ap Some moved)

  other_from : (other : List ℕ) → bytes_eq name other ≡ false → (names : List (List ℕ)) (start : ℕ)
      → position_from (bytes_eq name) start (names ++ other ∷ []) ≡ position_from (bytes_eq name) start names
  other_from other e [] start = rw e refl
  other_from other e (n ∷ names) start = ap (cond (bytes_eq name n) (Some start)) (other_from other e names (start + 1))

-- the places of names, with one that is new
pub places_with : (names : List (List ℕ)) (new name : List ℕ) → position (bytes_eq new) names ≡ None
    → cond (bytes_eq new name) (Some (length names)) (position (bytes_eq name) names) ≡ position (bytes_eq name) (names ++ new ∷ [])
places_with names new name e = by (bytes_eq new name) refl where
  whole : (n : List ℕ) → position_from (bytes_eq n) 0 (names ++ new ∷ []) ≡ position (bytes_eq n) (names ++ new ∷ [])
  whole n = sym (position_from-zero (bytes_eq n) (names ++ new ∷ []))

  by : (b : Bool) → bytes_eq new name ≡ b → cond b (Some (length names)) (position (bytes_eq name) names) ≡ position (bytes_eq name) (names ++ new ∷ [])
  by true h =
      let same : new ≡ name = (bytes_eq-Decides new name).0 h in
      let zero : 0 + length names ≡ length names = omega arith in
      let last : position (bytes_eq new) (names ++ new ∷ []) ≡ Some (length names) = sym (whole new) ∙ last_from new names 0 (sym (position_from-zero (bytes_eq new) names) ∙ e) ∙ ap Some zero in
      sym last ∙ ap (λ n. position (bytes_eq n) (names ++ new ∷ [])) same
  by false h =
      position_from-zero (bytes_eq name) names ∙ sym (other_from name new (nat_list_eq_equiv.symm name new ∙ h) names 0) ∙ whole name
