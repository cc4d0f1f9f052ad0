-- Selectors that ask for one parent hold on a list where they hold at some parent; names change no answer.
use Rattle.std.proofs.Common.{◌≡◌, ℕ, ◌+◌, Bool, true, false, cond, List, [], ◌∷◌, Option, Some, None, refl, sym, ap, ◌∙◌}
use Rattle.std.specs.Prelude.{not, ◌||◌, ◌&&◌, is_some, map, option_map, position}
use Rattle.std.specs.Option.{option_or}
use Rattle.std.specs.List.{list_any}
use Rattle.haya_text.proofs.Tells.{and-both}
use Rattle.haya_entry.specs.Names.{is_of_type}
use Rattle.haya_entry.specs.Tree.{Tree, parents}
use Rattle.haya_assignment.specs.Assignment.{least}
use Rattle.haya_selectors.specs.Holds.{holds, some_holds, candidates, first_candidates, first_place, table_of}
use Rattle.haya_selectors.specs.ParentSide.{asks_one_parent, all_ask_one_parent, HoldsAtSomeParent, HoldsAtNoParent, without_names, all_without_names, lists_have_no_names, all_lists_have_no_names, has_no_names, all_have_no_names, NamesChangeNoAnswer}
use Rattle.haya_selectors.specs.Syntax.{Syntax, Wildcard, Entry, Neg, Binding, Attr, Alt, Multi, Ancestrage, Syntaxes, none, more}
use Rattle.haya_selectors.proofs.Walks.{position-cons}
use Rattle.haya_selectors.proofs.Options.{is_some-map}
use Rattle.haya_selectors.proofs.InWords.{all-names, candidates-stands, list_any-same}

list_any-never : {A : Type 0} (xs : List A) → list_any (λ x. false) xs ≡ false
list_any-never [] = refl
list_any-never (x ∷ xs) = list_any-never xs

or-swap : (a b c d : Bool) → ((a || b) || (c || d)) ≡ ((a || c) || (b || d))
or-swap true b c d = refl
or-swap false true true d = refl
or-swap false true false d = refl
or-swap false false c d = refl

list_any-or : {A : Type 0} (p q : A → Bool) (xs : List A) → (list_any p xs || list_any q xs) ≡ list_any (λ x. p x || q x) xs
list_any-or p q [] = refl
list_any-or p q (x ∷ xs) = or-swap (p x) (list_any p xs) (q x) (list_any q xs) ∙ ap (λ b. (p x || q x) || b) (list_any-or p q xs)

or-some : {A : Type 0} (o p : Option A) → is_some (option_or o p) ≡ (is_some o || is_some p)
or-some None p = refl
or-some (Some a) p = refl

position-some : {A : Type 0} (p : A → Bool) (xs : List A) → is_some (position p xs) ≡ list_any p xs
position-some p [] = refl
position-some p (x ∷ xs) = rw (position-cons p x xs)
    (elim (p x) as (λ b. is_some (cond b (Some 0) (option_map (λ j. 1 + j) (position p xs))) ≡ (b || list_any p xs)) [ true ↦ refl | false ↦ is_some-map _ (position p xs) ∙ position-some p xs ])

first-some : (test : Tree → Bool) (xs : List Tree) → is_some (first_place test xs) ≡ list_any test xs
first-some test xs = is_some-map _ (position test xs) ∙ position-some test xs

mutual
  candidates-some : (r : Syntax) (xs : List Tree) → asks_one_parent r ≡ true → is_some (candidates r xs) ≡ list_any (holds r) xs
  candidates-some Wildcard xs h = candidates-stands Wildcard xs
  candidates-some (Entry t) xs h = first-some (is_of_type t) xs
  candidates-some (Binding n s) xs h = is_some-map _ (candidates s xs) ∙ candidates-some s xs h
  candidates-some (Attr Wildcard names) xs h =
      candidates-stands (Attr Wildcard names) xs ∙ list_any-same {q = holds (Attr Wildcard names)} (λ x. sym (all-names names x)) xs
  candidates-some (Alt ss) xs h = first_candidates-some ss xs h
  candidates-some (Ancestrage l r) xs h = first-some (λ x. holds l x && is_some (candidates r (parents x))) xs
  candidates-some (Neg s) xs h = absurd (cc)
  candidates-some (Multi ss) xs h = absurd (cc)
  candidates-some (Attr (Entry t) names) xs h = absurd (cc)
  candidates-some (Attr (Neg s) names) xs h = absurd (cc)
  candidates-some (Attr (Binding n s) names) xs h = absurd (cc)
  candidates-some (Attr (Attr s ns) names) xs h = absurd (cc)
  candidates-some (Attr (Alt ss) names) xs h = absurd (cc)
  candidates-some (Attr (Multi ss) names) xs h = absurd (cc)
  candidates-some (Attr (Ancestrage l r) names) xs h = absurd (cc)

  first_candidates-some : (ss : Syntaxes) (xs : List Tree) → all_ask_one_parent ss ≡ true → is_some (first_candidates ss xs) ≡ list_any (some_holds ss) xs
  first_candidates-some none xs h = sym (list_any-never xs)
  first_candidates-some (more s ss) xs h =
      let both = and-both (asks_one_parent s) (all_ask_one_parent ss) h in
      or-some (candidates s xs) (first_candidates ss xs) ∙ rw (candidates-some s xs both.0, first_candidates-some ss xs both.1) (list_any-or (holds s) (some_holds ss) xs)

abbrev unless : Bool → Option (List ℕ)
unless b = cond b None (Some [])

not-some : (b : Bool) → is_some (unless b) ≡ not b
not-some true = refl
not-some false = refl

pub holds_at_some_parent : HoldsAtSomeParent
holds_at_some_parent l r x h = ap (λ b. holds l x && b) (candidates-some r (parents x) h)

pub holds_at_no_parent : HoldsAtNoParent
holds_at_no_parent l r x h =
    ap (λ b. holds l x && b) (not-some (is_some (candidates r (parents x))) ∙ ap not (candidates-some r (parents x) h))

mutual
  without-names : (s : Syntax) → has_no_names s ≡ true → without_names s ≡ s
  without-names Wildcard h = refl
  without-names (Entry t) h = refl
  without-names (Neg s) h = ap (λ s. Neg s) (without-names s h)
  without-names (Binding n s) h = absurd (cc)
  without-names (Attr s names) h = ap (λ s. Attr s names) (without-names s h)
  without-names (Alt ss) h = ap (λ ss. Alt ss) (all-without-names ss h)
  without-names (Multi ss) h = ap (λ ss. Multi ss) (all-without-names ss h)
  without-names (Ancestrage l r) h =
      let both = and-both (has_no_names l) (has_no_names r) h in
      rw (without-names l both.0, without-names r both.1) refl

  all-without-names : (ss : Syntaxes) → all_have_no_names ss ≡ true → all_without_names ss ≡ ss
  all-without-names none h = refl
  all-without-names (more s ss) h =
      let both = and-both (has_no_names s) (all_have_no_names ss) h in
      rw (without-names s both.0, all-without-names ss both.1) refl

map-same : {X Y : Type 0} {f g : X → Y} (same : (x : X) → f x ≡ g x) (xs : List X) → map f xs ≡ map g xs
map-same same [] = refl
map-same same (x ∷ xs) = rw (same x, map-same same xs) refl

mutual
  holds-same : (s : Syntax) (x : Tree) → lists_have_no_names s ≡ true → holds (without_names s) x ≡ holds s x
  holds-same Wildcard x h = refl
  holds-same (Entry t) x h = refl
  holds-same (Neg s) x h = ap not (holds-same s x h)
  holds-same (Binding n s) x h = holds-same s x h
  holds-same (Attr s names) x h = ap (λ s. holds (Attr s names) x) (without-names s h)
  holds-same (Alt ss) x h = some_holds-same ss x h
  holds-same (Multi ss) x h = refl
  holds-same (Ancestrage l r) x h =
      let both = and-both (lists_have_no_names l) (lists_have_no_names r) h in
      rw (holds-same l x both.0, candidates-same r (parents x) both.1) refl

  some_holds-same : (ss : Syntaxes) (x : Tree) → all_lists_have_no_names ss ≡ true → some_holds (all_without_names ss) x ≡ some_holds ss x
  some_holds-same none x h = refl
  some_holds-same (more s ss) x h =
      let both = and-both (lists_have_no_names s) (all_lists_have_no_names ss) h in
      rw (holds-same s x both.0, some_holds-same ss x both.1) refl

  candidates-same : (s : Syntax) (xs : List Tree) → lists_have_no_names s ≡ true → is_some (candidates (without_names s) xs) ≡ is_some (candidates s xs)
  candidates-same Wildcard xs h = refl
  candidates-same (Entry t) xs h = refl
  candidates-same (Neg s) xs h =
      not-some (is_some (candidates (without_names s) xs)) ∙ ap not (candidates-same s xs h) ∙ sym (not-some (is_some (candidates s xs)))
  candidates-same (Binding n s) xs h = candidates-same s xs h ∙ sym (is_some-map (λ _. []) (candidates s xs))
  candidates-same (Attr s names) xs h = ap (λ s. is_some (candidates (Attr s names) xs)) (without-names s h)
  candidates-same (Alt ss) xs h = first_candidates-same ss xs h
  candidates-same (Multi ss) xs h = ap (λ table. is_some (least table)) (table-same ss xs h)
  candidates-same (Ancestrage l r) xs h =
      let both = and-both (lists_have_no_names l) (lists_have_no_names r) h in
      first-some _ xs
      ∙ list_any-same {q = λ x. holds l x && is_some (candidates r (parents x))} (λ x. rw (holds-same l x both.0, candidates-same r (parents x) both.1) refl) xs
      ∙ sym (first-some _ xs)

  first_candidates-same : (ss : Syntaxes) (xs : List Tree) → all_lists_have_no_names ss ≡ true → is_some (first_candidates (all_without_names ss) xs) ≡ is_some (first_candidates ss xs)
  first_candidates-same none xs h = refl
  first_candidates-same (more s ss) xs h =
      let both = and-both (lists_have_no_names s) (all_lists_have_no_names ss) h in
      or-some (candidates (without_names s) xs) (first_candidates (all_without_names ss) xs)
      ∙ rw (candidates-same s xs both.0, first_candidates-same ss xs both.1) (sym (or-some (candidates s xs) (first_candidates ss xs)))

  table-same : (ss : Syntaxes) (xs : List Tree) → all_lists_have_no_names ss ≡ true → table_of (all_without_names ss) xs ≡ table_of ss xs
  table-same none xs h = refl
  table-same (more s ss) xs h =
      let both = and-both (lists_have_no_names s) (all_lists_have_no_names ss) h in
      rw (map-same (λ x. holds-same s x both.0) xs, table-same ss xs both.1) refl

pub names_change_no_answer : NamesChangeNoAnswer
names_change_no_answer = holds-same
