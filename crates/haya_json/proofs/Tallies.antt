-- A name that comes once more, and all names that come in turn.
use Rattle.std.proofs.Common.{◌≡◌, ◌||◌, true≢false, ℕ, ◌+◌, Bool, true, false, cond, not, List, [], ◌∷◌, ◌++◌, None, Some, map, filter, refl, sym, ap, subst, ◌∙◌, append_assoc, zero-add, if◌then◌else◌, arith}
use Rattle.std.specs.Prelude.{String, string_bytes, unwrap_or, count_by}
use Rattle.std.specs.List.{AllByRecursion, IsDistinct, list_any}
use Rattle.std.specs.Map.{lookup}
use Rattle.std.specs.Str.{bytes_eq}
use Rattle.std.specs.String.{string_eq}
use Rattle.std.specs.Cmp.Lexicographic.{nat_list_eq_equiv}
use Rattle.std.proofs.lemmas.List.{append-nil}
use Rattle.std.proofs.lemmas.List.Elements.{filter-append}
use Rattle.std.proofs.lemmas.List.Sums.{sum_by-append}
use Rattle.std.proofs.lemmas.Slice.Eq.{bytes_eq-Decides}
use Rattle.indexmap.specs.IndexMap.{insert_entry}
use Rattle.haya_json.specs.Tally.{Counts, by_bytes, distinct, as_count, times, tally, count_of, counted, all_counted}

Name : Type 0
Name = List ℕ

-- a function of a choice
ap-cond : {X Y : Type 0} (f : X → Y) (b : Bool) (x y : X) → f (cond b x y) ≡ cond b (f x) (f y)
ap-cond f true x y = refl
ap-cond f false x y = refl

-- ---- a map with texts as its keys, by value

module _ {B : Type 0} where
  pub lookup-by_bytes : (name : List ℕ) (es : List (String B × ℕ)) → lookup (λ k. bytes_eq name (string_bytes k)) es ≡ lookup (bytes_eq name) (by_bytes es)
  lookup-by_bytes name [] = refl
  lookup-by_bytes name (e ∷ es) = rw (lookup-by_bytes name es) refl

  pub insert-by_bytes : (k : String B) (n : ℕ) (es : List (String B × ℕ)) → by_bytes (insert_entry string_eq es k n) ≡ insert_entry bytes_eq (by_bytes es) (string_bytes k) n
  insert-by_bytes k n [] = refl
  insert-by_bytes k n (e ∷ es) = rw (ap-cond by_bytes, insert-by_bytes k n es) refl

-- ---- names, each once

-- the name is none of these
Lacks : List ℕ → List (List ℕ) → Type 0
Lacks name names = AllByRecursion (λ other. bytes_eq name other ≡ false) names

same_name : (a b : List ℕ) → bytes_eq a b ≡ true → a ≡ b
same_name a b h = (bytes_eq-Decides a b).0 h

other_way : (a b : List ℕ) (x : Bool) → bytes_eq a b ≡ x → bytes_eq b a ≡ x
other_way a b x h = nat_list_eq_equiv.symm b a ∙ h

filtered_lacks : (name : List ℕ) (names : List (List ℕ)) → Lacks name (filter (λ other. not (bytes_eq name other)) names)
unfolding Lacks
filtered_lacks name [] = tt
filtered_lacks name (n ∷ names) = by (filtered_lacks name names) (bytes_eq name n) refl
  where
    by : Lacks name (filter (λ other. not (bytes_eq name other)) names) → (b : Bool) → bytes_eq name n ≡ b → Lacks name (cond (not b) (n ∷ filter (λ other. not (bytes_eq name other)) names) (filter (λ other. not (bytes_eq name other)) names))
    by rest true h = rest
    by rest false h = (h, rest)

still_lacks : (name : List ℕ) (p : List ℕ → Bool) (names : List (List ℕ)) → Lacks name names → Lacks name (filter p names)
unfolding Lacks
still_lacks name p [] h = tt
still_lacks name p (n ∷ names) h = by (still_lacks name p names h.1) (p n)
  where
    by : Lacks name (filter p names) → (b : Bool) → Lacks name (cond b (n ∷ filter p names) (filter p names))
    by rest true = (h.0, rest)
    by rest false = rest

still_distinct : (p : List ℕ → Bool) (names : List (List ℕ)) → IsDistinct bytes_eq names → IsDistinct bytes_eq (filter p names)
unfolding IsDistinct Lacks
still_distinct p [] h = tt
still_distinct p (n ∷ names) h = by (still_distinct p names h.1) (p n)
  where
    by : IsDistinct bytes_eq (filter p names) → (b : Bool) → IsDistinct bytes_eq (cond b (n ∷ filter p names) (filter p names))
    by rest true = (still_lacks n p names h.0, rest)
    by rest false = rest

distinct_is : (names : List (List ℕ)) → IsDistinct bytes_eq (distinct names)
unfolding IsDistinct Lacks
distinct_is [] = tt
distinct_is (n ∷ names) = (filtered_lacks n (distinct names), still_distinct (λ other. not (bytes_eq n other)) (distinct names) (distinct_is names))

-- a name is as before among those that aren't another
any_other : (name other : List ℕ) (names : List (List ℕ)) → bytes_eq name other ≡ false
    → list_any (bytes_eq name) (filter (λ n. not (bytes_eq other n)) names) ≡ list_any (bytes_eq name) names
any_other name other [] apart = refl
any_other name other (n ∷ names) apart = by (any_other name other names apart) (bytes_eq name n) refl (bytes_eq other n) refl
  where
    rest : List (List ℕ)
    rest = filter (λ m. not (bytes_eq other m)) names

    by : list_any (bytes_eq name) rest ≡ list_any (bytes_eq name) names → (a : Bool) → bytes_eq name n ≡ a → (b : Bool) → bytes_eq other n ≡ b
        → list_any (bytes_eq name) (cond (not (bytes_eq other n)) (n ∷ rest) rest) ≡ (bytes_eq name n || list_any (bytes_eq name) names)
    by same true is true of =
        absurd (true≢false (sym (other_way other n true of) ∙ sym (ap (λ x. bytes_eq x other) (same_name name n is)) ∙ apart))
    by same true is false of = rw (of, is) refl
    by same false is true of = rw (of, is) same
    by same false is false of = rw (of, is) same

any_distinct : (name : List ℕ) (names : List (List ℕ)) → list_any (bytes_eq name) (distinct names) ≡ list_any (bytes_eq name) names
any_distinct name [] = refl
any_distinct name (n ∷ names) = by (any_distinct name names) (bytes_eq name n) refl
  where
    by : list_any (bytes_eq name) (distinct names) ≡ list_any (bytes_eq name) names → (b : Bool) → bytes_eq name n ≡ b
        → (bytes_eq name n || list_any (bytes_eq name) (filter (λ other. not (bytes_eq n other)) (distinct names))) ≡ (bytes_eq name n || list_any (bytes_eq name) names)
    by same true is = rw is refl
    by same false is = rw (is, any_other name n (distinct names) is) same

-- a name that comes last is one more, but where it came before
distinct_more : (name : List ℕ) (names : List (List ℕ))
    → distinct (names ++ name ∷ []) ≡ distinct names ++ (if list_any (bytes_eq name) names then [] else name ∷ [])
distinct_more name [] = refl
distinct_more name (n ∷ names) = by (distinct_more name names) (bytes_eq name n) refl (list_any (bytes_eq name) names) refl
  where
    by : distinct (names ++ name ∷ []) ≡ distinct names ++ (if list_any (bytes_eq name) names then [] else name ∷ [])
        → (a : Bool) → bytes_eq name n ≡ a → (b : Bool) → list_any (bytes_eq name) names ≡ b
        → n ∷ filter (λ other. not (bytes_eq n other)) (distinct (names ++ name ∷ []))
        ≡ n ∷ (filter (λ other. not (bytes_eq n other)) (distinct names) ++ (if bytes_eq name n || list_any (bytes_eq name) names then [] else name ∷ []))
    by more true is true there =
        rw (is, more, there, append-nil (distinct names), append-nil (filter (λ other. not (bytes_eq n other)) (distinct names))) refl
    by more true is false there =
        rw (is, more, there, filter-append (λ other. not (bytes_eq n other)) (distinct names) (name ∷ []), other_way name n true is) refl
    by more false is true there =
        rw (is, there, more, there, append-nil (distinct names), append-nil (filter (λ other. not (bytes_eq n other)) (distinct names))) refl
    by more false is false there =
        rw (is, there, more, there, filter-append (λ other. not (bytes_eq n other)) (distinct names) (name ∷ []), other_way name n false is) refl

-- ---- counts

one_more : (name n : List ℕ) (names : List (List ℕ)) → count_by (bytes_eq name) (n ∷ names) ≡ cond (bytes_eq name n) 1 0 + count_by (bytes_eq name) names
one_more name n names =
    sum_by-append (λ x. cond (bytes_eq name x) 1 0) (n ∷ []) names ∙ ap (λ k. k + count_by (bytes_eq name) names) (zero-add (cond (bytes_eq name n) 1 0))

none_come : (name : List ℕ) (names : List (List ℕ)) → list_any (bytes_eq name) names ≡ false → count_by (bytes_eq name) names ≡ 0
none_come name [] h = refl
none_come name (n ∷ names) h = one_more name n names ∙ by (none_come name names) (bytes_eq name n) refl h
  where
    by : (list_any (bytes_eq name) names ≡ false → count_by (bytes_eq name) names ≡ 0) → (b : Bool) → bytes_eq name n ≡ b → (bytes_eq name n || list_any (bytes_eq name) names) ≡ false
        → cond (bytes_eq name n) 1 0 + count_by (bytes_eq name) names ≡ 0
    by rest true is h' = absurd (true≢false (sym (ap (λ c. c || list_any (bytes_eq name) names) is) ∙ h'))
    by rest false is h' = rw (is, rest (sym (ap (λ c. c || list_any (bytes_eq name) names) is) ∙ h')) refl

as_count_more : (n : ℕ) → as_count (as_count n + 1) ≡ as_count (n + 1)
as_count_more n = omega arith

times_more : (name other : List ℕ) (names : List (List ℕ)) → times other (names ++ name ∷ []) ≡ (if bytes_eq name other then as_count (times name names + 1) else times other names)
times_more name other names = by (bytes_eq name other) refl
  where
    joined : count_by (bytes_eq other) (names ++ name ∷ []) ≡ count_by (bytes_eq other) names + (0 + cond (bytes_eq other name) 1 0)
    joined = sum_by-append (λ x. cond (bytes_eq other x) 1 0) names (name ∷ [])

    by : (b : Bool) → bytes_eq name other ≡ b → times other (names ++ name ∷ []) ≡ (if bytes_eq name other then as_count (times name names + 1) else times other names)
    by true is = rw (joined, other_way name other true is, is, as_count_more) (ap (λ x. as_count (count_by (bytes_eq x) names + 1)) (sym (same_name name other is)))
    by false is = rw (joined, other_way name other false is, is) (omega arith)

looked_up : (f : List ℕ → ℕ) (name : List ℕ) (names : List (List ℕ)) → lookup (bytes_eq name) (map (λ n. (n, f n)) names) ≡ (if list_any (bytes_eq name) names then Some (f name) else None)
looked_up f name [] = refl
looked_up f name (n ∷ names) = by (looked_up f name names) (bytes_eq name n) refl
  where
    by : lookup (bytes_eq name) (map (λ m. (m, f m)) names) ≡ (if list_any (bytes_eq name) names then Some (f name) else None) → (b : Bool) → bytes_eq name n ≡ b
        → cond (bytes_eq name n) (Some (f n)) (lookup (bytes_eq name) (map (λ m. (m, f m)) names)) ≡ (if bytes_eq name n || list_any (bytes_eq name) names then Some (f name) else None)
    by rest true is = rw is (ap (λ x. Some (f x)) (sym (same_name name n is)))
    by rest false is = rw is rest

count_in_tally : (name : List ℕ) (names : List (List ℕ)) → count_of name (tally names) ≡ times name names
count_in_tally name names = by (list_any (bytes_eq name) names) refl
  where
    by : (b : Bool) → list_any (bytes_eq name) names ≡ b → unwrap_or (lookup (bytes_eq name) (map (λ n. (n, times n names)) (distinct names))) 0 ≡ times name names
    by true is = rw (looked_up (λ n. times n names) name (distinct names), any_distinct name names, is) refl
    by false is = rw (looked_up (λ n. times n names) name (distinct names), any_distinct name names, is) (sym (ap as_count (none_come name names is)))

-- names with a number each
with_numbers : (List ℕ → ℕ) → List (List ℕ) → Counts
with_numbers f [] = []
with_numbers f (n ∷ names) = (n, f n) ∷ with_numbers f names

with_numbers-map : (f : List ℕ → ℕ) (names : List (List ℕ)) → map (λ n. (n, f n)) names ≡ with_numbers f names
unfolding with_numbers
with_numbers-map f [] = refl
with_numbers-map f (n ∷ names) = ap (λ xs. (n, f n) ∷ xs) (with_numbers-map f names)

-- the number of one name is another
but_for : (List ℕ → ℕ) → List ℕ → ℕ → List ℕ → ℕ
but_for f name v n = if bytes_eq name n then v else f n

unchanged : (f : List ℕ → ℕ) (name : List ℕ) (v : ℕ) (names : List (List ℕ)) → Lacks name names → with_numbers f names ≡ with_numbers (but_for f name v) names
unfolding Lacks with_numbers but_for
unchanged f name v [] h = refl
unchanged f name v (n ∷ names) h = rw (h.0, unchanged f name v names h.1) refl

lacks_first : (name n : List ℕ) (names : List (List ℕ)) → bytes_eq name n ≡ true → IsDistinct bytes_eq (n ∷ names) → Lacks name names
unfolding Lacks IsDistinct
lacks_first name n names is d = subst (λ x. AllByRecursion (λ other. bytes_eq x other ≡ false) names) (sym (same_name name n is)) d.0

-- an insertion into a map of names that are distinct
inserted : (f : List ℕ → ℕ) (name : List ℕ) (v : ℕ) (names : List (List ℕ)) → IsDistinct bytes_eq names
    → insert_entry bytes_eq (with_numbers f names) name v
    ≡ with_numbers (but_for f name v) names ++ (if list_any (bytes_eq name) names then [] else (name, v) ∷ [])
unfolding with_numbers but_for IsDistinct
inserted f name v [] d = refl
inserted f name v (n ∷ names) d = by (inserted f name v names d.1) (bytes_eq name n) refl
  where
    by : insert_entry bytes_eq (with_numbers f names) name v ≡ with_numbers (but_for f name v) names ++ (if list_any (bytes_eq name) names then [] else (name, v) ∷ [])
        → (b : Bool) → bytes_eq name n ≡ b
        → (if bytes_eq name n then (n, v) ∷ with_numbers f names else (n, f n) ∷ insert_entry bytes_eq (with_numbers f names) name v)
        ≡ (n, (if bytes_eq name n then v else f n)) ∷ (with_numbers (but_for f name v) names ++ (if bytes_eq name n || list_any (bytes_eq name) names then [] else (name, v) ∷ []))
    by rest true is =
        rw (is, append-nil (with_numbers (but_for f name v) names), unchanged f name v names (lacks_first name n names is d)) refl
    by rest false is = rw (is, rest) refl

with_numbers-append : (f : List ℕ → ℕ) (xs ys : List (List ℕ)) → with_numbers f (xs ++ ys) ≡ with_numbers f xs ++ with_numbers f ys
unfolding with_numbers
with_numbers-append f [] ys = refl
with_numbers-append f (x ∷ xs) ys = ap (λ zs. (x, f x) ∷ zs) (with_numbers-append f xs ys)

with_numbers-same : (f g : List ℕ → ℕ) → ((n : List ℕ) → f n ≡ g n) → (names : List (List ℕ)) → with_numbers f names ≡ with_numbers g names
unfolding with_numbers
with_numbers-same f g same [] = refl
with_numbers-same f g same (n ∷ names) = rw (same n, with_numbers-same f g same names) refl

-- ---- the tally

counted_tally : (name : List ℕ) (names : List (List ℕ)) → counted name (tally names) ≡ tally (names ++ name ∷ [])
unfolding but_for with_numbers
counted_tally name names =
    ap (λ k. insert_entry bytes_eq (tally names) name (as_count (k + 1))) (count_in_tally name names)
    ∙ ap (λ t. insert_entry bytes_eq t name v) (with_numbers-map before (distinct names))
    ∙ inserted before name v (distinct names) (distinct_is names)
    ∙ ap (λ xs. xs ++ (if list_any (bytes_eq name) (distinct names) then [] else (name, v) ∷ [])) (with_numbers-same (but_for before name v) now (λ n. sym (times_more name n names)) (distinct names))
    ∙ ap (λ b. with_numbers now (distinct names) ++ (if b then [] else (name, v) ∷ [])) (any_distinct name names)
    ∙ ap (λ xs. with_numbers now (distinct names) ++ xs) (last (list_any (bytes_eq name) names))
    ∙ sym (with_numbers-append now (distinct names) (if list_any (bytes_eq name) names then [] else name ∷ []))
    ∙ ap (with_numbers now) (sym (distinct_more name names))
    ∙ sym (with_numbers-map now (distinct (names ++ name ∷ [])))
  where
    before : List ℕ → ℕ
    before n = times n names

    now : List ℕ → ℕ
    now n = times n (names ++ name ∷ [])

    v : ℕ
    v = as_count (times name names + 1)

    last : (b : Bool) → (if b then [] else (name, v) ∷ []) ≡ with_numbers now (if b then [] else name ∷ [])
    last true = refl
    last false = rw (times_more name name names, nat_list_eq_equiv.refl name) refl

-- names that are counted in turn
pub counted_in_turn : (more names : List (List ℕ)) → all_counted more (tally names) ≡ tally (names ++ more)
counted_in_turn [] names = ap tally (sym (append-nil names))
counted_in_turn (n ∷ more) names =
    ap (all_counted more) (counted_tally n names) ∙ counted_in_turn more (names ++ n ∷ []) ∙ ap tally (append_assoc names (n ∷ []) more)

-- some names, and then others
pub counted_together : (xs ys : List (List ℕ)) (counts : Counts) → all_counted (xs ++ ys) counts ≡ all_counted ys (all_counted xs counts)
counted_together [] ys counts = refl
counted_together (x ∷ xs) ys counts = counted_together xs ys (counted x counts)

pub counted_from_none : (names : List (List ℕ)) → all_counted names [] ≡ tally names
counted_from_none names = counted_in_turn names []
