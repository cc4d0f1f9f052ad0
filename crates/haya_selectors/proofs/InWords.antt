-- A selector holds, and binds its names, as its words say.
use Rattle.std.proofs.Common.{◌≡◌, ℕ, suc, ◌+◌, Bool, true, false, cond, List, [], ◌∷◌, ◌++◌, Option, Some, None, length, refl, sym, ap, subst, ◌∙◌, arith, drop}
use Rattle.std.specs.Prelude.{⊤, not, ◌||◌, ◌&&◌, ◌==◌, filter, find, is_some, map, option_and_then, option_map, position, reverse, slice_get, unwrap_or}
use Rattle.std.specs.List.{AllZip, list_any, range_with_len}
use Rattle.std.specs.Option.{option_map_or, option_or}
use Rattle.std.specs.Str.{bytes_eq}
use Rattle.std.proofs.Math.Bool.{and-true}
use Rattle.std.proofs.lemmas.List.{map-append, reverse-append}
use Rattle.haya_text.proofs.Tells.{and-both}
use Rattle.haya_entry.specs.Names.{is_of_type, has_all, has_name}
use Rattle.haya_entry.specs.Tree.{Tree, at, at_list, parents}
use Rattle.haya_assignment.specs.Assignment.{not_taken}
use Rattle.haya_selectors.specs.Binds.{Pairs, binds, binds_on, bound_to, each_binds, first_binds, first_binds_on, last_of, pair_of_first, pairs_at}
use Rattle.haya_selectors.specs.Evaluation.{pair_entries}
use Rattle.haya_selectors.specs.Holds.{holds, some_holds, candidates, first_candidates, kept_places, some_places, table_of}
use Rattle.haya_selectors.specs.InWords.{has_names, some_entries, with_names, first_entry, choices, first_choice, or_before, picks, some_picks, stands, some_stands, each_stands, candidate_entries, first_entries, each_entry, first_candidate, candidate_of_first, binds_name, some_binds_name, at_entry, within, at_first, entry_called, called_by_first, parent_called, parent_called_by_first, each_called, named_entry}
use Rattle.haya_selectors.specs.Places.{places, at_place}
use Rattle.haya_selectors.specs.Syntax.{Syntax, Wildcard, Entry, Neg, Binding, Attr, Alt, Multi, Ancestrage, Syntaxes, none, more}
use Rattle.haya_selectors.proofs.Choices.{Apart, Distinct, first_some, itself, least_beside, least_beside-cons, not_taken-distinct, not_taken-more, not_taken-true, other_way, without-apart}
use Rattle.haya_selectors.proofs.Walks.{at_drop, filter_of_all, position-cons}
use Rattle.haya_selectors.proofs.Lasts.{last_of-second}
use Rattle.haya_selectors.proofs.Options.{is_some-map}
use Rattle.haya_selectors.proofs.Paths.{resolved_led, resolved_on}

-- ---- equal tests
pub list_any-same : {A : Type 0} {p q : A → Bool} (same : (a : A) → p a ≡ q a) (xs : List A) → list_any p xs ≡ list_any q xs
list_any-same same [] = refl
list_any-same same (x ∷ xs) = rw (same x, list_any-same same xs) refl

pub find-same : {A : Type 0} {p q : A → Bool} (same : (a : A) → p a ≡ q a) (xs : List A) → find p xs ≡ find q xs
find-same same [] = refl
find-same same (x ∷ xs) = rw (same x, find-same same xs) refl

pub all-names : (names : List (List ℕ)) (x : Tree) → has_all names x ≡ has_names names x
all-names [] x = refl
all-names (n ∷ []) x = and-true (has_name x n)
all-names (n ∷ m ∷ names) x = ap (λ b. has_name x n && b) (all-names (m ∷ names) x)

find-some : {A : Type 0} (p : A → Bool) (xs : List A) → is_some (find p xs) ≡ list_any p xs
find-some p [] = refl
find-some p (x ∷ xs) = elim (p x) as (λ b. is_some (cond b (Some x) (find p xs)) ≡ (b || list_any p xs)) [ true ↦ refl | false ↦ find-some p xs ]

find-passes : {A : Type 0} (p : A → Bool) (xs : List A) (a : A) → find p xs ≡ Some a → p a ≡ true
find-passes p [] a e = absurd (cc)
find-passes p (x ∷ xs) a e =
    (elim (p x) as (λ b. p x ≡ b → cond b (Some x) (find p xs) ≡ Some a → p a ≡ true) [
      | true ↦ λ h k. let same : x ≡ a = cc in rw (← same) h
      | false ↦ λ h k. find-passes p xs a k
    ]) refl e

find-filter : (q : Tree → Bool) (xs : List Tree) → first_entry (some_entries (filter q xs)) ≡ find q xs
find-filter q [] = refl
find-filter q (x ∷ xs) = elim (q x) as (λ b. first_entry (some_entries (cond b (x ∷ filter q xs) (filter q xs))) ≡ cond b (Some x) (find q xs)) [ true ↦ refl | false ↦ find-filter q xs ]

-- ---- places, and the entries that stand there
module _ (xs : List Tree) where
  abbrev pub Stand : List ℕ → List Tree → Type 0
  Stand [] [] = ⊤
  Stand (i ∷ is) (e ∷ es) = (slice_get xs i ≡ Some e) × Stand is es
  Stand (i ∷ is) [] = ⊥
  Stand [] (e ∷ es) = ⊥

  abbrev pub StandOr : Option (List ℕ) → Option (List Tree) → Type 0
  StandOr None None = ⊤
  StandOr (Some is) (Some es) = Stand is es
  StandOr (Some is) None = ⊥
  StandOr None (Some es) = ⊥

  abbrev pub StandsOr : Option ℕ → Option Tree → Type 0
  StandsOr None None = ⊤
  StandsOr (Some i) (Some e) = slice_get xs i ≡ Some e
  StandsOr (Some i) None = ⊥
  StandsOr None (Some e) = ⊥

  pub same-some : (o : Option (List ℕ)) (p : Option (List Tree)) → StandOr o p → is_some o ≡ is_some p
  same-some None None h = refl
  same-some (Some is) (Some es) h = refl
  same-some (Some is) None h = absurd h
  same-some None (Some es) h = absurd h

  filter-stands : (names : List (List ℕ)) (is : List ℕ) (es : List Tree) → Stand is es → Stand (filter (at_place false (has_all names) xs) is) (filter (has_names names) es)
  filter-stands names [] [] h = tt
  filter-stands names [] (e ∷ es) h = absurd h
  filter-stands names (i ∷ is) [] h = absurd h
  filter-stands names (i ∷ is) (e ∷ es) h =
      rw (h.0, all-names names e) (elim (has_names names e) as (λ b. Stand (cond b (i ∷ filter (at_place false (has_all names) xs) is) (filter (at_place false (has_all names) xs) is)) (cond b (e ∷ filter (has_names names) es) (filter (has_names names) es))) [
        | true ↦ (h.0, filter-stands names is es h.1)
        | false ↦ filter-stands names is es h.1
      ])

  some-stands : (is : List ℕ) (es : List Tree) → Stand is es → StandOr (some_places is) (some_entries es)
  some-stands [] [] h = tt
  some-stands [] (e ∷ es) h = absurd h
  some-stands (i ∷ is) [] h = absurd h
  some-stands (i ∷ is) (e ∷ es) h = h

  kept-stands : (names : List (List ℕ)) (o : Option (List ℕ)) (p : Option (List Tree)) → StandOr o p → StandOr (option_and_then (kept_places names xs) o) (option_and_then (with_names names) p)
  kept-stands names None None h = tt
  kept-stands names (Some []) (Some []) h = tt
  kept-stands names (Some (i ∷ is)) (Some (e ∷ es)) h = some-stands _ _ (filter-stands names (i ∷ is) (e ∷ es) h)
  kept-stands names (Some []) (Some (e ∷ es)) h = absurd h
  kept-stands names (Some (i ∷ is)) (Some []) h = absurd h
  kept-stands names (Some is) None h = absurd h
  kept-stands names None (Some es) h = absurd h

  named-stands : (o : Option (List ℕ)) (p : Option (List Tree)) → StandOr o p → StandOr (option_map (λ _. []) o) (option_map (λ _. []) p)
  named-stands None None h = tt
  named-stands (Some is) (Some es) h = tt
  named-stands (Some is) None h = absurd h
  named-stands None (Some es) h = absurd h

  or-stands : (o o' : Option (List ℕ)) (p p' : Option (List Tree)) → StandOr o p → StandOr o' p' → StandOr (option_or o o') (option_or p p')
  or-stands None o' None p' h k = k
  or-stands (Some is) o' (Some es) p' h k = h
  or-stands (Some is) o' None p' h k = absurd h
  or-stands None o' (Some es) p' h k = absurd h

  one-stands : (o : Option ℕ) (p : Option Tree) → StandsOr o p → StandOr (option_map (λ i. i ∷ []) o) (option_map (λ x. x ∷ []) p)
  one-stands None None h = tt
  one-stands (Some i) (Some e) h = (h, tt)
  one-stands (Some i) None h = absurd h
  one-stands None (Some e) h = absurd h

-- all places, with all entries
stand_from : (ys : List Tree) (k : ℕ) (xs : List Tree) → drop k ys ≡ xs → Stand ys (range_with_len k (length xs)) xs
stand_from ys k [] e = tt
stand_from ys k (x ∷ xs) e = let h = at_drop ys k x xs e in (h.0, stand_from ys (k + 1) xs h.1)

all-stand : (xs : List Tree) → Stand xs (not_taken [] (places xs)) xs
all-stand xs = rw (filter_of_all (places xs)) (stand_from xs 0 xs refl)

later-stands : (x : Tree) (xs : List Tree) (o : Option ℕ) (p : Option Tree) → StandsOr xs o p → StandsOr (x ∷ xs) (option_map (λ j. 1 + j) o) p
later-stands x xs None None h = tt
later-stands x xs (Some i) (Some e) h = let next : 1 + i ≡ suc i = omega arith in rw next h
later-stands x xs (Some i) None h = absurd h
later-stands x xs None (Some e) h = absurd h

first-stands : (xs : List Tree) (test : Tree → Bool) → StandsOr xs (position test xs) (find test xs)
first-stands [] test = tt
first-stands (x ∷ xs) test = rw (position-cons test x xs)
    (elim (test x) as (λ b. StandsOr (x ∷ xs) (cond b (Some 0) (option_map (λ j. 1 + j) (position test xs))) (cond b (Some x) (find test xs))) [
      | true ↦ refl
      | false ↦ later-stands x xs (position test xs) (find test xs) (first-stands xs test)
    ])

-- ---- choosing an entry
zip-weaker : {A B : Type 0} {R S : A → B → Type 0} (weaker : (a : A) (b : B) → R a b → S a b) (xs : List A) (ys : List B) → AllZip R xs ys → AllZip S xs ys
zip-weaker weaker [] [] h = tt
zip-weaker weaker [] (y ∷ ys) h = absurd h
zip-weaker weaker (x ∷ xs) [] h = absurd h
zip-weaker weaker (x ∷ xs) (y ∷ ys) h = (weaker x y h.0, zip-weaker weaker xs ys h.1)

module _ (xs : List Tree) where
  -- a place, and an entry beside the others: those at the places but this one
  abbrev IsChoice : List ℕ → ℕ → Tree × List Tree → Type 0
  IsChoice is k c = (slice_get xs k ≡ Some c.0) × Stand xs (filter (λ j. not (k == j)) is) c.1

  more-choices : (i : ℕ) (e : Tree) (is : List ℕ) → slice_get xs i ≡ Some e → (ks : List ℕ) (cs : List (Tree × List Tree)) → Apart i ks → AllZip (IsChoice is) ks cs
      → AllZip (IsChoice (i ∷ is)) ks (map (λ c. (c.0, e ∷ c.1)) cs)
  more-choices i e is h [] [] a z = tt
  more-choices i e is h [] (c ∷ cs) a z = absurd z
  more-choices i e is h (k ∷ ks) [] a z = absurd z
  more-choices i e is h (k ∷ ks) (c ∷ cs) a z = (rw (other_way i k a.0) (z.0.0, (h, z.0.1)), more-choices i e is h ks cs a.1 z.1)

  -- each place with the choice of its entry
  stand-choices : (is : List ℕ) (es : List Tree) → Distinct is → Stand xs is es → AllZip (IsChoice is) is (choices es)
  stand-choices [] [] d h = tt
  stand-choices [] (e ∷ es) d h = absurd h
  stand-choices (i ∷ is) [] d h = absurd h
  stand-choices (i ∷ is) (e ∷ es) d h =
      (rw (itself i, without-apart i is d.0) (h.0, h.1), more-choices i e is h.0 is (choices es) d.0 (stand-choices is es d.1 h.1))

  -- the same where places are taken
  taken-choices : (taken : List ℕ) (left : List Tree) → Stand xs (not_taken taken (places xs)) left
      → AllZip (λ k c. (slice_get xs k ≡ Some c.0) × Stand xs (not_taken (k ∷ taken) (places xs)) c.1) (not_taken taken (places xs)) (choices left)
  taken-choices taken left h =
      zip-weaker (λ k c z. (z.0, rw (not_taken-more taken k (places xs)) z.1)) (not_taken taken (places xs)) (choices left)
      (stand-choices (not_taken taken (places xs)) left (not_taken-distinct taken xs) h)

  -- the first choice of an entry that passes, with what the others then get
  module _ (p q : Tree → Bool) (same : (x : Tree) → p x ≡ q x) (g : ℕ → Option (List ℕ)) (others : List Tree → Option (List Tree)) (passes : List Tree → Bool)
      (some : (ys : List Tree) → is_some (others ys) ≡ passes ys) where
    abbrev with_place : ℕ → Option (List ℕ)
    with_place k = option_map (λ js. k ∷ js) (g k)

    abbrev with_entry : Tree × List Tree → Option (List Tree)
    with_entry c = option_map (λ ys. c.0 ∷ ys) (others c.1)

    this-or-later : (k : ℕ) (c : Tree × List Tree) → slice_get xs k ≡ Some c.0 → (o : Option (List ℕ)) (e : Option (List Tree)) → others c.1 ≡ e → StandOr xs o e
        → (later : Option (List ℕ)) (later_choice : Option (Tree × List Tree)) → StandOr xs later (option_and_then with_entry later_choice)
        → StandOr xs (option_or (option_map (λ js. k ∷ js) o) later) (option_and_then with_entry (cond (is_some e) (Some c) later_choice))
    this-or-later k c there None None t h later later_choice rest = rest
    this-or-later k c there (Some js) (Some es) t h later later_choice rest = rw t (there, h)
    this-or-later k c there (Some js) None t h later later_choice rest = absurd h
    this-or-later k c there None (Some es) t h later later_choice rest = absurd h

    first-choice-stand : (is : List ℕ) (cs : List (Tree × List Tree)) → AllZip (λ k c. (slice_get xs k ≡ Some c.0) × StandOr xs (g k) (others c.1)) is cs
        → StandOr xs (first_some with_place (filter (at_place false p xs) is)) (option_and_then with_entry (find (λ c. q c.0 && passes c.1) cs))
    first-choice-stand [] [] z = tt
    first-choice-stand [] (c ∷ cs) z = absurd z
    first-choice-stand (k ∷ is) [] z = absurd z
    first-choice-stand (k ∷ is) (c ∷ cs) z =
        let later = first_some with_place (filter (at_place false p xs) is) in
        let later_choice = find (λ c. q c.0 && passes c.1) cs in
        let rest = first-choice-stand is cs z.1 in
        rw (z.0.0, same c.0)
        (elim (q c.0) as (λ b. StandOr xs (first_some with_place (cond b (k ∷ filter (at_place false p xs) is) (filter (at_place false p xs) is))) (option_and_then with_entry (cond (b && passes c.1) (Some c) later_choice))) [
          | true ↦ rw (← some c.1) (this-or-later k c z.0.0 (g k) (others c.1) refl z.0.1 later later_choice rest)
          | false ↦ rest
        ])

-- ---- the words alone
or-some : {A : Type 0} (o p : Option A) → is_some (option_or o p) ≡ (is_some o || is_some p)
or-some None p = refl
or-some (Some a) p = refl

or-nothing : (b : Bool) → (b || false) ≡ b
or-nothing true = refl
or-nothing false = refl

not-some : {A : Type 0} (b : Bool) (a : A) → is_some (cond b None (Some a)) ≡ not b
not-some true a = refl
not-some false a = refl

filter-some : (p : Tree → Bool) (xs : List Tree) → is_some (some_entries (filter p xs)) ≡ list_any p xs
filter-some p [] = refl
filter-some p (x ∷ xs) = elim (p x) as (λ b. is_some (some_entries (cond b (x ∷ filter p xs) (filter p xs))) ≡ (b || list_any p xs)) [ true ↦ refl | false ↦ filter-some p xs ]

any-some : (xs : List Tree) → is_some (some_entries xs) ≡ list_any (λ x. true) xs
any-some [] = refl
any-some (x ∷ xs) = refl

module _ (names : List (List ℕ)) where
  with-any : (xs : List Tree) → is_some (option_and_then (with_names names) (some_entries xs)) ≡ list_any (has_names names) xs
  with-any [] = refl
  with-any (x ∷ xs) = filter-some (has_names names) (x ∷ xs)

  with-one : (o : Option Tree) → is_some (option_and_then (with_names names) (option_map (λ x. x ∷ []) o)) ≡ option_map_or (has_names names) o false
  with-one None = refl
  with-one (Some x) = elim (has_names names x) as (λ b. is_some (some_entries (cond b (x ∷ []) [])) ≡ b) [ true ↦ refl | false ↦ refl ]

  with-not : (b : Bool) → is_some (option_and_then (with_names names) (cond b None (Some []))) ≡ not b
  with-not true = refl
  with-not false = refl

  with-named : (o : Option (List Tree)) → is_some (option_and_then (with_names names) (option_map (λ _. []) o)) ≡ is_some o
  with-named None = refl
  with-named (Some xs) = refl

  first-with-any : (xs : List Tree) → first_entry (option_and_then (with_names names) (some_entries xs)) ≡ find (has_names names) xs
  first-with-any [] = refl
  first-with-any (x ∷ xs) = find-filter (has_names names) (x ∷ xs)

  first-with-one : (o : Option Tree) → first_entry (option_and_then (with_names names) (option_map (λ x. x ∷ []) o)) ≡ option_and_then (λ x. cond (has_names names x) (Some x) None) o
  first-with-one None = refl
  first-with-one (Some x) = elim (has_names names x) as (λ b. first_entry (some_entries (cond b (x ∷ []) [])) ≡ cond b (Some x) None) [ true ↦ refl | false ↦ refl ]

-- what is made of the first that passes, where something is made of each that does
made-some : {C Y : Type 0} (h : C → Option Y) (test : C → Bool) → ((c : C) → test c ≡ true → is_some (h c) ≡ true) → (cs : List C) → is_some (option_and_then h (find test cs)) ≡ list_any test cs
made-some h test made [] = refl
made-some h test made (c ∷ cs) =
    (elim (test c) as (λ b. test c ≡ b → is_some (option_and_then h (cond b (Some c) (find test cs))) ≡ (b || list_any test cs)) [
      | true ↦ λ e. made c e
      | false ↦ λ e. made-some h test made cs
    ]) refl

each_entry-some : (ss : Syntaxes) (xs : List Tree) → is_some (each_entry ss xs) ≡ each_stands ss xs
each_entry-some none xs = refl
each_entry-some (more s none) xs = is_some-map _ (find (picks s) xs) ∙ find-some (picks s) xs
each_entry-some (more s (more t ss)) xs =
    made-some (λ c. option_map (λ ys. c.0 ∷ ys) (each_entry (more t ss) c.1)) (λ c. picks s c.0 && each_stands (more t ss) c.1)
    (λ c e. is_some-map _ (each_entry (more t ss) c.1) ∙ each_entry-some (more t ss) c.1 ∙ (and-both (picks s c.0) (each_stands (more t ss) c.1) e).1) (choices xs)

-- a member that is the last takes the first entry where it holds
abbrev chosen : List (Tree × List Tree) → List Tree
chosen cs = map (λ (c : Tree × List Tree). c.0) cs

map-choices : (e : Tree) (cs : List (Tree × List Tree)) → chosen (map (λ c. (c.0, e ∷ c.1)) cs) ≡ chosen cs
map-choices e [] = refl
map-choices e (c ∷ cs) = ap (λ xs. c.0 ∷ xs) (map-choices e cs)

choices-first : (xs : List Tree) → chosen (choices xs) ≡ xs
choices-first [] = refl
choices-first (x ∷ xs) = ap (λ ys. x ∷ ys) (map-choices x (choices xs) ∙ choices-first xs)

last-choice : (p : Tree → Bool) (cs : List (Tree × List Tree)) → option_map (λ x. x ∷ []) (find p (chosen cs)) ≡ option_and_then (λ c. Some (c.0 ∷ [])) (find (λ c. p c.0 && true) cs)
last-choice p [] = refl
last-choice p (c ∷ cs) =
    elim (p c.0) as (λ b. option_map (λ x. x ∷ []) (cond b (Some c.0) (find p (chosen cs))) ≡ option_and_then (λ c. Some (c.0 ∷ [])) (cond (b && true) (Some c) (find (λ c. p c.0 && true) cs))) [
      | true ↦ refl
      | false ↦ last-choice p cs
    ]

each_entry-more : (s : Syntax) (ss : Syntaxes) (xs : List Tree)
    → each_entry (more s ss) xs ≡ option_and_then (λ c. option_map (λ ys. c.0 ∷ ys) (each_entry ss c.1)) (first_choice (picks s) (each_stands ss) xs)
each_entry-more s none xs = ap (λ ys. option_map (λ x. x ∷ []) (find (picks s) ys)) (sym (choices-first xs)) ∙ last-choice (picks s) (choices xs)
each_entry-more s (more t ss) xs = refl

mutual
  entries-some : (s : Syntax) (xs : List Tree) → is_some (candidate_entries s xs) ≡ stands s xs
  entries-some Wildcard xs = any-some xs
  entries-some (Entry t) xs = is_some-map _ (find (is_of_type t) xs) ∙ find-some (is_of_type t) xs
  entries-some (Neg s) xs = not-some (stands s xs) []
  entries-some (Binding n s) xs = is_some-map _ (candidate_entries s xs) ∙ entries-some s xs
  entries-some (Attr Wildcard names) xs = with-any names xs
  entries-some (Attr (Entry t) names) xs = with-one names (find (is_of_type t) xs)
  entries-some (Attr (Neg s) names) xs = with-not names (stands s xs)
  entries-some (Attr (Binding n s) names) xs = with-named names (candidate_entries s xs) ∙ entries-some s xs
  entries-some (Attr (Ancestrage l r) names) xs = with-one names (find (λ x. picks l x && stands r (parents x)) xs)
  entries-some (Attr s names) xs = refl
  entries-some (Alt ss) xs = first_entries-some ss xs
  entries-some (Multi ss) xs = each_entry-some ss xs
  entries-some (Ancestrage l r) xs = let test = λ (x : Tree). picks l x && stands r (parents x) in is_some-map _ (find test xs) ∙ find-some test xs

  first_entries-some : (ss : Syntaxes) (xs : List Tree) → is_some (first_entries ss xs) ≡ some_stands ss xs
  first_entries-some none xs = refl
  first_entries-some (more s none) xs = or-some (candidate_entries s xs) None ∙ or-nothing (is_some (candidate_entries s xs)) ∙ entries-some s xs
  first_entries-some (more s (more t ss)) xs =
      or-some (candidate_entries s xs) (first_entries (more t ss) xs) ∙ rw (entries-some s xs, first_entries-some (more t ss) xs) refl

first-one : (o : Option Tree) → first_entry (option_map (λ x. x ∷ []) o) ≡ o
first-one None = refl
first-one (Some x) = refl

first-any : (xs : List Tree) → first_entry (some_entries xs) ≡ find (λ x. true) xs
first-any [] = refl
first-any (x ∷ xs) = refl

or-first : (o p : Option (List Tree)) → first_entry (option_or o p) ≡ cond (is_some o) (first_entry o) (first_entry p)
or-first None p = refl
or-first (Some xs) p = refl

or-no_more : (o : Option (List Tree)) → option_or o None ≡ o
or-no_more None = refl
or-no_more (Some xs) = refl

mutual
  entries-first : (s : Syntax) (xs : List Tree) → first_entry (candidate_entries s xs) ≡ first_candidate s xs
  entries-first Wildcard xs = first-any xs
  entries-first (Entry t) xs = first-one (find (is_of_type t) xs)
  entries-first (Attr Wildcard names) xs = first-with-any names xs
  entries-first (Attr (Entry t) names) xs = first-with-one names (find (is_of_type t) xs)
  entries-first (Alt ss) xs = first_entries-first ss xs
  entries-first (Ancestrage l r) xs = first-one (find (λ x. picks l x && stands r (parents x)) xs)
  entries-first _ xs = refl

  first_entries-first : (ss : Syntaxes) (xs : List Tree) → first_entry (first_entries ss xs) ≡ candidate_of_first ss xs
  first_entries-first none xs = refl
  first_entries-first (more s none) xs = ap first_entry (or-no_more (candidate_entries s xs)) ∙ entries-first s xs
  first_entries-first (more s (more t ss)) xs =
      or-first (candidate_entries s xs) (first_entries (more t ss) xs)
      ∙ rw (entries-some s xs, entries-first s xs, first_entries-first (more t ss) xs) refl

-- ---- the law
neg-stands : (xs : List Tree) (a b : Bool) → a ≡ b → StandOr xs (cond a None (Some [])) (cond b None (Some []))
neg-stands xs true true e = tt
neg-stands xs false false e = tt
neg-stands xs true false e = absurd (cc)
neg-stands xs false true e = absurd (cc)

mutual
  pub holds-picks : (s : Syntax) (x : Tree) → holds s x ≡ picks s x
  holds-picks Wildcard x = refl
  holds-picks (Entry t) x = refl
  holds-picks (Neg s) x = ap not (holds-picks s x)
  holds-picks (Binding n s) x = holds-picks s x
  holds-picks (Attr s names) x = rw (holds-picks s x, all-names names x) refl
  holds-picks (Alt ss) x = some_holds-picks ss x
  holds-picks (Multi ss) x = refl
  holds-picks (Ancestrage l r) x = rw (holds-picks l x, same-some (parents x) (candidates r (parents x)) (candidate_entries r (parents x)) (candidates-stand r (parents x)) ∙ entries-some r (parents x)) refl

  some_holds-picks : (ss : Syntaxes) (x : Tree) → some_holds ss x ≡ some_picks ss x
  some_holds-picks none x = refl
  some_holds-picks (more s none) x = or-nothing (holds s x) ∙ holds-picks s x
  some_holds-picks (more s (more t ss)) x = rw (holds-picks s x, some_holds-picks (more t ss) x) refl

  -- candidates are the places of the candidate entries
  candidates-stand : (s : Syntax) (xs : List Tree) → StandOr xs (candidates s xs) (candidate_entries s xs)
  candidates-stand Wildcard xs = some-stands xs (places xs) xs (stand_from xs 0 xs refl)
  candidates-stand (Entry t) xs = one-stands xs _ _ (first-stands xs (is_of_type t))
  candidates-stand (Neg s) xs = neg-stands xs _ _ (same-some xs (candidates s xs) (candidate_entries s xs) (candidates-stand s xs) ∙ entries-some s xs)
  candidates-stand (Binding n s) xs = named-stands xs _ _ (candidates-stand s xs)
  candidates-stand (Attr s names) xs = kept-stands xs names _ _ (candidates-stand s xs)
  candidates-stand (Alt ss) xs = first_candidates-stand ss xs
  candidates-stand (Multi ss) xs = each-stand ss xs [] xs (all-stand xs)
  candidates-stand (Ancestrage l r) xs =
      let test = λ (x : Tree). holds l x && is_some (candidates r (parents x)) in
      one-stands xs _ _ (subst (λ o. StandsOr xs (position test xs) o) (find-same {q = λ x. picks l x && stands r (parents x)} (λ x. rw (holds-picks l x, same-some (parents x) (candidates r (parents x)) (candidate_entries r (parents x)) (candidates-stand r (parents x)) ∙ entries-some r (parents x)) refl) xs) (first-stands xs test))

  first_candidates-stand : (ss : Syntaxes) (xs : List Tree) → StandOr xs (first_candidates ss xs) (first_entries ss xs)
  first_candidates-stand none xs = tt
  first_candidates-stand (more s ss) xs = or-stands xs _ _ _ _ (candidates-stand s xs) (first_candidates-stand ss xs)

  each-stand : (ss : Syntaxes) (xs : List Tree) (taken : List ℕ) (left : List Tree) → Stand xs (not_taken taken (places xs)) left
      → StandOr xs (least_beside taken (table_of ss xs)) (each_entry ss left)
  each-stand none xs taken left h = tt
  each-stand (more s ss) xs taken left h =
      rw (least_beside-cons taken (map (holds s) xs) (table_of ss xs), not_taken-true (holds s) xs taken, each_entry-more s ss left)
      (first-choice-stand xs (holds s) (picks s) (λ x. holds-picks s x) (λ k. least_beside (k ∷ taken) (table_of ss xs)) (each_entry ss) (each_stands ss) (each_entry-some ss)
      (not_taken taken (places xs)) (choices left)
      (zip-weaker (λ k c z. (z.0, each-stand ss xs (k ∷ taken) c.1 z.1)) (not_taken taken (places xs)) (choices left) (taken-choices xs taken left h)))

pub candidates-stands : (s : Syntax) (xs : List Tree) → is_some (candidates s xs) ≡ stands s xs
candidates-stands s xs = same-some xs (candidates s xs) (candidate_entries s xs) (candidates-stand s xs) ∙ entries-some s xs

-- ---- names
-- the value of the name's last pair, or the one before
abbrev last_value : List ℕ → List (List ℕ × Option Tree) → Option Tree → Option Tree
last_value q pairs before = unwrap_or (last_of q pairs) before

find-append : {A : Type 0} (p : A → Bool) (xs ys : List A) → find p (xs ++ ys) ≡ option_or (find p xs) (find p ys)
find-append p [] ys = refl
find-append p (x ∷ xs) ys = elim (p x) as (λ b. cond b (Some x) (find p (xs ++ ys)) ≡ option_or (cond b (Some x) (find p xs)) (find p ys)) [ true ↦ refl | false ↦ find-append p xs ys ]

later-first : {A : Type 0} (o p : Option (List ℕ × A)) (before : A) → unwrap_or (option_map (λ e. e.1) (option_or o p)) before ≡ unwrap_or (option_map (λ e. e.1) o) (unwrap_or (option_map (λ e. e.1) p) before)
later-first None p before = refl
later-first (Some e) p before = refl

last_value-append : (q : List ℕ) (ps rs : List (List ℕ × Option Tree)) (before : Option Tree) → last_value q (ps ++ rs) before ≡ last_value q rs (last_value q ps before)
last_value-append q ps rs before =
    let named = λ (p : List ℕ × Option Tree). bytes_eq p.0 q in
    ap (λ l. unwrap_or (option_map (λ p. p.1) (find named l)) before) (reverse-append ps rs)
    ∙ ap (λ o. unwrap_or (option_map (λ p. p.1) o) before) (find-append named (reverse rs) (reverse ps))
    ∙ later-first (find named (reverse rs)) (find named (reverse ps)) before

added : (q : List ℕ) (f : List ℕ → Option Tree) (ps rs : Pairs) (before : Option Tree) → last_value q (pair_entries f (ps ++ rs)) before ≡ last_value q (pair_entries f rs) (last_value q (pair_entries f ps) before)
added q f ps rs before = ap (λ l. last_value q l before) (map-append (λ p. (p.0, f p.1)) ps rs) ∙ last_value-append q (pair_entries f ps) (pair_entries f rs) before

or_before-none : (before : Option Tree) → or_before None before ≡ before
or_before-none None = refl
or_before-none (Some x) = refl

or_before-some : (x : Tree) (before : Option Tree) → or_before (Some x) before ≡ Some x
or_before-some x None = refl
or_before-some x (Some y) = refl

one-pair : (b : Bool) (v before : Option Tree) → unwrap_or (option_map (λ (p : List ℕ × Option Tree). p.1) (cond b (Some ([], v)) None)) before ≡ cond b v before
one-pair true v before = refl
one-pair false v before = refl

-- one pair, of the name n
pair-value : (q n : List ℕ) (v before : Option Tree) → last_value q ((n, v) ∷ []) before ≡ cond (bytes_eq n q) v before
pair-value q n v before = elim (bytes_eq n q) as (λ b. unwrap_or (option_map (λ (p : List ℕ × Option Tree). p.1) (cond b (Some (n, v)) None)) before ≡ cond b v before) [ true ↦ refl | false ↦ refl ]

at_parent : (o : Option Tree) → option_and_then (λ p. at p []) o ≡ o
at_parent None = refl
at_parent (Some p) = refl

-- a name on parents, at the first candidate
bound-first : (q n : List ℕ) (xs : List Tree) (o : Option (List ℕ)) (p : Option (List Tree)) → StandOr xs o p → (before : Option Tree)
    → cond (bytes_eq n q) (or_before (first_entry p) before) before ≡ last_value q (pair_entries (at_list xs) (pair_of_first n o)) before
bound-first q n xs None None h before = elim (bytes_eq n q) as (λ b. cond b (or_before None before) before ≡ before) [ true ↦ or_before-none before | false ↦ refl ]
bound-first q n xs (Some []) (Some []) h before = elim (bytes_eq n q) as (λ b. cond b (or_before None before) before ≡ before) [ true ↦ or_before-none before | false ↦ refl ]
bound-first q n xs (Some (i ∷ is)) (Some (e ∷ es)) h before =
    let v : at_list xs (i ∷ []) ≡ Some e = at_parent (slice_get xs i) ∙ h.0 in
    ap (λ o. cond (bytes_eq n q) o before) (or_before-some e before ∙ sym v) ∙ sym (pair-value q n (at_list xs (i ∷ [])) before)
bound-first q n xs (Some []) (Some (e ∷ es)) h before = absurd h
bound-first q n xs (Some (i ∷ is)) (Some []) h before = absurd h
bound-first q n xs (Some is) None h before = absurd h
bound-first q n xs None (Some es) h before = absurd h

cond-same : {X : Type 0} (a b : Bool) (x y z w : X) → a ≡ b → x ≡ z → y ≡ w → cond a x y ≡ cond b z w
cond-same a b x y z w e f g = cc

-- at the first parent where a selector holds
led-first : (q : List ℕ) (xs : List Tree) (f : Tree → Pairs) (called : Option Tree → Tree → Option Tree) (before : Option Tree)
    → ((x : Tree) → called before x ≡ last_value q (pair_entries (at x) (f x)) before) → (o : Option ℕ) (p : Option Tree) → StandsOr xs o p
    → option_map_or (called before) p before ≡ last_value q (pair_entries (at_list xs) (option_map_or (pairs_at f xs) o [])) before
led-first q xs f called before same None None h = refl
led-first q xs f called before same (Some i) (Some x) h = same x ∙ ap (λ l. last_value q l before) (sym (resolved_led f xs i x h))
led-first q xs f called before same (Some i) None h = absurd h
led-first q xs f called before same None (Some x) h = absurd h

-- ---- names that don't appear in a selector
or-false : (a b : Bool) → (a || b) ≡ false → (a ≡ false) × (b ≡ false)
or-false true b h = absurd (cc)
or-false false b h = (refl, h)

cond-both : {X : Type 0} (b : Bool) (x y z : X) → x ≡ z → y ≡ z → cond b x y ≡ z
cond-both true x y z e f = e
cond-both false x y z e f = f

cond-false : {X : Type 0} (b : Bool) (x y : X) → b ≡ false → cond b x y ≡ y
cond-false true x y h = absurd (cc)
cond-false false x y h = refl

-- what is asked only where a name appears, if it is the same without the name
where-named : {X : Type 0} (b : Bool) (x y : X) → (b ≡ false → x ≡ y) → cond b x y ≡ x
where-named true x y h = refl
where-named false x y h = sym (h refl)

map-both : {A : Type 0} (f : A → Option Tree) (before : Option Tree) → ((x : A) → f x ≡ before) → (o : Option A) → option_map_or f o before ≡ before
map-both f before same None = refl
map-both f before same (Some x) = same x

module _ (q : List ℕ) where
  unnamed-at_first : (s : Syntax) (called : Option Tree → Tree → Option Tree) (before : Option Tree) (xs : List Tree) → binds_name q s ≡ false → at_first q s called before xs ≡ before
  unnamed-at_first (Binding n s) called before xs h = let p = or-false (bytes_eq n q) (binds_name q s) h in rw (p.0, p.1) refl
  unnamed-at_first Wildcard called before xs h = refl
  unnamed-at_first (Entry t) called before xs h = refl
  unnamed-at_first (Neg s) called before xs h = refl
  unnamed-at_first (Attr s names) called before xs h = cond-false (binds_name q s) _ before h
  unnamed-at_first (Alt ss) called before xs h = cond-false (some_binds_name q ss) _ before h
  unnamed-at_first (Multi ss) called before xs h = cond-false (some_binds_name q ss) _ before h
  unnamed-at_first (Ancestrage l r) called before xs h = cond-false (binds_name q l || binds_name q r) _ before h

  mutual
    unnamed : (s : Syntax) (before : Option Tree) (x : Tree) → binds_name q s ≡ false → entry_called q s before x ≡ before
    unnamed Wildcard before x h = refl
    unnamed (Entry t) before x h = refl
    unnamed (Neg s) before x h = refl
    unnamed (Binding n s) before x h = let p = or-false (bytes_eq n q) (binds_name q s) h in rw p.0 (unnamed s before x p.1)
    unnamed (Attr s names) before x h = unnamed s before x h
    unnamed (Alt ss) before x h = cond-false (some_binds_name q ss) _ before h
    unnamed (Multi ss) before x h = refl
    unnamed (Ancestrage l r) before x h =
        let p = or-false (binds_name q l) (binds_name q r) h in unnamed_on r (entry_called q l before x) (parents x) p.1 ∙ unnamed l before x p.0

    unnamed_first : (ss : Syntaxes) (before : Option Tree) (x : Tree) → some_binds_name q ss ≡ false → called_by_first q ss before x ≡ before
    unnamed_first none before x h = refl
    unnamed_first (more s ss) before x h =
        let p = or-false (binds_name q s) (some_binds_name q ss) h in cond-both (picks s x) _ _ before (unnamed s before x p.0) (unnamed_first ss before x p.1)

    unnamed_on : (s : Syntax) (before : Option Tree) (xs : List Tree) → binds_name q s ≡ false → parent_called q s before xs ≡ before
    unnamed_on Wildcard before xs h = refl
    unnamed_on (Entry t) before xs h = refl
    unnamed_on (Neg s) before xs h = refl
    unnamed_on (Binding n s) before xs h = let p = or-false (bytes_eq n q) (binds_name q s) h in rw p.0 (unnamed_on s before xs p.1)
    unnamed_on (Attr s names) before xs h = unnamed_on s before xs h
    unnamed_on (Alt ss) before xs h = cond-false (some_binds_name q ss) _ before h
    unnamed_on (Multi ss) before xs h = unnamed_each ss before xs h
    unnamed_on (Ancestrage l r) before xs h =
        let p = or-false (binds_name q l) (binds_name q r) h in
        map-both (λ x. parent_called q r (entry_called q l before x) (parents x)) before (λ x. unnamed_on r (entry_called q l before x) (parents x) p.1 ∙ unnamed l before x p.0)
        (find (λ x. picks l x && stands r (parents x)) xs)

    unnamed_first_on : (ss : Syntaxes) (before : Option Tree) (xs : List Tree) → some_binds_name q ss ≡ false → parent_called_by_first q ss before xs ≡ before
    unnamed_first_on none before xs h = refl
    unnamed_first_on (more s ss) before xs h =
        let p = or-false (binds_name q s) (some_binds_name q ss) h in cond-both (stands s xs) _ _ before (unnamed_on s before xs p.0) (unnamed_first_on ss before xs p.1)

    unnamed_each : (ss : Syntaxes) (before : Option Tree) (xs : List Tree) → some_binds_name q ss ≡ false → each_called q ss before xs ≡ before
    unnamed_each none before xs h = refl
    unnamed_each (more s none) before xs h = unnamed-at_first s (entry_called q s) before xs (or-false (binds_name q s) false h).0
    unnamed_each (more s (more t ss)) before xs h = cond-false (some_binds_name q (more s (more t ss))) _ before h

  within-first : (s : Syntax) (before : Option Tree) (xs : List Tree) (x : Tree) → find (picks s) xs ≡ Some x → within q s (entry_called q s) before xs ≡ entry_called q s before x
  within-first s before xs x e = rw e (where-named (binds_name q s) _ before (unnamed s before x))

  -- a member at the first entry where it holds
  called-at_first : (s : Syntax) (before : Option Tree) (xs : List Tree) (x : Tree) → find (picks s) xs ≡ Some x → at_first q s (entry_called q s) before xs ≡ entry_called q s before x
  called-at_first (Binding n s) before xs x e = rw e (by (bytes_eq n q) refl)
    where
      by : (b : Bool) → bytes_eq n q ≡ b
          → cond b (or_before (Some x) before) (cond (binds_name q s) (cond b (Some x) (entry_called q s before x)) before) ≡ cond b (Some x) (entry_called q s before x)
      by true h = or_before-some x before
      by false h = within_name (binds_name q s) refl
        where
          within_name : (c : Bool) → binds_name q s ≡ c → cond c (entry_called q s before x) before ≡ entry_called q s before x
          within_name true k = refl
          within_name false k = sym (unnamed s before x k)
  called-at_first Wildcard before xs x e = within-first Wildcard before xs x e
  called-at_first (Entry t) before xs x e = within-first (Entry t) before xs x e
  called-at_first (Neg s) before xs x e = within-first (Neg s) before xs x e
  called-at_first (Attr s names) before xs x e = within-first (Attr s names) before xs x e
  called-at_first (Alt ss) before xs x e = within-first (Alt ss) before xs x e
  called-at_first (Multi ss) before xs x e = within-first (Multi ss) before xs x e
  called-at_first (Ancestrage l r) before xs x e = within-first (Ancestrage l r) before xs x e

  -- along a chain
  chain-value : (l r : Syntax) (x : Tree) (before : Option Tree) → entry_called q l before x ≡ last_value q (pair_entries (at x) (binds l x)) before
      → ((b : Option Tree) → parent_called q r b (parents x) ≡ last_value q (pair_entries (at_list (parents x)) (binds_on r (parents x))) b)
      → parent_called q r (entry_called q l before x) (parents x) ≡ last_value q (pair_entries (at x) (binds l x ++ binds_on r (parents x))) before
  chain-value l r x before h k =
      k (entry_called q l before x)
      ∙ ap (λ ps. last_value q ps (entry_called q l before x)) (resolved_on r x)
      ∙ ap (last_value q (pair_entries (at x) (binds_on r (parents x)))) h
      ∙ sym (added q (at x) (binds l x) (binds_on r (parents x)) before)

  -- a member that holds at no entry
  none-at_first : (s : Syntax) (called : Option Tree → Tree → Option Tree) (before : Option Tree) (xs : List Tree) → find (picks s) xs ≡ None → at_first q s called before xs ≡ before
  none-at_first (Binding n s) called before xs e = rw e (cond-both (bytes_eq n q) _ _ before (or_before-none before) (cond-both (binds_name q s) before before before refl refl))
  none-at_first Wildcard called before xs e = refl
  none-at_first (Entry t) called before xs e = refl
  none-at_first (Neg s) called before xs e = refl
  none-at_first (Attr s names) called before xs e = rw e (cond-both (binds_name q s) before before before refl refl)
  none-at_first (Alt ss) called before xs e = rw e (cond-both (some_binds_name q ss) before before before refl refl)
  none-at_first (Multi ss) called before xs e = rw e (cond-both (some_binds_name q ss) before before before refl refl)
  none-at_first (Ancestrage l r) called before xs e = rw e (cond-both (binds_name q l || binds_name q r) before before before refl refl)

  called-at_entry : (s : Syntax) (before : Option Tree) (x : Tree) → at_entry q s (entry_called q s) before x ≡ entry_called q s before x
  called-at_entry s before x = where-named (binds_name q s) _ before (unnamed s before x)

  -- each member at its entry
  abbrev called_by_each : Syntaxes → Option Tree → List Tree → Option Tree
  called_by_each none before ys = before
  called_by_each (more s ss) before [] = before
  called_by_each (more s ss) before (y ∷ ys) = called_by_each ss (entry_called q s before y) ys

  unnamed_by_each : (ss : Syntaxes) (before : Option Tree) (ys : List Tree) → some_binds_name q ss ≡ false → called_by_each ss before ys ≡ before
  unnamed_by_each none before ys h = refl
  unnamed_by_each (more s ss) before [] h = refl
  unnamed_by_each (more s ss) before (y ∷ ys) h =
      let p = or-false (binds_name q s) (some_binds_name q ss) h in unnamed_by_each ss (entry_called q s before y) ys p.1 ∙ unnamed s before y p.0

  -- a member and the others, where one choice is made
  abbrev by_choice : Syntax → Syntaxes → Option Tree → Option (Tree × List Tree) → Option Tree
  by_choice s ss before o = option_map_or (λ c. each_called q ss (at_entry q s (entry_called q s) before c.0) c.1) o before

  -- where the others bind what each at its entry does
  module _ (s : Syntax) (ss : Syntaxes) (before : Option Tree) (others : (before : Option Tree) (xs : List Tree) → each_called q ss before xs ≡ option_map_or (called_by_each ss before) (each_entry ss xs) before) where
    after : (x : Tree) (o : Option (List Tree)) → is_some o ≡ true
        → option_map_or (called_by_each ss (entry_called q s before x)) o (entry_called q s before x) ≡ option_map_or (called_by_each (more s ss) before) (option_map (λ ys. x ∷ ys) o) before
    after x None h = absurd (cc)
    after x (Some ys) h = refl

    at_choice : (xs : List Tree) (o : Option (Tree × List Tree)) → first_choice (picks s) (each_stands ss) xs ≡ o
        → by_choice s ss before o ≡ option_map_or (called_by_each (more s ss) before) (option_and_then (λ c. option_map (λ ys. c.0 ∷ ys) (each_entry ss c.1)) o) before
    at_choice xs None e = refl
    at_choice xs (Some c) e =
        let passes = and-both (picks s c.0) (each_stands ss c.1) (find-passes (λ c. picks s c.0 && each_stands ss c.1) (choices xs) c e) in
        ap (λ b. each_called q ss b c.1) (called-at_entry s before c.0)
        ∙ others (entry_called q s before c.0) c.1 ∙ after c.0 (each_entry ss c.1) (each_entry-some ss c.1 ∙ passes.1)

  each_called-value : (ss : Syntaxes) (before : Option Tree) (xs : List Tree) → each_called q ss before xs ≡ option_map_or (called_by_each ss before) (each_entry ss xs) before
  each_called-value none before xs = refl
  each_called-value (more s none) before xs =
      (elim (find (picks s) xs) as (λ o. find (picks s) xs ≡ o → at_first q s (entry_called q s) before xs ≡ option_map_or (called_by_each (more s none) before) (option_map (λ x. x ∷ []) o) before) [
        | None ↦ λ e. none-at_first s (entry_called q s) before xs e
        | Some x ↦ λ e. called-at_first s before xs x e
      ]) refl
  each_called-value (more s (more t ss)) before xs =
      let ts = more s (more t ss) in
      let choice = first_choice (picks s) (each_stands (more t ss)) xs in
      (elim (some_binds_name q ts) as (λ b. some_binds_name q ts ≡ b → cond b (by_choice s (more t ss) before choice) before ≡ option_map_or (called_by_each ts before) (each_entry ts xs) before) [
        | true ↦ λ h. at_choice s (more t ss) before (λ b ys. each_called-value (more t ss) b ys) xs choice refl
        | false ↦ λ h. sym (map-both (called_by_each ts before) before (λ ys. unnamed_by_each ts before ys h) (each_entry ts xs))
      ]) refl

  together : (ss : Syntaxes) (xs : List Tree) (before : Option Tree) → ((is : List ℕ) (es : List Tree) → Stand xs is es → called_by_each ss before es ≡ last_value q (pair_entries (at_list xs) (each_binds ss xs is)) before)
      → (o : Option (List ℕ)) (p : Option (List Tree)) → StandOr xs o p
      → option_map_or (called_by_each ss before) p before ≡ last_value q (pair_entries (at_list xs) (option_map_or (each_binds ss xs) o [])) before
  together ss xs before each None None h = refl
  together ss xs before each (Some is) (Some es) h = each is es h
  together ss xs before each (Some is) None h = absurd h
  together ss xs before each None (Some es) h = absurd h

  mutual
    called-value : (s : Syntax) (before : Option Tree) (x : Tree) → entry_called q s before x ≡ last_value q (pair_entries (at x) (binds s x)) before
    called-value Wildcard before x = refl
    called-value (Entry t) before x = refl
    called-value (Neg s) before x = refl
    called-value (Binding n s) before x =
        ap (cond (bytes_eq n q) (Some x)) (called-value s before x)
        ∙ sym (added q (at x) (binds s x) ((n, []) ∷ []) before ∙ pair-value q n (Some x) (last_value q (pair_entries (at x) (binds s x)) before))
    called-value (Attr s names) before x = called-value s before x
    called-value (Alt ss) before x = where-named (some_binds_name q ss) _ before (unnamed_first ss before x) ∙ first-value ss before x
    called-value (Multi ss) before x = refl
    called-value (Ancestrage l r) before x = chain-value l r x before (called-value l before x) (λ b. called-on r b (parents x))

    first-value : (ss : Syntaxes) (before : Option Tree) (x : Tree) → called_by_first q ss before x ≡ last_value q (pair_entries (at x) (first_binds ss x)) before
    first-value none before x = refl
    first-value (more s ss) before x = rw (← holds-picks s x)
        (elim (holds s x) as (λ b. cond b (entry_called q s before x) (called_by_first q ss before x) ≡ last_value q (pair_entries (at x) (cond b (binds s x) (first_binds ss x))) before) [
          | true ↦ called-value s before x
          | false ↦ first-value ss before x
        ])

    called-on : (s : Syntax) (before : Option Tree) (xs : List Tree) → parent_called q s before xs ≡ last_value q (pair_entries (at_list xs) (binds_on s xs)) before
    called-on Wildcard before xs = refl
    called-on (Entry t) before xs = refl
    called-on (Neg s) before xs = refl
    called-on (Binding n s) before xs =
        let named = parent_called q s before xs in
        ap (λ o. cond (bytes_eq n q) (or_before o named) named) (sym (entries-first s xs))
        ∙ bound-first q n xs (candidates s xs) (candidate_entries s xs) (candidates-stand s xs) named
        ∙ ap (last_value q (pair_entries (at_list xs) (pair_of_first n (candidates s xs)))) (called-on s before xs)
        ∙ sym (added q (at_list xs) (binds_on s xs) (pair_of_first n (candidates s xs)) before)
    called-on (Attr s names) before xs = called-on s before xs
    called-on (Alt ss) before xs = where-named (some_binds_name q ss) _ before (unnamed_first_on ss before xs) ∙ first-value-on ss before xs
    called-on (Multi ss) before xs =
        each_called-value ss before xs
        ∙ together ss xs before (λ is es h. each-value ss before xs is es h) (candidates (Multi ss) xs) (each_entry ss xs) (candidates-stand (Multi ss) xs)
    called-on (Ancestrage l r) before xs =
        led-first q xs (λ x. binds l x ++ binds_on r (parents x)) (λ b x. parent_called q r (entry_called q l b x) (parents x)) before
        (λ x. chain-value l r x before (called-value l before x) (λ b. called-on r b (parents x)))
        (position (holds (Ancestrage l r)) xs) (find (picks (Ancestrage l r)) xs)
        (subst (λ o. StandsOr xs (position (holds (Ancestrage l r)) xs) o) (find-same (holds-picks (Ancestrage l r)) xs) (first-stands xs (holds (Ancestrage l r))))

    first-value-on : (ss : Syntaxes) (before : Option Tree) (xs : List Tree) → parent_called_by_first q ss before xs ≡ last_value q (pair_entries (at_list xs) (first_binds_on ss xs)) before
    first-value-on none before xs = refl
    first-value-on (more s ss) before xs = rw (← candidates-stands s xs)
        (elim (is_some (candidates s xs)) as (λ b. cond b (parent_called q s before xs) (parent_called_by_first q ss before xs) ≡ last_value q (pair_entries (at_list xs) (cond b (binds_on s xs) (first_binds_on ss xs))) before) [
          | true ↦ called-on s before xs
          | false ↦ first-value-on ss before xs
        ])

    each-value : (ss : Syntaxes) (before : Option Tree) (xs : List Tree) (is : List ℕ) (es : List Tree) → Stand xs is es
        → called_by_each ss before es ≡ last_value q (pair_entries (at_list xs) (each_binds ss xs is)) before
    each-value none before xs is es h = refl
    each-value (more s ss) before xs [] [] h = refl
    each-value (more s ss) before xs [] (e ∷ es) h = absurd h
    each-value (more s ss) before xs (i ∷ is) [] h = absurd h
    each-value (more s ss) before xs (i ∷ is) (e ∷ es) h =
        each-value ss (entry_called q s before e) xs is es h.1
        ∙ ap (last_value q (pair_entries (at_list xs) (each_binds ss xs is))) (called-value s before e ∙ ap (λ ps. last_value q ps before) (sym (resolved_led (binds s) xs i e h.0)))
        ∙ sym (added q (at_list xs) (pairs_at (binds s) xs i) (each_binds ss xs is) before)

none-or : (f : List ℕ → Option Tree) (o : Option (List ℕ)) → unwrap_or (option_map f o) None ≡ option_and_then f o
none-or f None = refl
none-or f (Some path) = refl

pub bound_to-named_entry : (s : Syntax) (q : List ℕ) (x : Tree) → bound_to s x q ≡ named_entry s q x
bound_to-named_entry s q x =
    sym (none-or (at x) (last_of q (binds s x))) ∙ ap (λ o. unwrap_or o None) (sym (last_of-second q (at x) (binds s x))) ∙ sym (called-value q s None x)
