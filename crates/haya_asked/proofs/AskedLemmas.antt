-- What is asked where nothing is.
use Rattle.std.proofs.Common.{◌≡◌, ℕ, true, false, ◌&&◌, List, [], ◌∷◌, ◌++◌, Option, None, Some, eqb, filter, length, map, refl, sym, ap, ◌∙◌, append_assoc, subst, arith}
use Rattle.std.proofs.lemmas.Bool.{and_parts, eqb-true}
use Rattle.std.proofs.lemmas.Option.{slice_get-map}
use Rattle.std.specs.Bool.{IsTrue}
use Rattle.std.specs.Prelude.{String, is_none, option_map, slice_get, string_bytes}
use Rattle.std.specs.declared.alloc.Global.{Global}
use Rattle.hayagriva.specs.declared.query.Hit.{Hit}
use Rattle.haya_questions.specs.Order.{all_tied, hit_order}
use Rattle.haya_questions.specs.Ranked.{IsSortOf}
use Rattle.haya_questions.specs.SortText.{sort_key_view}
use Rattle.haya_questions.specs.Test.{test_view}
use Rattle.haya_questions.proofs.Sorts.{unsorted}
use Rattle.haya_asked.specs.Alike.{before_others}
use Rattle.haya_asked.specs.Asked.{AreAsked, AreLeft, asks_nothing, at_most, keeps_repeats, passes}
use Rattle.haya_asked.specs.declared.questions.Questions.{Questions}
use Rattle.haya_asked.specs.declared.questions.Repeats.{Repeats}
use Rattle.haya_asked.specs.declared.questions.Repeats.TheVariants.{Kept, Dropped, Alone}

-- a test that always holds keeps all
pub filter-always : {A : Type 0} (xs : List A) → filter (λ x. true) xs ≡ xs
filter-always [] = refl
filter-always (x ∷ xs) = ap (λ ys. x ∷ ys) (filter-always xs)

pub nothing_in : {A : Type 0} (xs : List A) → eqb (length xs) 0 ≡ true → xs ≡ []
nothing_in [] h = refl
nothing_in (x ∷ xs) h = let e : length (x ∷ xs) ≡ 0 = eqb-true (length (x ∷ xs)) 0 h in absurd (omega arith)

all_left : (repeats : Repeats) (hits : List Hit) → keeps_repeats repeats ≡ true → AreLeft repeats hits hits
all_left Kept hits h = refl
all_left (Dropped places) hits h = absurd (let clash : false ≡ true = h in cc)
all_left (Alone places) hits h = absurd (let clash : false ≡ true = h in cc)

all_first : (max : Option ℕ) (hits : List Hit) → is_none max ≡ true → hits ≡ at_most max hits
all_first None hits h = refl
all_first (Some n) hits h = absurd (let clash : false ≡ true = h in cc)

pub all_asked : (questions : Questions) (hits : List Hit) → IsTrue (asks_nothing questions) → AreAsked questions hits hits
all_asked questions hits nothing =
    let tests = questions.tests.items in
    let keys = questions.keys.items in
    let first = and_parts (eqb (length tests) 0) (eqb (length keys) 0 && (keeps_repeats questions.repeats && is_none questions.max)) nothing in
    let second = and_parts (eqb (length keys) 0) (keeps_repeats questions.repeats && is_none questions.max) first.1 in
    let third = and_parts (keeps_repeats questions.repeats) (is_none questions.max) second.1 in
    record {
      sorted = hits;
      left = hits;
      sort = subst (λ ks. IsSortOf (hit_order (map sort_key_view ks)) (filter (passes (map test_view tests)) hits) hits) (sym (nothing_in keys second.0))
          (subst (λ ts. IsSortOf all_tied (filter (passes (map test_view ts)) hits) hits) (sym (nothing_in tests first.0))
          (subst (λ xs. IsSortOf all_tied xs hits) (sym (filter-always hits)) (unsorted hits)));
      repeats = all_left questions.repeats hits third.0;
      first = all_first questions.max hits third.1;
    }

-- values in front of others, one by one
pub more_values : (front : List (List ℕ)) (value : List ℕ) (others : Option (List (List ℕ)))
    → option_map (λ vs. (front ++ value ∷ []) ++ vs) others ≡ option_map (λ vs. front ++ vs) (before_others others value)
more_values front value None = refl
more_values front value (Some vs) = ap Some (append_assoc front (value ∷ []) vs)

-- the first of the texts that are shown is that of the first of the strings
pub first_shown : (items : List (String Global)) (texts : List (List ℕ)) (first : Option (String Global)) → map string_bytes items ≡ texts → first ≡ slice_get items 0
    → slice_get texts 0 ≡ option_map string_bytes first
first_shown items texts first same at =
    ap (λ ts. slice_get ts 0) (sym same) ∙ slice_get-map string_bytes items 0 ∙ ap (option_map string_bytes) (sym at)

pub values_start : (front : List (List ℕ)) (others : Option (List (List ℕ))) → front ≡ [] → option_map (λ vs. front ++ vs) others ≡ others
values_start front None none = refl
values_start front (Some vs) none = ap (λ f. Some (f ++ vs)) none
