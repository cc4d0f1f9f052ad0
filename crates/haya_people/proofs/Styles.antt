-- The order of a style's lists, and what a predicate answers that answers as a test does.
use Rattle.std.proofs.Common.{◌≡◌, ℕ, Bool, true, false, List, Result, Ok, Err, arith, refl, sym, ◌∙◌}
use Rattle.std.specs.Cmp.{IsTotalOrder, bool_cmp_total}
use Rattle.std.specs.Cmp.Lexicographic.{lists_total, options_total}
use Rattle.std.specs.List.{IsAnyAnswer, list_any}
use Rattle.std.specs.Prelude.{IfOk}
use Rattle.std.specs.Ordering.{is_eq}
use Rattle.haya_text.specs.declared.fault.OutOfMemory.{OutOfMemory}
use Rattle.std.specs.declared.cmp.Ordering.{Ordering}
use Rattle.std.specs.declared.cmp.Ordering.TheVariants as order
use Rattle.std.proofs.lemmas.Cmp.{nat_list_cmp_total, on_total, then_total}
use Rattle.std.proofs.lemmas.List.Folds.{list_any_at, list_any_none}
use Rattle.haya_text.specs.declared.strings.format.LongShortForm.{LongShortForm}
use Rattle.haya_people.specs.Person.{PersonView}
use Rattle.haya_people.specs.Orders.{is_cjk, name_characters, csl_parts, folded_parts, csl_cmp, csl_cmp_by, AnswersAs}

pub is_eq-Equal : (o : Ordering) → is_eq o ≡ true → o ≡ order.Equal
is_eq-Equal order.Less h = cc
is_eq-Equal order.Equal h = refl
is_eq-Equal order.Greater h = cc

pub styles_total : (test : ℕ → Bool) (form : LongShortForm) (demoted : Bool) (table : List (List ℕ)) → IsTotalOrder (csl_cmp_by test form demoted table)
styles_total test form demoted table =
    on_total (λ p. (is_cjk test p, p))
    (then_total (on_total (λ q. q.0) bool_cmp_total)
    (on_total (csl_parts form demoted table) (on_total folded_parts (lists_total (options_total nat_list_cmp_total)))))

-- the answer of a predicate that answers as the test does
pub answer-by_test : (answers : ℕ → Bool → Type 0) (test : ℕ → Bool) → AnswersAs answers test
    → (cs : List ℕ) (b : Bool) → IsAnyAnswer answers cs b → b ≡ list_any test cs
answer-by_test answers test alike cs true (k, lt, h) = sym (list_any_at test cs k 0 lt (sym (alike _ _ (h 0))))
answer-by_test answers test alike cs false h = sym (list_any_none test cs (λ k d lt. sym (alike _ _ (h k d (omega arith) lt))))

pub order-by_test : (answers : ℕ → Bool → Type 0) (test : ℕ → Bool) → AnswersAs answers test
    → (form : LongShortForm) (demoted : Bool) (table : List (List ℕ)) (p q : PersonView) (mine theirs : Bool) (r : Result Ordering OutOfMemory)
    → IsAnyAnswer answers (name_characters p) mine → IsAnyAnswer answers (name_characters q) theirs
    → IfOk r (λ o. o ≡ csl_cmp form demoted table (mine, p) (theirs, q)) → IfOk r (λ o. o ≡ csl_cmp_by test form demoted table p q)
order-by_test answers test alike form demoted table p q mine theirs (Err e) a b h = tt
order-by_test answers test alike form demoted table p q mine theirs (Ok o) a b h =
    let m = answer-by_test answers test alike (name_characters p) mine a in
    let t = answer-by_test answers test alike (name_characters q) theirs b in
    h ∙ (λ i. csl_cmp form demoted table (m i, p) (t i, q))
