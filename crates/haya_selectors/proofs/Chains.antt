-- Selectors behind several `!`, and selectors with others behind them, each after a `>`.
use Rattle.std.proofs.Common.{◌≡◌, ◌≤◌, ◌<◌, ℕ, zero, suc, ◌+◌, Bool, true, false, cond, List, [], ◌∷◌, ◌++◌, length, get_or, map, take, refl, sym, ap, ◌∙◌, arith}
use Rattle.std.specs.Prelude.{◌&&◌, ◌==◌, not, None, Some, is_some}
use Rattle.std.specs.Bool.{OnTrue}
use Rattle.std.proofs.lemmas.List.{take_more, map-append}
use Rattle.std.proofs.lemmas.List.Sums.{fold-append}
use Rattle.std.proofs.lemmas.Bool.Decides.{nat_tests}
use Rattle.haya_text.proofs.Tells.{and-both}
use Rattle.haya_entry.specs.Tree.{Tree, parents}
use Rattle.haya_selectors.specs.Calls.{calls, calls_on}
use Rattle.haya_selectors.specs.Evaluation.{turned}
use Rattle.haya_selectors.specs.Holds.{candidates, holds}
use Rattle.haya_selectors.specs.Simple.{all_simple, is_simple}
use Rattle.haya_selectors.specs.Syntax.{Syntax, Wildcard, Neg, Ancestrage, chained, negations, syntaxes}

-- ---- behind `!`
pub negations-more : (n : ℕ) (s : Syntax) → negations n (Neg s) ≡ Neg (negations n s)
negations-more zero s = refl
negations-more (suc n) s = negations-more n (Neg s)

pub is_simple-negations : (n : ℕ) (s : Syntax) → is_simple (negations n s) ≡ is_simple s
is_simple-negations zero s = refl
is_simple-negations (suc n) s = is_simple-negations n (Neg s)

pub holds-negations : (n : ℕ) (s : Syntax) (x : Tree) → holds (negations n s) x ≡ turned n (holds s x)
holds-negations zero s x = refl
holds-negations (suc n) s x = holds-negations n (Neg s) x

pub calls-negations : (n : ℕ) (s : Syntax) (x : Tree) → calls (negations n s) x ≡ n + calls s x
calls-negations zero s x = omega arith
calls-negations (suc n) s x = omega (arith, calls-negations n (Neg s) x)

pub is_some-not : {A : Type 0} (b : Bool) (x : A) → is_some (cond b None (Some x)) ≡ not b
is_some-not true x = refl
is_some-not false x = refl

pub candidates-negations : (n : ℕ) (s : Syntax) (xs : List Tree) → is_some (candidates (negations n s) xs) ≡ turned n (is_some (candidates s xs))
candidates-negations zero s xs = refl
candidates-negations (suc n) s xs = candidates-negations n (Neg s) xs ∙ ap (turned n) (is_some-not (is_some (candidates s xs)) [])

pub calls_on-negations : (n : ℕ) (s : Syntax) (xs : List Tree) → calls_on (negations n s) xs ≡ n + calls_on s xs
calls_on-negations zero s xs = omega arith
calls_on-negations (suc n) s xs = omega (arith, calls_on-negations n (Neg s) xs)

-- what `!` before so many others says on parents
module _ (n : ℕ) (s : Syntax) (xs : List Tree) (b : Bool) (h : b ≡ turned n (is_some (candidates s xs))) where
  pub negated_none : b ≡ true → candidates (Neg (negations n s)) xs ≡ None
  negated_none k = rw (candidates-negations n s xs ∙ sym h ∙ k) refl

  pub negated_some : b ≡ false → candidates (Neg (negations n s)) xs ≡ Some []
  negated_some k = rw (candidates-negations n s xs ∙ sym h ∙ k) refl

-- ---- before `>`
pub chained_push : (s : Syntax) (rs : List Syntax) (r : Syntax) → chained s (rs ++ r ∷ []) ≡ Ancestrage (chained s rs) r
chained_push s rs r = fold-append Ancestrage s rs (r ∷ [])

-- one selector more, by its number
pub chained_more : (f : ℕ → Syntax) (s : Syntax) (ns : List ℕ) (i : ℕ) → i < length ns
    → chained s (map f (take (i + 1) ns)) ≡ Ancestrage (chained s (map f (take i ns))) (f (get_or ns i 0))
chained_more f s ns i h =
    ap (λ ms. chained s (map f ms)) (take_more ns i 0 h)
    ∙ ap (chained s) (map-append f (take i ns) (get_or ns i 0 ∷ []))
    ∙ chained_push s (map f (take i ns)) (f (get_or ns i 0))

calls-chained : (s : Syntax) (rs : List Syntax) (x : Tree) → calls s x ≤ calls (chained s rs) x
calls-chained s [] x = omega arith
calls-chained s (r ∷ rs) x = omega (arith, calls-chained (Ancestrage s r) rs x)

-- a part of a chain takes no more calls
pub calls_up_to : (f : ℕ → Syntax) (s : Syntax) (ns : List ℕ) (i : ℕ) (x : Tree) → calls (chained s (map f (take i ns))) x ≤ calls (chained s (map f ns)) x
calls_up_to f s ns zero x = calls-chained s (map f ns) x
calls_up_to f s [] (suc i) x = omega arith
calls_up_to f s (n ∷ ns) (suc i) x = calls_up_to f (Ancestrage s (f n)) ns i x

and-true : (b : Bool) → b ≡ (b && true)
and-true true = refl
and-true false = refl

and-then : (a b c : Bool) → ((a && b) && c) ≡ (a && (b && c))
and-then true b c = refl
and-then false b c = refl

pub is_simple-chained : (s : Syntax) (rs : List Syntax) → is_simple (chained s rs) ≡ (is_simple s && all_simple (syntaxes rs))
is_simple-chained s [] = and-true (is_simple s)
is_simple-chained s (r ∷ rs) = is_simple-chained (Ancestrage s r) rs ∙ and-then (is_simple s) (is_simple r) (all_simple (syntaxes rs))

pub simple_at : (f : ℕ → Syntax) (ns : List ℕ) (i : ℕ) → i < length ns → all_simple (syntaxes (map f ns)) ≡ true → is_simple (f (get_or ns i 0)) ≡ true
simple_at f [] i h k = absurd (omega arith)
simple_at f (n ∷ ns) zero h k = (and-both (is_simple (f n)) (all_simple (syntaxes (map f ns))) k).0
simple_at f (n ∷ ns) (suc i) h k = simple_at f ns i (omega arith) (and-both (is_simple (f n)) (all_simple (syntaxes (map f ns))) k).1

-- a chain that goes on where what stands before holds, and where it doesn't
module _ (s r whole : Syntax) (x : Tree) (b : Bool) (e : whole ≡ Ancestrage s r) (h : b ≡ holds s x) where
  pub chain_fails : b ≡ false → (b ≡ holds whole x) × (calls whole x ≡ 1 + calls s x)
  chain_fails k =
      let no : holds s x ≡ false = sym h ∙ k in (
        k ∙ sym (ap (λ t. holds t x) e ∙ ap (λ c. c && is_some (candidates r (parents x))) no),
        ap (λ t. calls t x) e ∙ ap (λ c. 1 + calls s x + cond c (calls_on r (parents x)) 0) no ∙ omega arith,
      )

  pub chain_goes_on : b ≡ true → (c : Bool) → c ≡ is_some (candidates r (parents x))
      → (c ≡ holds whole x) × (calls whole x ≡ 1 + calls s x + calls_on r (parents x))
  chain_goes_on k c l =
      let yes : holds s x ≡ true = sym h ∙ k in (
        l ∙ sym (ap (λ t. holds t x) e ∙ ap (λ d. d && is_some (candidates r (parents x))) yes),
        ap (λ t. calls t x) e ∙ ap (λ d. 1 + calls s x + cond d (calls_on r (parents x)) 0) yes,
      )

pub on_false : (P : Type 0) (b : Bool) → b ≡ false → OnTrue b P
on_false P true e = absurd (cc)
on_false P false e = tt

-- on parents of which there are some
pub none_empty : {E : Type 0} (view : E → Tree) (es : List E) (b : Bool) → b ≡ (length es == 0) → not b ≡ is_some (candidates Wildcard (map view es))
none_empty view [] b h = ap not h
none_empty view (e ∷ es) b h = let no : (suc (length es) == 0) ≡ false = grind (arith, nat_tests) in ap not (h ∙ no)
