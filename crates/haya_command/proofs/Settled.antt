-- Selectors that have one answer at each entry.
use Rattle.std.proofs.Common.{◌≡◌, ◌<◌, ◌≤◌, ◌+◌, ℕ, zero, suc, Bool, true, false, true≢false, not, ◌||◌, List, [], ◌∷◌, ◌++◌, length, take, get_or, refl, sym, arith, add-one, Vec, Global}
use Rattle.std.specs.Bool.{IsTrue}
use Rattle.std.proofs.Math.Bool.{beq}
use Rattle.std.proofs.Math.Seq.{take-length, take-suc}
use Rattle.haya_selectors.specs.declared.selector.Selector.{Selector}
use Rattle.haya_selectors.specs.declared.selector.Selector.TheVariants as variant
use Rattle.haya_selectors.proofs.Syntaxes.{syntax-alt}
use Rattle.hayagriva.specs.Holds.{holds, some_holds}
use Rattle.hayagriva.specs.Syntax.{Syntax, members_of, syntax}
use Rattle.hayagriva.specs.Tree.{Tree}

-- the selector holds at each entry, or at none, as the answer says
abbrev pub AlwaysAnswers : Syntax → Bool → Type 0
AlwaysAnswers s answer = (x : Tree) → holds s x ≡ answer

abbrev MembersAnswer : List Selector → Bool → Type 0
MembersAnswer ss answer = (x : Tree) → some_holds (members_of ss) x ≡ answer

or_true : (b c : Bool) → c ≡ true → (b || c) ≡ true
or_true true c e = refl
or_true false c e = e

or_left : (b c : Bool) → b ≡ true → (b || c) ≡ true
or_left true c e = refl
or_left false c e = cc

or_false : (b c : Bool) → b ≡ false → c ≡ false → (b || c) ≡ false
or_false true c e f = cc
or_false false c e f = f

member_holds : (ss : List Selector) (i : ℕ) (d : Selector) → i < length ss → AlwaysAnswers (syntax (get_or ss i d)) true → MembersAnswer ss true
member_holds [] i d l h x = absurd (omega (arith, l))
member_holds (s ∷ ss) zero d l h x = or_left _ _ (h x)
member_holds (s ∷ ss) (suc i) d l h x = or_true _ _ (member_holds ss i d (omega (arith, l)) h x)

or_parts : (b c : Bool) → (b || c) ≡ false → (b ≡ false) × (c ≡ false)
or_parts true c e = absurd (true≢false e)
or_parts false c e = (refl, e)

none_push : (ss : List Selector) (s : Selector) → MembersAnswer ss false → AlwaysAnswers (syntax s) false → MembersAnswer (ss ++ s ∷ []) false
none_push [] s h k x = or_false _ _ (k x) refl
none_push (t ∷ ss) s h k x = or_false _ _ (or_parts _ _ (h x)).0 (none_push ss s (λ y. (or_parts _ _ (h y)).1) k x)

-- a member that has the answer
pub settled_by : (ss : List Selector) (i : ℕ) (s : Selector) (settled answer : Bool) → s ≡ get_or ss i s → i < length ss → (IsTrue settled → AlwaysAnswers (syntax s) answer) → beq settled answer ≡ true → IsTrue answer → MembersAnswer ss answer
settled_by ss i s true true e l h b a = member_holds ss i s l (rw e at (h refl))
settled_by ss i s _ false e l h b a = absurd (true≢false (sym a))
settled_by ss i s false true e l h b a = absurd (true≢false (sym b))

-- a member that holds nowhere, where the answer is that none does
pub none_more : (ss : List Selector) (i : ℕ) (s : Selector) (settled answer : Bool) → s ≡ get_or ss i s → i < length ss → (IsTrue settled → AlwaysAnswers (syntax s) answer) → beq settled answer ≡ false → (answer ≡ false → MembersAnswer (take i ss) false)
    → answer ≡ false → MembersAnswer (take (i + 1) ss) false
none_more ss i s true false e l h b so a = rw (add-one, take-suc ss i s l, ← e) (none_push (take i ss) s (so refl) (h refl))
none_more ss i s false false e l h b so a = absurd (true≢false b)
none_more ss i s _ true e l h b so a = absurd (true≢false a)

pub none_found : (ss : List Selector) (i : ℕ) (answer : Bool) → length ss ≤ i → i ≤ length ss → (answer ≡ false → MembersAnswer (take i ss) false) → IsTrue (not answer) → MembersAnswer ss answer
none_found ss i true l k so a = absurd (true≢false (sym a))
none_found ss i false l k so a = let all : i ≡ length ss = omega arith in rw (all, take-length) at (so refl)

-- a `|` answers as its members
pub alt_answers : (s : Selector) (members : Vec Selector Global) (items : List Selector) (answer : Bool) → s ≡ variant.Alt members → items ≡ members.items → MembersAnswer items answer → AlwaysAnswers (syntax s) answer
alt_answers s members items answer e f h x = rw (e, syntax-alt members, ← f) (h x)
