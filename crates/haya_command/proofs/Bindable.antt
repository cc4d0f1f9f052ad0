-- Members of a selector that can bind a name, and places whose names can be bound.
use Rattle.std.proofs.Common.{◌≡◌, ◌⊎◌, inl, inr, ◌<◌, ◌≤◌, ◌+◌, ℕ, zero, suc, Bool, true, false, ◌||◌, List, [], ◌∷◌, ◌++◌, length, take, get_or, refl, sym, ◌∙◌, arith, add-one, true≢false}
use Rattle.std.specs.Prelude.{All, Any}
use Rattle.std.proofs.Math.Seq.{take-length, take-suc}
use Rattle.std.proofs.lemmas.List.Elements.{All-push}
use Rattle.haya_selectors.specs.declared.selector.Selector.{Selector}
use Rattle.std.specs.Prelude.{string_bytes}
use Rattle.std.specs.Str.{chars}
use Rattle.hayagriva.specs.Syntax.{Syntax, members_of, syntax}
use Rattle.hayagriva.specs.Reading.{TextReads}
use Rattle.haya_questions.specs.Place.{PlaceView, place_view}
use Rattle.haya_command.specs.Bound.{IsNamesFault, IsUnbound, SomeColumn, SomePlace, SomeRepeated, can_bind, some_can_bind}
use Rattle.haya_command.specs.Picks.{wanted}
use Rattle.haya_command.specs.declared.error.CommandError.{CommandError}
use Rattle.haya_command.specs.declared.error.CommandError.TheVariants.{OutOfMemory}
use Rattle.haya_command.specs.declared.options.Options.{Options}

or_left : (b c : Bool) → b ≡ true → (b || c) ≡ true
or_left true c e = refl
or_left false c e = cc

or_right : (b c : Bool) → c ≡ true → (b || c) ≡ true
or_right true c e = refl
or_right false c e = e

or_false : (b c : Bool) → b ≡ false → c ≡ false → (b || c) ≡ false
or_false true c e f = cc
or_false false c e f = f

or_parts : (b c : Bool) → (b || c) ≡ false → (b ≡ false) × (c ≡ false)
or_parts true c e = absurd (true≢false e)
or_parts false c e = (refl, e)

module _ (name : List ℕ) where
  there : (ss : List Selector) (i : ℕ) (d : Selector) → i < length ss → can_bind name (syntax (get_or ss i d)) ≡ true → some_can_bind name (members_of ss) ≡ true
  there [] i d l h = absurd (omega (arith, l))
  there (s ∷ ss) zero d l h = or_left _ _ h
  there (s ∷ ss) (suc i) d l h = or_right _ _ (there ss i d (omega (arith, l)) h)

  none_push : (ss : List Selector) (s : Selector) → some_can_bind name (members_of ss) ≡ false → can_bind name (syntax s) ≡ false → some_can_bind name (members_of (ss ++ s ∷ [])) ≡ false
  none_push [] s none last = or_false _ _ last refl
  none_push (t ∷ ss) s none last = let parts = or_parts _ _ none in or_false _ _ parts.0 (none_push ss s parts.1 last)

  -- the member at a place can
  pub one_can : (ss : List Selector) (i : ℕ) (s : Selector) (b : Bool) → s ≡ get_or ss i s → i < length ss → b ≡ can_bind name (syntax s) → b ≡ true → true ≡ some_can_bind name (members_of ss)
  one_can ss i s b is l can holds = sym (there ss i s l (rw is at (sym can ∙ holds)))

  -- none so far can, and neither can the next
  pub none_more : (ss : List Selector) (i : ℕ) (s : Selector) (b : Bool) → s ≡ get_or ss i s → i < length ss → b ≡ can_bind name (syntax s) → b ≡ false → some_can_bind name (members_of (take i ss)) ≡ false
      → some_can_bind name (members_of (take (i + 1) ss)) ≡ false
  none_more ss i s b is l can fails none = rw (add-one, take-suc ss i s l, ← is) (none_push (take i ss) s none (sym can ∙ fails))

-- ---- places, one after another
module _ {X : Type 0} (P : X → Type 0) (xs : List X) where
  -- one more
  pub all_more : (i : ℕ) (x : X) → x ≡ get_or xs i x → i < length xs → All P (take i xs) → P x → All P (take (i + 1) xs)
  all_more i x is l so_far holds = rw (add-one, take-suc xs i x l, ← is) (All-push P (take i xs) x so_far holds)

  -- all of them
  pub all_seen : (i : ℕ) → length xs ≤ i → i ≤ length xs → All P (take i xs) → All P xs
  all_seen i low high so_far = let all : i ≡ length xs = omega arith in rw (all, take-length) at so_far

  pub one_there : (i : ℕ) (x : X) → x ≡ get_or xs i x → i < length xs → P x → Any P xs
  one_there i x is l holds = (i, x, l, sym is, holds)

-- a fault of one of them
pub fault_there : {X : Type 0} (M : Type 0) (P : X → Type 0) (xs : List X) (i : ℕ) (x : X) → x ≡ get_or xs i x → i < length xs → M ⊎ P x → M ⊎ Any P xs
fault_there M P xs i x is l (inl memory) = inl memory
fault_there M P xs i x is l (inr holds) = inr (one_there P xs i x is l holds)

-- what is told of the places of one kind is told of the options
module _ (options : Options) (s : Syntax) (reads : TextReads (chars (string_bytes options.selector)) s) (e : CommandError) where
  abbrev Unbound : PlaceView → Type 0
  Unbound place = IsUnbound (wanted options.invert s) place e

  some_fault : (e ≡ OutOfMemory) ⊎ SomePlace Unbound options → IsNamesFault options e
  some_fault (inl memory) = inl memory
  some_fault (inr unbound) = inr (inr (s, reads, unbound))

  pub tests_fault : (e ≡ OutOfMemory) ⊎ Any (λ t. Unbound (place_view t.place)) options.questions.tests.items → IsNamesFault options e
  tests_fault (inl memory) = some_fault (inl memory)
  tests_fault (inr unbound) = some_fault (inr (inl unbound))

  pub keys_fault : (e ≡ OutOfMemory) ⊎ Any (λ k. Unbound (place_view k.place)) options.questions.keys.items → IsNamesFault options e
  keys_fault (inl memory) = some_fault (inl memory)
  keys_fault (inr unbound) = some_fault (inr (inr (inl unbound)))

  pub repeats_fault : (e ≡ OutOfMemory) ⊎ SomeRepeated Unbound options.questions.repeats → IsNamesFault options e
  repeats_fault (inl memory) = some_fault (inl memory)
  repeats_fault (inr unbound) = some_fault (inr (inr (inr (inl unbound))))

  pub columns_fault : (e ≡ OutOfMemory) ⊎ SomeColumn Unbound options.columns → IsNamesFault options e
  columns_fault (inl memory) = some_fault (inl memory)
  columns_fault (inr unbound) = some_fault (inr (inr (inr (inr unbound))))
