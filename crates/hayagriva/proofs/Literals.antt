-- What the hits of a query are by the computed reading of its text, in words of entries.
use Rattle.std.proofs.Common.{◌≡◌, ℕ, List, [], ◌∷◌, Option, refl, sym, ap, ◌∙◌}
use Rattle.std.specs.Prelude.{All, filter, map, Ok}
use Rattle.std.specs.List.{AllZip}
use Rattle.std.proofs.lemmas.List.Elements.{All-nil, All-cons}
use Rattle.haya_entry.specs.Tree.{Tree}
use Rattle.hayagriva.specs.declared.query.Hit.{Hit}
use Rattle.haya_selectors.specs.Binds.{bound_to}
use Rattle.haya_selectors.specs.Descent.{selector_read}
use Rattle.haya_selectors.specs.Holds.{holds}
use Rattle.haya_selectors.specs.InWords.{picks, named_entry}
use Rattle.hayagriva.specs.Query.{hit_entry, hit_bound, IsHit, AreHits}
use Rattle.haya_selectors.specs.Reading.{IfReads}
use Rattle.haya_selectors.specs.Syntax.{Syntax}
use Rattle.haya_selectors.proofs.Choices.{filter-same}
use Rattle.haya_selectors.proofs.InWords.{bound_to-named_entry, holds-picks}

module _ (s : Syntax) where
  entries-hits : (ys : List Tree) (hits : List Hit) → AllZip (IsHit s) ys hits → map hit_entry hits ≡ ys
  entries-hits [] [] h = refl
  entries-hits (y ∷ ys) (hit ∷ hits) h = rw (h.0.entry, entries-hits ys hits h.1) refl
  entries-hits [] (hit ∷ hits) h = absurd h
  entries-hits (y ∷ ys) [] h = absurd h

  module _ (name : List ℕ) (f : Tree → Option Tree) (same : (x : Tree) → bound_to s x name ≡ f x) where
    bound-hits : (ys : List Tree) (hits : List Hit) → AllZip (IsHit s) ys hits → All (λ hit. hit_bound hit name ≡ f (hit_entry hit)) hits
    bound-hits [] [] h = All-nil (λ hit. hit_bound hit name ≡ f (hit_entry hit))
    bound-hits (y ∷ ys) (hit ∷ hits) h =
        All-cons (λ hit. hit_bound hit name ≡ f (hit_entry hit)) hit hits
        (h.0.bindings.entries name ∙ ap (λ x. bound_to s x name) (sym h.0.entry) ∙ same (hit_entry hit)) (bound-hits ys hits h.1)
    bound-hits [] (hit ∷ hits) h = absurd h
    bound-hits (y ∷ ys) [] h = absurd h

module _ (text : List ℕ) where
  pub hits_are : (s : Syntax) (xs : List Tree) (hits : List Hit) → selector_read text ≡ Ok s → AreHits s xs hits → IfReads text (λ s. map hit_entry hits ≡ filter (picks s) xs)
  hits_are s xs hits e are = rw e (entries-hits s (filter (holds s) xs) hits are ∙ filter-same (holds-picks s) xs)

  pub name_is : (s : Syntax) (xs : List Tree) (hits : List Hit) → selector_read text ≡ Ok s → AreHits s xs hits
      → (name : List ℕ) → IfReads text (λ s. All (λ hit. hit_bound hit name ≡ named_entry s name (hit_entry hit)) hits)
  name_is s xs hits e are name = rw e (bound-hits s name (named_entry s name) (bound_to-named_entry s name) (filter (holds s) xs) hits are)
