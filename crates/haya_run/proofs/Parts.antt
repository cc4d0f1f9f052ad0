-- What is printed over a library in parts.
use Rattle.std.proofs.Common.{ℕ, List, [], ◌∷◌, ◌++◌, refl, sym}
use Rattle.std.specs.Prelude.{filter}
use Rattle.std.specs.List.{AllZip, concat, flat_map}
use Rattle.std.proofs.lemmas.List.Elements.{filter-append}
use Rattle.std.proofs.lemmas.List.Folds.{concat-append}
use Rattle.hayagriva.specs.Holds.{holds}
use Rattle.hayagriva.specs.Syntax.{Syntax}
use Rattle.hayagriva.specs.Tree.{Tree}
use Rattle.hayagriva.proofs.Parts.{AllZip-append}
use Rattle.haya_hits.specs.Line.{AreLinesAt, IsLineAt}

module _ (s : Syntax) where
  pub AreLinesAt-append : (a b : List Tree) (first second : List ℕ) → AreLinesAt s a first → AreLinesAt s b second → AreLinesAt s (a ++ b) (first ++ second)
  AreLinesAt-append a b first second f g = record {
    lines = f.lines ++ g.lines;
    each =
        rw (filter-append (holds s) a b)
        (AllZip-append (IsLineAt s) (filter (holds s) a) (filter (holds s) b) f.lines g.lines f.each g.each);
    text = rw (f.text, g.text) (sym (concat-append f.lines g.lines));
  }

  pub AreLinesAt-many : (parts : List (List Tree)) (printed : List (List ℕ)) → AllZip (AreLinesAt s) parts printed → AreLinesAt s (flat_map (λ a. a) parts) (concat printed)
  AreLinesAt-many [] [] h = record { lines = []; each = tt; text = refl }
  AreLinesAt-many [] (p ∷ printed) h = absurd h
  AreLinesAt-many (a ∷ parts) [] h = absurd h
  AreLinesAt-many (a ∷ parts) (p ∷ printed) h = AreLinesAt-append a (flat_map (λ b. b) parts) p (concat printed) h.0 (AreLinesAt-many parts printed h.1)
