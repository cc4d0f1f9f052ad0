-- Which places candidates are.
use Rattle.std.specs.Prelude.{◌≡◌, ℕ, List, [], ◌∷◌, Option, Result, IfOk, option_map}
use Rattle.haya_entry.specs.Tree.{Tree}
use Rattle.haya_selectors.specs.declared.places.Candidates.{Candidates}
use Rattle.haya_selectors.specs.declared.places.Candidates.TheVariants as variant
use Rattle.haya_selectors.specs.Places.{places}

abbrev pub candidate_places : List Tree → Candidates → List ℕ
candidate_places xs variant.All = places xs
candidate_places xs (variant.One i) = i ∷ []
candidate_places xs variant.Nothing = []
candidate_places xs (variant.Kept is) = is.items

-- candidates on a list that are these places, or none
abbrev pub AreCandidates : List Tree → Option Candidates → Option (List ℕ) → Type 0
AreCandidates xs o is = option_map (candidate_places xs) o ≡ is

-- a call that ends well answers them
abbrev pub GivesCandidates : {E : Type 0} → List Tree → Result (Option Candidates) E →
    Option (List ℕ) → Type 0
GivesCandidates xs result is = IfOk result (λ o. AreCandidates xs o is)
