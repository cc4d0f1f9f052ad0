-- The first value over entries that are asked in turn.
use Rattle.std.proofs.Common.{◌≡◌, ℕ, List, Option, refl}
use Rattle.std.specs.Prelude.{option_and_then, option_map}
use Rattle.std.specs.List.{filter_map}
use Rattle.haya_entry.specs.Levels.{Asks, all_asked, first_answers, rest_asked}
use Rattle.haya_entry.specs.Lookups.{first}
use Rattle.haya_entry.specs.Tree.{Tree, at}

-- where each call answers an entry's value, the answer is the first value over the paths
pub asks-first : {S E T V : Type 0} {value : E → Tree} {step : S → E → Option T → S → Type 0} (found : Tree → Option V) (seen : T → V)
    → ((s u : S) (e : E) (answer : Option T) → step s e answer u → option_map seen answer ≡ found (value e))
    → {x : Tree} {s u : S} {paths : List (List ℕ)} {n : ℕ} {answer : Option T} → Asks value step x s paths n answer u
    → option_map seen answer ≡ first (filter_map (λ path. option_and_then found (at x path)) paths)
asks-first found seen gives all_asked = refl
asks-first found seen gives (first_answers here call) = let h = gives _ _ _ _ call in rw (here, ← h) refl
asks-first found seen gives (rest_asked here call rest) = let h = gives _ _ _ _ call in rw (here, ← h) (asks-first found seen gives rest)
