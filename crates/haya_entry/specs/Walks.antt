-- What the steps of a search over ancestors answer.
use Rattle.std.specs.Prelude.{◌≡◌, ◌≢◌, ℕ, suc, ◌+◌, ◌≤◌, List, [], Option, None, Some}
use Rattle.haya_entry.specs.Levels.{Asks}
use Rattle.haya_entry.specs.Tree.{Tree}
use Rattle.haya_entry.specs.declared.entry.ancestors.Depth.{Depth}
use Rattle.haya_entry.specs.declared.entry.ancestors.Depth.TheOpen as open'
use Rattle.haya_entry.specs.declared.entry.ancestors.Depth.TheFolds.{fold-Depth}
use Rattle.haya_entry.specs.declared.entry.ancestors.Outcome.{Outcome}
use Rattle.haya_entry.specs.declared.entry.ancestors.Outcome.TheVariants.{Nobody, Asked, Answered}

-- how many levels lie between the parents and those that are asked
abbrev pub levels_further_step : open'.Depth-F ℕ → ℕ
levels_further_step open'.One = 0
levels_further_step (open'.Next d) = suc d.now

abbrev pub levels_further : Depth → ℕ
levels_further = fold-Depth ℕ levels_further_step

-- the answer of a walk
abbrev pub answer_of : {T : Type 0} → Outcome T → Option T
answer_of Nobody = None
answer_of Asked = None
answer_of (Answered y) = Some y

-- nobody stands there, or somebody was asked
abbrev pub IsReached : {T : Type 0} → Outcome T → List (List ℕ) → Type 0
IsReached Nobody paths = paths ≡ []
IsReached Asked paths = paths ≢ []
IsReached (Answered y) paths = Unit {0}

-- asked, with at least a step for each call
abbrev pub AsksWithin : {S E T : Type 0} → (E → Tree) → (S → E → Option T → S → Type 0)
    → Tree → S → List (List ℕ) → Option T → S → ℕ → ℕ → Type 0
AsksWithin value step x s paths answer u from to =
    (n : ℕ) × Asks value step x s paths n answer u × (from + n ≤ to)
