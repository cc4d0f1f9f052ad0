-- The words that a run is given.
use Rattle.std.specs.Prelude.{◌≡◌, ◌≢◌, ◌≤◌, ℕ, List, [], length, String, Vec, Result, Ok, Err}
use Rattle.std.specs.declared.alloc.Global.{Global}
use Rattle.haya_run.specs.declared.error.RunError.{RunError}
use Rattle.haya_run.specs.declared.error.RunError.TheVariants.{Usage}

-- the words, or none where they can't be had
abbrev pub words_of : Result (Vec (String Global) Global) RunError → List (String Global)
words_of (Ok words) = words.items
words_of (Err fault) = []

-- the status that a run may end with: 2 where there isn't exactly one word, or one isn't UTF-8
abbrev pub IsStatus : Result (Vec (String Global) Global) RunError → ℕ → Type 0
IsStatus (Ok words) status =
    (length words.items ≢ 1 → status ≡ 2) × (length words.items ≡ 1 → status ≤ 1)
IsStatus (Err fault) status =
    (fault ≡ Usage → status ≡ 2) × (fault ≢ Usage → status ≡ 1)
