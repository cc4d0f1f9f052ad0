-- Pages as they are written in `.bib` files.
use Rattle.std.specs.Prelude.{ℕ, ◌==◌, ◌||◌, Bool, false, List, [], ◌∷◌, if◌then◌else◌}

-- a hyphen, a dash or a minus
abbrev pub is_dash : ℕ → Bool
is_dash c = (c == 45) || (c == 8211) || (c == 8212) || (c == 8722)

abbrev pub begins_dash : List ℕ → Bool
begins_dash [] = false
begins_dash (c ∷ cs) = is_dash c

-- with a hyphen for each run of dashes, which its last one writes
abbrev pub single_hyphens : List ℕ → List ℕ
single_hyphens [] = []
single_hyphens (c ∷ cs) =
    if is_dash c then (if begins_dash cs then single_hyphens cs else 45 ∷ single_hyphens cs)
    else c ∷ single_hyphens cs
