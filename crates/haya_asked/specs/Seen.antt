-- Values that were seen, each with the place under which they were put.
use Rattle.std.specs.Prelude.{ℕ, List, Option, None, Some, if◌then◌else◌, map, string_bytes}
use Rattle.std.specs.Cmp.Lexicographic.{pointwise}
use Rattle.std.specs.HashMap.{get_by}
use Rattle.std.specs.Option.{option_or}
use Rattle.std.specs.Str.{bytes_eq}
use Rattle.haya_asked.specs.declared.seen.Seen.{Seen}

-- the place under which values were put
unfoldable pub place_of : Seen → List (List ℕ) → Option ℕ
place_of seen values =
    get_by (λ k. pointwise bytes_eq values (map string_bytes k.items)) seen.places

-- the places, where these values have this one if they had none
abbrev pub with_values : (List (List ℕ) → Option ℕ) → List (List ℕ) → ℕ → List (List ℕ) → Option ℕ
with_values places values place others =
    option_or (places others) (if pointwise bytes_eq others values then Some place else None)

-- the same of a hit, whose values are none where it lacks one
abbrev pub with_some : (List (List ℕ) → Option ℕ) → Option (List (List ℕ)) → ℕ → List (List ℕ)
    → Option ℕ
with_some places None place others = places others
with_some places (Some values) place others = with_values places values place others
