-- Hits that have the same values at places.
use Rattle.std.specs.Prelude.{ℕ, Bool, false, List, [], ◌∷◌, Option, Some, map, option_and_then, option_map, slice_get}
use Rattle.std.specs.Cmp.Lexicographic.{pointwise}
use Rattle.std.specs.Str.{bytes_eq}
use Rattle.hayagriva.specs.declared.query.Hit.{Hit}
use Rattle.haya_questions.specs.CaseAside.{case_aside}
use Rattle.haya_questions.specs.Fields.{values_at}
use Rattle.haya_questions.specs.Place.{PlaceView}
use Rattle.haya_questions.specs.Value.{shown}

-- the first value at a place, case aside
unfoldable pub first_value : PlaceView → Hit → Option (List ℕ)
first_value place hit =
    option_map (case_aside place.part) (slice_get (map shown (values_at place hit)) 0)

-- a value in front of others
abbrev pub before_others : Option (List (List ℕ)) → List ℕ → Option (List (List ℕ))
before_others others value = option_map (λ values. value ∷ values) others

-- the first values at all the places, where there is one at each
abbrev pub first_values : List PlaceView → Hit → Option (List (List ℕ))
first_values [] hit = Some []
first_values (place ∷ places) hit =
    option_and_then (before_others (first_values places hit)) (first_value place hit)

-- whether there are values on both sides, and the same
abbrev pub are_same : Option (List (List ℕ)) → Option (List (List ℕ)) → Bool
are_same (Some a) (Some b) = pointwise bytes_eq a b
are_same _ _ = false

-- whether two hits have the same first values at all the places
abbrev pub is_like : List PlaceView → Hit → Hit → Bool
is_like places a b = are_same (first_values places a) (first_values places b)
