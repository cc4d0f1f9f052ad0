-- The forms of a whole name.
use Rattle.std.specs.Prelude.{ℕ, Bool, true, List, [], ◌∷◌, ◌++◌, Option, option_map, is_some, if◌then◌else◌}
use Rattle.std.specs.Option.{option_map_or}
use Rattle.haya_people.specs.Initials.{initials_of}
use Rattle.haya_people.specs.Person.{PersonView}
use Rattle.haya_people.specs.Signs.{blank, comma, full_stop}

-- a text between two others, nothing where there is no text
abbrev pub between : List ℕ → List ℕ → Option (List ℕ) → List ℕ
between before after text = option_map_or (λ t. before ++ (t ++ after)) text []

-- a given name, or its initials with hyphens, a full stop and a blank behind each
abbrev pub given_form : Bool → List ℕ → List ℕ
given_form by_initials given_name =
    if by_initials
    then initials_of (record { delimiter = full_stop ∷ blank ∷ []; with_hyphen = true }) given_name
    else given_name

-- the family name first: the prefix stands before it, or otherwise behind the given
-- name; the suffix stands last
unfoldable pub name_first : Bool → Bool → PersonView → List ℕ
name_first by_initials prefix_given_name v =
    (if prefix_given_name then [] else between [] (blank ∷ []) v.prefix)
    ++ (v.name
    ++ (between (comma ∷ blank ∷ []) [] (option_map (given_form by_initials) v.given_name)
    ++ ((if prefix_given_name
    then between (if is_some v.given_name then blank ∷ [] else []) [] v.prefix else [])
    ++ between (comma ∷ blank ∷ []) [] v.suffix)))

-- the given name first, then the prefix, the family name and the suffix
unfoldable pub given_first : Bool → PersonView → List ℕ
given_first by_initials v =
    between [] (blank ∷ []) (option_map (given_form by_initials) v.given_name)
    ++ (between [] (blank ∷ []) v.prefix
    ++ (v.name
    ++ between (blank ∷ []) [] v.suffix))
