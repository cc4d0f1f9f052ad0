-- A person as one text.
use Rattle.std.specs.Prelude.{ℕ, List, [], ◌++◌, Option, None, Some, codes}
use Rattle.haya_people.specs.Person.{PersonView}

abbrev pub family_text : Option (List ℕ) → List ℕ → List ℕ
family_text None name = name
family_text (Some prefix) name = prefix ++ (codes " " ++ name)

abbrev pub behind_comma : Option (List ℕ) → List ℕ
behind_comma None = []
behind_comma (Some part) = codes ", " ++ part

-- the prefix and the family name, the suffix, the given name
abbrev pub person_text : PersonView → List ℕ
person_text p =
    family_text p.prefix p.name ++ (behind_comma p.suffix ++ behind_comma p.given_name)
