-- Texts that are compared case aside: in default case fold. A key is compared as it is.
use Rattle.std.specs.Prelude.{ℕ, Bool, List, [], ◌∷◌, ◌||◌, Option, None, Some, nat_eq}
use Rattle.std.specs.List.{starts_with}
use Rattle.haya_people.specs.Particles.{folded}
use Rattle.haya_questions.specs.Place.{PartView, KeyPart}
use Rattle.haya_questions.specs.Value.{ValueView, KeyValue, PersonValue, RoleValue, shown}

-- the text that the values of a part are compared with
unfoldable pub case_aside : PartView → List ℕ → List ℕ
case_aside KeyPart text = text
case_aside part text = folded text

-- the text by which a value is compared
unfoldable pub compared : ValueView → List ℕ
compared (KeyValue text) = text
compared value = folded (shown value)

-- the family name of a person
abbrev pub family_name : ValueView → Option (List ℕ)
family_name (PersonValue person) = Some person.name
family_name (RoleValue role person) = Some person.name
family_name value = None

-- whether the second text has the first in it
abbrev pub has_part : List ℕ → List ℕ → Bool
has_part part [] = starts_with nat_eq [] part
has_part part (b ∷ bs) = starts_with nat_eq (b ∷ bs) part || has_part part bs
