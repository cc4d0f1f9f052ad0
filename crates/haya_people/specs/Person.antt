-- Persons by value.
use Rattle.std.specs.Prelude.{ℕ, Bool, true, false, List, Option, option_map, string_bytes}
use Rattle.haya_people.specs.declared.person.Person.{Person}
use Rattle.haya_people.specs.declared.person.PersonError.{PersonError}
use Rattle.haya_people.specs.declared.person.PersonError.TheVariants.{OutOfMemory}

-- a person with the bytes of each part
pub record PersonView : Type 0 where
  pub name : List ℕ
  pub given_name : Option (List ℕ)
  pub prefix : Option (List ℕ)
  pub suffix : Option (List ℕ)
  pub comma_suffix : Bool
  pub alias : Option (List ℕ)

abbrev pub person_view : Person → PersonView
person_view p = record {
  name = string_bytes p.name;
  given_name = option_map string_bytes p.given_name;
  prefix = option_map string_bytes p.prefix;
  suffix = option_map string_bytes p.suffix;
  comma_suffix = p.comma_suffix;
  alias = option_map string_bytes p.alias;
}

-- whether an allocation failed
abbrev pub is_memory : PersonError → Bool
is_memory OutOfMemory = true
is_memory _ = false
