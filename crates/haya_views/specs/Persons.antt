-- The persons of an entry, one by one.
use Rattle.std.specs.Prelude.{ℕ, List, [], ◌∷◌, Option, None, Some, codes, flat_map, map, option_map, unwrap_or}
use Rattle.std.specs.Map.{lookup}
use Rattle.std.specs.Str.{bytes_eq}
use Rattle.haya_entry.specs.Tree.{Tree, fields}
use Rattle.haya_people.specs.Person.{PersonView, person_view}
use Rattle.haya_people.specs.Roles.{RolesView, role_name, role_view}
use Rattle.haya_views.specs.declared.persons.Credit.{Credit}

-- a person, and the name of the role, or its words, where the field has roles
pub record CreditView : Type 0 where
  pub person : PersonView
  pub role : Option (List ℕ)

abbrev pub credit_view : Credit → CreditView
credit_view c = record {
  person = person_view c.person.now;
  role = option_map (λ r. role_name (role_view r.now)) c.role;
}

abbrev pub without_role : PersonView → CreditView
without_role person = record { person = person; role = None }

-- each person of a list, with the list's role
abbrev pub with_role : RolesView → List CreditView
with_role r = map (λ person. record { person = person; role = Some (role_name r.role) }) r.names

-- each name that a field has persons by, with these in order
abbrev pub credits_table : Tree → List (List ℕ × List CreditView)
credits_table t =
    (codes "author", map without_role (unwrap_or (fields t).authors []))
    ∷ (codes "editor", map without_role (unwrap_or (fields t).editors []))
    ∷ (codes "affiliated", flat_map with_role (unwrap_or (fields t).affiliated []))
    ∷ []

-- the persons of the field with a name
abbrev pub credits : Tree → List ℕ → List CreditView
credits t name = unwrap_or (lookup (bytes_eq name) (credits_table t)) []
