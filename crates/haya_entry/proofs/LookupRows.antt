-- Worked rows of the look-ups.
use Rattle.std.proofs.Common.{◌≡◌, false, ℕ, List, [], ◌∷◌, None, Some, refl}
use Rattle.std.specs.Prelude.{codes}
use Rattle.haya_entry.specs.declared.types.EntryType.{EntryType}
use Rattle.haya_entry.specs.declared.types.EntryType.TheVariants.{Anthology, Article, Audio, Blog, Book, Chapter, Post, Report, Scene, Video, Web}
use Rattle.haya_entry.specs.Lookups.{add_affiliated_persons, affiliated_with_role, collections, containers, depth_first_paths, entries_of_type, first_value, full_path}
use Rattle.haya_entry.specs.Tree.{Tree, fields, new_entry, with_fields, with_parents}
use Rattle.haya_people.specs.Person.{PersonView}
use Rattle.haya_people.specs.Roles.{role_named, role_in_words}

-- a work of a type with these parents
abbrev work : EntryType → List Tree → Tree
work kind ps = with_parents ps (new_entry [] kind)

container_rows :
    (containers (work Post (work Web [] ∷ work Blog [] ∷ work Web [] ∷ [])) ≡ (1 ∷ []) ∷ (0 ∷ []) ∷ (2 ∷ []) ∷ [])
    × (containers (work Book (work Book [] ∷ [])) ≡ [])
    × (containers (work Post []) ≡ [])
container_rows = (refl, refl, refl)

-- an article whose first parent, a web page, appears in another one, and whose second, a book, in a
-- report and two series
abbrev article : Tree
article = work Article (work Web (work Web [] ∷ []) ∷ work Book (work Report [] ∷ work Book [] ∷ work Anthology [] ∷ []) ∷ [])

collection_rows :
    (collections article ≡ (1 ∷ 1 ∷ []) ∷ (1 ∷ 2 ∷ []) ∷ [])
    × (collections (work Book (work Web [] ∷ [])) ≡ [])
    × (collections (work Web (work Web [] ∷ [])) ≡ [])
collection_rows = (refl, refl, refl)

depth_first_rows :
    (depth_first_paths article ≡ [] ∷ (0 ∷ []) ∷ (0 ∷ 0 ∷ []) ∷ (1 ∷ []) ∷ (1 ∷ 0 ∷ []) ∷ (1 ∷ 1 ∷ []) ∷ (1 ∷ 2 ∷ []) ∷ [])
    × (entries_of_type Web article ≡ (0 ∷ []) ∷ (0 ∷ 0 ∷ []) ∷ [])
    × (entries_of_type Article article ≡ [] ∷ [])
    × (entries_of_type Blog article ≡ [])
depth_first_rows = (refl, refl, refl, refl)

abbrev scene : Tree
scene = work Scene (work Video [] ∷ work Audio [] ∷ [])

full_rows :
    (full_path (work Chapter (scene ∷ [])) ≡ Some (0 ∷ 0 ∷ []))
    × (full_path (work Book (scene ∷ [])) ≡ Some [])
    × (full_path (work Chapter []) ≡ Some [])
    × (full_path (work Chapter (work Scene [] ∷ [])) ≡ Some (0 ∷ []))
full_rows = (refl, refl, refl, refl)

-- a work in a language
abbrev in_language : List ℕ → Tree → Tree
in_language text = with_fields (λ f. record f { language = Some text })

-- the second parent comes before what is above the first
value_rows :
    (first_value (λ t. (fields t).language) (work Book (work Book (in_language (codes "de") (work Book []) ∷ []) ∷ in_language (codes "en") (work Book []) ∷ [])) ≡ Some (codes "en"))
    × (first_value (λ t. (fields t).language) (in_language (codes "fr") (work Book (in_language (codes "en") (work Book []) ∷ []))) ≡ Some (codes "fr"))
    × (first_value (λ t. (fields t).language) (work Book (work Book [] ∷ [])) ≡ None)
value_rows = (refl, refl, refl)

abbrev person : List ℕ → PersonView
person name = record {
  name = name;
  given_name = None;
  prefix = None;
  suffix = None;
  comma_suffix = false;
  alias = None;
}

-- two translators and a person with a role that has no name
abbrev translated : Tree
translated =
    add_affiliated_persons (record { names = person (codes "b") ∷ []; role = role_named (codes "translator") })
    (add_affiliated_persons (record { names = person (codes "c") ∷ []; role = role_in_words (codes "translator") })
    (add_affiliated_persons (record { names = person (codes "a") ∷ []; role = role_named (codes "translator") }) (work Book [])))

role_rows :
    (affiliated_with_role (role_named (codes "translator")) translated ≡ person (codes "a") ∷ person (codes "b") ∷ [])
    × (affiliated_with_role (role_in_words (codes "translator")) translated ≡ person (codes "c") ∷ [])
    × (affiliated_with_role (role_named (codes "director")) translated ≡ [])
    × (affiliated_with_role (role_named (codes "translator")) (work Book []) ≡ [])
role_rows = (refl, refl, refl, refl)
