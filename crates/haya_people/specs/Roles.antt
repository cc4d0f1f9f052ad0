-- Roles by value: by their names.
use Rattle.std.specs.Prelude.{ℕ, Bool, false, List, [], ◌∷◌, Option, codes, find, map, string_bytes}
use Rattle.std.specs.Str.{bytes_eq}
use Rattle.haya_people.specs.Person.{PersonView, person_view}
use Rattle.haya_people.specs.declared.role.PersonsWithRoles.{PersonsWithRoles}
use Rattle.haya_people.specs.declared.role.PersonRole.{PersonRole}
use Rattle.haya_people.specs.declared.role.PersonRole.TheVariants as role

-- a role by value: the role of this name, or one that has no name, in its own words
pub data RoleView : Type 0 where
  role_named : List ℕ → RoleView
  role_in_words : List ℕ → RoleView

-- its name, or its words
abbrev pub role_name : RoleView → List ℕ
role_name (role_named name) = name
role_name (role_in_words words) = words

abbrev pub role_view : PersonRole → RoleView
role_view role.Translator = role_named (codes "translator")
role_view role.Afterword = role_named (codes "afterword")
role_view role.Foreword = role_named (codes "foreword")
role_view role.Introduction = role_named (codes "introduction")
role_view role.Annotator = role_named (codes "annotator")
role_view role.Commentator = role_named (codes "commentator")
role_view role.Holder = role_named (codes "holder")
role_view role.Compiler = role_named (codes "compiler")
role_view role.Founder = role_named (codes "founder")
role_view role.Collaborator = role_named (codes "collaborator")
role_view role.Organizer = role_named (codes "organizer")
role_view role.CastMember = role_named (codes "cast-member")
role_view role.Composer = role_named (codes "composer")
role_view role.Producer = role_named (codes "producer")
role_view role.ExecutiveProducer = role_named (codes "executive-producer")
role_view role.Writer = role_named (codes "writer")
role_view role.Cinematography = role_named (codes "cinematography")
role_view role.Director = role_named (codes "director")
role_view role.Illustrator = role_named (codes "illustrator")
role_view role.Narrator = role_named (codes "narrator")
role_view (role.Unknown text) = role_in_words (string_bytes text)

-- the roles that have names
abbrev pub named_roles : List PersonRole
named_roles =
    role.Translator
    ∷ role.Afterword
    ∷ role.Foreword
    ∷ role.Introduction
    ∷ role.Annotator
    ∷ role.Commentator
    ∷ role.Holder
    ∷ role.Compiler
    ∷ role.Founder
    ∷ role.Collaborator
    ∷ role.Organizer
    ∷ role.CastMember
    ∷ role.Composer
    ∷ role.Producer
    ∷ role.ExecutiveProducer
    ∷ role.Writer
    ∷ role.Cinematography
    ∷ role.Director
    ∷ role.Illustrator
    ∷ role.Narrator
    ∷ []

-- whether this is the role's name
abbrev pub is_name_of : List ℕ → RoleView → Bool
is_name_of text (role_named name) = bytes_eq text name
is_name_of text (role_in_words words) = false

-- the role with this name
abbrev pub role_read : List ℕ → Option PersonRole
role_read text = find (λ r. is_name_of text (role_view r)) named_roles

-- persons and their role, by value
pub record RolesView : Type 0 where
  pub names : List PersonView
  pub role : RoleView

abbrev pub roles_view : PersonsWithRoles → RolesView
roles_view p = record { names = map person_view p.names.items; role = role_view p.role }
