-- The derived `==` of roles, and of persons with their role, tells whether they are equal by value.
use Rattle.std.proofs.Common.{◌≡◌, Bool, false, List, refl}
use Rattle.std.specs.Str.{bytes_eq}
use Rattle.std.specs.Cmp.Lexicographic.{bytes_decides}
use Rattle.haya_text.proofs.Tells.{Same, Tells, Same-both, Same-along, lists-tell}
use Rattle.haya_people.specs.contracts.role.PersonRolePartialEq.TheImpl as role_eq
use Rattle.haya_people.specs.contracts.role.PersonsWithRolesPartialEq.TheImpl as roles_eq
use Rattle.haya_people.specs.declared.role.PersonRole.{PersonRole}
use Rattle.haya_people.specs.declared.role.PersonRole.TheVariants as role
use Rattle.haya_people.specs.Person.{PersonView, person_view}
use Rattle.haya_people.specs.Roles.{RoleView, role_view, role_named, role_in_words, roles_view}
use Rattle.haya_people.proofs.Equal.{persons-tell}

unfoldable same_role : RoleView → RoleView → Bool
same_role (role_named a) (role_named b) = bytes_eq a b
same_role (role_in_words a) (role_in_words b) = bytes_eq a b
same_role _ _ = false

eq-is : (a b : PersonRole) → role_eq.ghosts.eq a b ≡ same_role (role_view a) (role_view b)
unfolding same_role
eq-is role.Translator role.Translator = refl
eq-is role.Afterword role.Afterword = refl
eq-is role.Foreword role.Foreword = refl
eq-is role.Introduction role.Introduction = refl
eq-is role.Annotator role.Annotator = refl
eq-is role.Commentator role.Commentator = refl
eq-is role.Holder role.Holder = refl
eq-is role.Compiler role.Compiler = refl
eq-is role.Founder role.Founder = refl
eq-is role.Collaborator role.Collaborator = refl
eq-is role.Organizer role.Organizer = refl
eq-is role.CastMember role.CastMember = refl
eq-is role.Composer role.Composer = refl
eq-is role.Producer role.Producer = refl
eq-is role.ExecutiveProducer role.ExecutiveProducer = refl
eq-is role.Writer role.Writer = refl
eq-is role.Cinematography role.Cinematography = refl
eq-is role.Director role.Director = refl
eq-is role.Illustrator role.Illustrator = refl
eq-is role.Narrator role.Narrator = refl
eq-is (role.Unknown s) (role.Unknown t) = refl
eq-is a b = refl

views-tell : (v w : RoleView) → Same (same_role v w) v w
unfolding same_role
views-tell (role_named a) (role_named b) = let d = bytes_decides a b in (λ h. let e = d.0 h in cc, λ h. d.1 cc)
views-tell (role_in_words a) (role_in_words b) = let d = bytes_decides a b in (λ h. let e = d.0 h in cc, λ h. d.1 cc)
views-tell (role_named a) (role_in_words b) = (λ h. cc, λ h. cc)
views-tell (role_in_words a) (role_named b) = (λ h. cc, λ h. cc)

pub roles-tell : Tells role_eq.ghosts.eq role_view
roles-tell a b = rw (eq-is a b) (views-tell (role_view a) (role_view b))

pub persons_with_roles-tell : Tells roles_eq.ghosts.eq roles_view
persons_with_roles-tell a b =
    Same-along _ (λ (p : List PersonView × RoleView). record { names = p.0; role = p.1 }) (λ v. (v.names, v.role)) _ _ refl refl
    (Same-both _ _ _ _ _ _ (lists-tell _ person_view persons-tell a.names.items b.names.items) (roles-tell a.role b.role))
