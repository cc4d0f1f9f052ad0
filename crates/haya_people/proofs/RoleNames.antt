-- A text is read as the role whose name it is.
use Rattle.std.proofs.Common.{◌≡◌, inl, inr, ℕ, Bool, true, List, [], ◌∷◌, Some, refl, sym, ap, subst}
use Rattle.std.specs.Prelude.{find}
use Rattle.std.proofs.lemmas.Bool.{cases_Bool}
use Rattle.std.proofs.lemmas.Slice.Eq.{bytes_eq-Decides}
use Rattle.haya_people.specs.Roles.{RoleView, is_name_of, named_roles, role_in_words, role_named, role_read, role_view}
use Rattle.haya_people.specs.declared.role.PersonRole.{PersonRole}
use Rattle.haya_people.specs.declared.role.PersonRole.TheVariants as role

-- what is found is as it was asked
find-is : {X : Type 0} (test : X → Bool) (xs : List X) (y : X) → find test xs ≡ Some y → test y ≡ true
find-is test [] y h = cc
find-is test (x ∷ xs) y h = elim (cases_Bool (test x)) [
  | inl holds ↦ let found = rw holds at h in let same : x ≡ y = cc in subst (λ z. test z ≡ true) same holds
  | inr fails ↦ find-is test xs y (rw fails at h)
]

is_name : (text : List ℕ) (v : RoleView) → is_name_of text v ≡ true → v ≡ role_named text
is_name text (role_named name) h = ap role_named (sym ((bytes_eq-Decides text name).0 h))
is_name text (role_in_words words) h = cc

read-name : (text name : List ℕ) (r : PersonRole) → role_read name ≡ Some r → role_named name ≡ role_named text → role_read text ≡ Some r
read-name text name r read is = let same : name ≡ text = cc in subst (λ t. role_read t ≡ Some r) same read

pub name-of_read : (text : List ℕ) (r : PersonRole) → role_read text ≡ Some r → role_view r ≡ role_named text
name-of_read text r h = is_name text (role_view r) (find-is (λ r. is_name_of text (role_view r)) named_roles r h)

pub read-of_name : (text : List ℕ) (r : PersonRole) → role_view r ≡ role_named text → role_read text ≡ Some r
read-of_name text (role.Unknown words) h = cc
read-of_name text r h = read-name text _ r refl h
