-- Persons by their role.
use Rattle.std.proofs.Common.{◌≡◌, ℕ, ◌+◌, ◌<◌, Bool, true, false, not, cond, List, [], ◌∷◌, ◌++◌, length, get_or, take, map, refl, sym, ap, ◌∙◌, append-nil}
use Rattle.std.specs.Prelude.{flat_map}
use Rattle.std.specs.Cmp.Lexicographic.{bytes_decides}
use Rattle.std.proofs.lemmas.Grind.{flat_map-append}
use Rattle.std.proofs.lemmas.List.{map-append, take_more}
use Rattle.std.proofs.lemmas.List.Elements.{filter-append}
use Rattle.haya_text.proofs.Tells.{Same}
use Rattle.haya_people.proofs.RoleEqual.{roles-tell}
use Rattle.std.specs.Borrow.{Bor}
use Rattle.haya_people.specs.declared.person.Person.{Person}
use Rattle.haya_entry.proofs.LevelLemmas.{map-map}
use Rattle.haya_people.specs.Person.{person_view}
use Rattle.haya_people.specs.Roles.{RoleView, RolesView, role_view, role_named, role_in_words, roles_view}
use Rattle.haya_people.specs.contracts.role.PersonRolePartialEq.TheImpl as role_eq
use Rattle.haya_people.specs.declared.role.PersonRole.{PersonRole}
use Rattle.haya_people.specs.declared.role.PersonsWithRoles.{PersonsWithRoles}
use Rattle.haya_entry.specs.Lookups.{is_same_role, persons_of_role}

roles-same : (v w : RoleView) → Same (is_same_role v w) v w
roles-same (role_named a) (role_named b) = let d = bytes_decides a b in (λ h. let e = d.0 h in cc, λ h. d.1 cc)
roles-same (role_in_words a) (role_in_words b) = let d = bytes_decides a b in (λ h. let e = d.0 h in cc, λ h. d.1 cc)
roles-same (role_named a) (role_in_words b) = (λ h. cc, λ h. cc)
roles-same (role_in_words a) (role_named b) = (λ h. cc, λ h. cc)

tests-same : (b c : Bool) → (b ≡ true → c ≡ true) → (c ≡ true → b ≡ true) → b ≡ c
tests-same true c h k = sym (h refl)
tests-same false true h k = k refl
tests-same false false h k = refl

-- `==` of roles is the test of the definition
pub role_eq-is : (a b : PersonRole) → role_eq.ghosts.eq a b ≡ is_same_role (role_view a) (role_view b)
role_eq-is a b =
    let told = roles-tell a b in
    let same = roles-same (role_view a) (role_view b) in
    tests-same _ _ (λ h. same.1 (told.0 h)) (λ h. told.1 (same.0 h))

persons_of_role-append : (role : RoleView) (xs ys : List RolesView) → persons_of_role role (xs ++ ys) ≡ persons_of_role role xs ++ persons_of_role role ys
persons_of_role-append role xs ys = rw (filter-append, flat_map-append) refl

-- one list more: its persons, if it has the role
persons_of_role-more : (role : PersonRole) (lists : List PersonsWithRoles) (i : ℕ) (l : PersonsWithRoles) → i < length lists → l ≡ get_or lists i l
    → persons_of_role (role_view role) (map roles_view (take (i + 1) lists))
    ≡ persons_of_role (role_view role) (map roles_view (take i lists)) ++ cond (role_eq.ghosts.eq l.role role) (map person_view l.names.items) []
persons_of_role-more role lists i l within here =
    let more : take (i + 1) lists ≡ take i lists ++ l ∷ [] = take_more lists i l within ∙ ap (λ m. take i lists ++ m ∷ []) (sym here) in
    let r = role_view role in
    ap (λ ls. persons_of_role r (map roles_view ls)) more ∙ ap (persons_of_role r) (map-append roles_view (take i lists) (l ∷ []))
    ∙ persons_of_role-append r (map roles_view (take i lists)) (roles_view l ∷ []) ∙ rw (role_eq-is l.role role) (ap (λ ps. persons_of_role (role_view role) (map roles_view (take i lists)) ++ ps) (one (is_same_role (role_view l.role) (role_view role))))
  where
    one : (b : Bool) → flat_map (λ r. r.names) (cond b (roles_view l ∷ []) []) ≡ cond b (map person_view l.names.items) []
    one true = append-nil (map person_view l.names.items)
    one false = refl

module _ (role : PersonRole) (lists : List PersonsWithRoles) (i : ℕ) (l : PersonsWithRoles) (within : i < length lists) (here : l ≡ get_or lists i l) where
  pub persons_of_role-taken : not (role_eq.ghosts.eq l.role role) ≡ false
      → persons_of_role (role_view role) (map roles_view (take (i + 1) lists)) ≡ persons_of_role (role_view role) (map roles_view (take i lists)) ++ map person_view l.names.items
  persons_of_role-taken h = persons_of_role-more role lists i l within here ∙ taken (role_eq.ghosts.eq l.role role) h
    where
      taken : (b : Bool) → not b ≡ false → persons_of_role (role_view role) (map roles_view (take i lists)) ++ cond b (map person_view l.names.items) []
          ≡ persons_of_role (role_view role) (map roles_view (take i lists)) ++ map person_view l.names.items
      taken true h = refl
      taken false h = cc

  pub persons_of_role-passed : not (role_eq.ghosts.eq l.role role) ≡ true
      → persons_of_role (role_view role) (map roles_view (take (i + 1) lists)) ≡ persons_of_role (role_view role) (map roles_view (take i lists))
  persons_of_role-passed h = persons_of_role-more role lists i l within here ∙ passed (role_eq.ghosts.eq l.role role) h
    where
      passed : (b : Bool) → not b ≡ true → persons_of_role (role_view role) (map roles_view (take i lists)) ++ cond b (map person_view l.names.items) []
          ≡ persons_of_role (role_view role) (map roles_view (take i lists))
      passed true h = cc
      passed false h = append-nil _

-- persons that were added, by value
pub persons-added : (old new added : List (Bor Person)) (names : List Person) → map (λ p. p.now) added ≡ names → new ≡ old ++ added
    → map (λ p. person_view p.now) new ≡ map (λ p. person_view p.now) old ++ map person_view names
persons-added old new added names e h =
    ap (map (λ p. person_view p.now)) h ∙ map-append (λ p. person_view p.now) old added
    ∙ ap (λ ps. map (λ p. person_view p.now) old ++ ps) (sym (map-map person_view (λ p. p.now) added) ∙ ap (map person_view) e)
