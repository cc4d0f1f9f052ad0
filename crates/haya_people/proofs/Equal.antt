-- The derived `==` of persons tells whether they are equal by value.
use Rattle.std.proofs.Common.{ℕ, Bool, true, false, List, Option, refl}
use mathlib.Core.Bool.{beq}
use Rattle.haya_text.proofs.Tells.{Same, Tells, Same-both, Same-along, options-tell, strings-tell}
use Rattle.haya_people.specs.contracts.person.PersonPartialEq.TheImpl as person
use Rattle.haya_people.specs.Person.{PersonView, person_view}

bools-tell : (a b : Bool) → Same (beq a b) a b
bools-tell true true = (λ _. refl, λ _. refl)
bools-tell false false = (λ _. refl, λ _. refl)
bools-tell true false = (λ h. cc, λ h. cc)
bools-tell false true = (λ h. cc, λ h. cc)

-- the parts of a view as pairs, in the order in which `==` compares them
abbrev Parts : Type 0
Parts = List ℕ × (Option (List ℕ) × (Option (List ℕ) × (Option (List ℕ) × (Bool × Option (List ℕ)))))

abbrev parts : PersonView → Parts
parts v = (v.name, (v.given_name, (v.prefix, (v.suffix, (v.comma_suffix, v.alias)))))

abbrev whole : Parts → PersonView
whole p = record {
  name = p.0;
  given_name = p.1.0;
  prefix = p.1.1.0;
  suffix = p.1.1.1.0;
  comma_suffix = p.1.1.1.1.0;
  alias = p.1.1.1.1.1;
}

pub persons-tell : Tells person.ghosts.eq person_view
persons-tell a b =
    Same-along _ whole parts _ _ refl refl
    (Same-both _ _ _ _ _ _ (strings-tell a.name b.name)
    (Same-both _ _ _ _ _ _ (options-tell _ _ strings-tell a.given_name b.given_name)
    (Same-both _ _ _ _ _ _ (options-tell _ _ strings-tell a.prefix b.prefix)
    (Same-both _ _ _ _ _ _ (options-tell _ _ strings-tell a.suffix b.suffix)
    (Same-both _ _ _ _ _ _ (bools-tell a.comma_suffix b.comma_suffix)
    (options-tell _ _ strings-tell a.alias b.alias))))))
