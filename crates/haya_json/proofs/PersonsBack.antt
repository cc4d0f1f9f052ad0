-- Every person is read from what is printed.
use Rattle.std.proofs.Common.{◌≡◌, ℕ, Bool, true, false, List, [], ◌∷◌, Option, None, Some, Ok, refl, ap, ◌∙◌}
use Rattle.std.specs.Prelude.{if◌then◌else◌}
use Rattle.std.specs.Result.{result_ok}
use Rattle.std.proofs.lemmas.Slice.Eq.{bytes_eq-Decides}
use Rattle.json.specs.Json as json
use Rattle.haya_people.specs.Person.{PersonView}
use Rattle.haya_people.specs.Reading.{person_read}
use Rattle.haya_json.specs.Values.{person_of, person_in, persons_of, role_of, roles_of, affiliated_of}
use Rattle.haya_people.specs.PersonText.{person_text}
use Rattle.haya_json.specs.Printed.{one_or_many_json, person_json, person_parts, roles_json, same_person, reads_as_person}
use Rattle.haya_json.specs.Readable.{HasNamedRole}
use Rattle.haya_json.proofs.Looked.{get_also, get_also_true, true_back, nothing_earlier, text_optional, both_are, same_texts, same_truths, is_alone, EachBack, each_back, many_back}
use Rattle.haya_json.proofs.Solids.{solid, persons_of_null}
use Rattle.haya_people.specs.Roles.{RolesView}
use Rattle.std.specs.List.{AllByRecursion}

same_persons : (p q : PersonView) → same_person p q ≡ true → p ≡ q
same_persons p q h =
    let name = both_are _ _ h in
    let given = both_are _ _ name.1 in
    let prefix = both_are _ _ given.1 in
    let suffix = both_are _ _ prefix.1 in
    let comma = both_are _ _ suffix.1 in
    λ i. record {
      name = (bytes_eq-Decides p.name q.name).0 name.0 i;
      given_name = same_texts p.given_name q.given_name given.0 i;
      prefix = same_texts p.prefix q.prefix prefix.0 i;
      suffix = same_texts p.suffix q.suffix suffix.0 i;
      comma_suffix = same_truths p.comma_suffix q.comma_suffix comma.0 i;
      alias = same_texts p.alias q.alias comma.1 i;
    }

read_as : (text : List ℕ) (p : PersonView) → reads_as_person text p ≡ true → result_ok (person_read text) ≡ Some p
read_as text p h = by (result_ok (person_read text)) refl
  where
    by : (r : Option PersonView) → result_ok (person_read text) ≡ r → result_ok (person_read text) ≡ Some p
    by None is = let no = rw is at h in cc
    by (Some q) is = let same = rw is at h in is ∙ ap Some (same_persons q p same)

parts_back : (p : PersonView) → person_in (person_parts p) ≡ Ok p
parts_back p = simp (get_also, get_also_true, nothing_earlier, text_optional, true_back)

pub person_back : (p : PersonView) → person_of (person_json p) ≡ Ok p
unfolding person_of person_json
person_back p = by (reads_as_person (person_text p) p) refl
  where
    by : (b : Bool) → reads_as_person (person_text p) p ≡ b → person_of (if reads_as_person (person_text p) p then json.string (person_text p) else person_parts p) ≡ Ok p
    by true is = rw (is, read_as (person_text p) p is) refl
    by false is = rw is (parts_back p)

-- ---- one or many

person_alone : (p : PersonView) → is_alone (person_json p) ≡ true
unfolding is_alone person_json
person_alone p = by (reads_as_person (person_text p) p)
  where
    by : (b : Bool) → is_alone (if b then json.string (person_text p) else person_parts p) ≡ true
    by true = refl
    by false = refl

pub persons_back : (ps : List PersonView) → persons_of (one_or_many_json person_json ps) ≡ Ok ps
unfolding persons_of
persons_back ps = many_back person_of person_json ps person_alone (each_back person_of person_json person_back ps)

-- ---- persons with a role

roles_back : (r : RolesView) → HasNamedRole r → roles_of (roles_json r) ≡ Ok r
unfolding roles_of roles_json role_of
roles_back r named =
    rw (named, solid persons_of (one_or_many_json person_json r.names) r.names persons_of_null (persons_back r.names), persons_back r.names) refl

roles_alone : (r : RolesView) → is_alone (roles_json r) ≡ true
unfolding is_alone roles_json
roles_alone r = refl

each_role_back : (rs : List RolesView) → AllByRecursion HasNamedRole rs → EachBack roles_of roles_json rs
unfolding EachBack
each_role_back [] named = tt
each_role_back (r ∷ rs) named = (roles_back r named.0, each_role_back rs named.1)

pub affiliated_back : (rs : List RolesView) → AllByRecursion HasNamedRole rs → affiliated_of (one_or_many_json roles_json rs) ≡ Ok rs
unfolding affiliated_of
affiliated_back rs named = many_back roles_of roles_json rs roles_alone (each_role_back rs named)
