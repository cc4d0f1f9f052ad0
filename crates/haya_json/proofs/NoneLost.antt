-- Nothing is lost of what is printed of a value.
use Rattle.std.proofs.Common.{◌≡◌, ℕ, ◌+◌, Bool, true, false, List, [], ◌∷◌, Option, None, Some, refl, ap}
use Rattle.std.specs.Prelude.{codes, if◌then◌else◌}
use Rattle.json.specs.Json as json
use Rattle.json.specs.Json.{Json, Members}
use Rattle.json.specs.Find.{is_null}
use Rattle.haya_text.specs.Chunks.{Chunk}
use Rattle.haya_text.specs.Texts.{TextView}
use Rattle.haya_people.specs.Person.{PersonView}
use Rattle.haya_people.specs.PersonText.{person_text}
use Rattle.haya_people.specs.Roles.{RolesView, role_name}
use Rattle.haya_time.specs.DatePrinted.{date_text}
use Rattle.haya_time.specs.declared.date.Date.{Date}
use Rattle.haya_values.specs.MaybeTyped.{TypedOrText}
use Rattle.haya_values.specs.Publisher.{PublisherView}
use Rattle.haya_values.specs.Url.{UrlView}
use Rattle.haya_json.specs.LostParts.{PartLoss, date_part, format_part, items_lost, many_lost, member_lost, members_lost, parts_lost, person_part, publisher_part, range_part, roles_part, url_part}
use Rattle.haya_json.specs.Notes.{all_behind}
use Rattle.haya_json.specs.Printed.{also, also_true, array_of, byte_json, date_json, date_parts, format_json, forms_json, is_year, one_or_many_json, person_json, person_parts, publisher_json, reads_as_date, reads_as_person, roles_json, season_json, typed_json, url_json, whole_json}
use Rattle.haya_json.specs.Refusal.{to_member}

-- ---- members

-- a member of which nothing is lost
member_none : (part : PartLoss) (of name : List ℕ) (j : Json) → part of name j ≡ [] → member_lost part of name j ≡ []
member_none part of name j none = by (is_null j)
  where
    by : (b : Bool) → (if b then [] else all_behind (to_member name) (part of name j)) ≡ []
    by true = refl
    by false = ap (all_behind (to_member name)) none

-- the same in front of others
first_none : (part : PartLoss) (of name : List ℕ) (j : Json) (ms : Members) → part of name j ≡ [] → members_lost part of ms ≡ [] → members_lost part of (json.member name j ms) ≡ []
first_none part of name j ms first rest = rw (member_none part of name j first, rest) refl

also_none : {V : Type 0} (part : PartLoss) (of name : List ℕ) (print : V → Json) (o : Option V) (ms : Members) → ((v : V) → part of name (print v) ≡ []) → members_lost part of ms ≡ []
    → members_lost part of (also name print o ms) ≡ []
also_none part of name print None ms each rest = rest
also_none part of name print (Some v) ms each rest = first_none part of name (print v) ms (each v) rest

true_none : (part : PartLoss) (of name : List ℕ) (b : Bool) (ms : Members) → part of name (json.boolean true) ≡ [] → members_lost part of ms ≡ [] → members_lost part of (also_true name b ms) ≡ []
true_none part of name true ms first rest = first_none part of name (json.boolean true) ms first rest
true_none part of name false ms first rest = rest

-- ---- items

-- one value of which nothing is lost, and which is no array
record IsAlone (part : PartLoss) (of : List ℕ) (j : Json) : Type 0 where
  parts : parts_lost part of j ≡ []
  many : many_lost part of j ≡ []

array_none : {V : Type 0} (part : PartLoss) (of : List ℕ) (print : V → Json) (n : ℕ) (vs : List V) → ((v : V) → IsAlone part of (print v)) → items_lost part of n (array_of print vs) ≡ []
array_none part of print n [] each = refl
array_none part of print n (v ∷ vs) each = rw ((each v).parts, array_none part of print (n + 1) vs each) refl

many_none : {V : Type 0} (part : PartLoss) (of : List ℕ) (print : V → Json) (vs : List V) → ((v : V) → IsAlone part of (print v)) → many_lost part of (one_or_many_json print vs) ≡ []
unfolding many_lost
many_none part of print [] each = refl
many_none part of print (v ∷ []) each = (each v).many
many_none part of print (v ∷ w ∷ vs) each = array_none part of print 0 (v ∷ w ∷ vs) each

-- ---- texts

pub format_none : (of : List ℕ) (t : TextView) → parts_lost format_part of (format_json t) ≡ []
unfolding parts_lost format_json
format_none of t = by t.short
  where
    by : (o : Option (List Chunk)) → parts_lost format_part of (forms_json t.value o) ≡ []
    by None = refl
    by (Some short) = refl

-- ---- persons

person_parts_none : (of : List ℕ) (p : PersonView) → parts_lost person_part of (person_parts p) ≡ []
unfolding parts_lost
person_parts_none of p =
    let alias = also (codes "alias") json.string p.alias json.no_members in
    let comma = also_true (codes "comma-suffix") p.comma_suffix alias in
    let suffix = also (codes "suffix") json.string p.suffix comma in
    let prefix = also (codes "prefix") json.string p.prefix suffix in
    let given = also (codes "given-name") json.string p.given_name prefix in
    first_none person_part of (codes "name") (json.string p.name) given refl
    (also_none person_part of (codes "given-name") json.string p.given_name prefix (λ v. refl)
    (also_none person_part of (codes "prefix") json.string p.prefix suffix (λ v. refl)
    (also_none person_part of (codes "suffix") json.string p.suffix comma (λ v. refl)
    (true_none person_part of (codes "comma-suffix") p.comma_suffix alias refl
    (also_none person_part of (codes "alias") json.string p.alias json.no_members (λ v. refl)
    refl)))))

person_alone : (of : List ℕ) (p : PersonView) → IsAlone person_part of (person_json p)
unfolding parts_lost many_lost person_json
person_alone of p = by (reads_as_person (person_text p) p)
  where
    by : (b : Bool) → IsAlone person_part of (if b then json.string (person_text p) else person_parts p)
    by true = record { parts = refl; many = refl }
    by false = let none = person_parts_none of p in record { parts = none; many = none }

pub persons_none : (of : List ℕ) (ps : List PersonView) → many_lost person_part of (one_or_many_json person_json ps) ≡ []
persons_none of ps = many_none person_part of person_json ps (person_alone of)

roles_alone : (of : List ℕ) (r : RolesView) → IsAlone roles_part of (roles_json r)
unfolding parts_lost many_lost roles_json
roles_alone of r =
    let names = one_or_many_json person_json r.names in
    let none =
    first_none roles_part of (codes "role") (json.string (role_name r.role)) (json.member (codes "names") names json.no_members) refl
    (first_none roles_part of (codes "names") names json.no_members (persons_none of r.names) refl) in
    record { parts = none; many = none }

pub affiliated_none : (of : List ℕ) (rs : List RolesView) → many_lost roles_part of (one_or_many_json roles_json rs) ≡ []
affiliated_none of rs = many_none roles_part of roles_json rs (roles_alone of)

-- ---- dates

date_parts_none : (of : List ℕ) (d : Date) → parts_lost date_part of (date_parts d) ≡ []
unfolding parts_lost
date_parts_none of d =
    let season = also (codes "season") season_json d.season json.no_members in
    let approximate = also_true (codes "approximate") d.approximate season in
    let day = also (codes "day") byte_json d.day approximate in
    let month = also (codes "month") byte_json d.month day in
    first_none date_part of (codes "year") (whole_json d.year) month refl
    (also_none date_part of (codes "month") byte_json d.month day (λ v. refl)
    (also_none date_part of (codes "day") byte_json d.day approximate (λ v. refl)
    (true_none date_part of (codes "approximate") d.approximate season refl
    (also_none date_part of (codes "season") season_json d.season json.no_members (λ v. refl)
    refl))))

pub date_none : (of : List ℕ) (d : Date) → parts_lost date_part of (date_json d) ≡ []
unfolding parts_lost date_json
date_none of d = by (is_year d) (reads_as_date (date_text d) d)
  where
    by : (a b : Bool) → parts_lost date_part of (if a then whole_json d.year else if b then json.string (date_text d) else date_parts d) ≡ []
    by true b = refl
    by false true = refl
    by false false = date_parts_none of d

-- ---- publishers, addresses and ranges

pub publisher_none : (of : List ℕ) (p : PublisherView) → parts_lost publisher_part of (publisher_json p) ≡ []
unfolding parts_lost publisher_json
publisher_none of p = by p.name p.location
  where
    alone : (value : List Chunk) (short : Option (List Chunk)) → parts_lost publisher_part of (publisher_json (record { name = Some (record { value = value; short = short }); location = None })) ≡ []
    alone value None = refl
    alone value (Some short) =
        let t : TextView = record { value = value; short = Some short } in first_none publisher_part of (codes "name") (format_json t) json.no_members (format_none of t) refl

    by : (n l : Option TextView) → parts_lost publisher_part of (publisher_json (record { name = n; location = l })) ≡ []
    by None None = refl
    by None (Some l) = first_none publisher_part of (codes "location") (format_json l) json.no_members (format_none of l) refl
    by (Some n) None = alone n.value n.short
    by (Some n) (Some l) =
        first_none publisher_part of (codes "name") (format_json n) (json.member (codes "location") (format_json l) json.no_members) (format_none of n)
        (first_none publisher_part of (codes "location") (format_json l) json.no_members (format_none of l) refl)

pub url_none : (of : List ℕ) (u : UrlView) → parts_lost url_part of (url_json u) ≡ []
unfolding parts_lost url_json
url_none of u = by u.visit_date
  where
    by : (o : Option Date) → parts_lost url_part of (url_json (record { value = u.value; visit_date = o })) ≡ []
    by None = refl
    by (Some d) =
        first_none url_part of (codes "value") (json.string u.value) (json.member (codes "date") (date_json d) json.no_members) refl
        (first_none url_part of (codes "date") (date_json d) json.no_members (date_none of d) refl)

pub range_none : {V : Type 0} (of : List ℕ) (show : V → List ℕ) (v : TypedOrText V) → parts_lost range_part of (typed_json show v) ≡ []
unfolding parts_lost typed_json
range_none of show v = refl
