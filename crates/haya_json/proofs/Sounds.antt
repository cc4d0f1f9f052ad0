-- What is printed of values can be read as JSON: numbers are numbers, and no object has a member
-- twice.
use Rattle.std.proofs.Common.{◌≡◌, ◌∷◌, ℕ, ℤ, pos, Bool, true, false, ◌&&◌, not, List, [], ◌++◌, Option, None, Some, refl, sym, ap, ◌∙◌, subst, append_assoc}
use Rattle.std.specs.Prelude.{codes, if◌then◌else◌, map, IfSome, nat_lt}
use Rattle.std.specs.Cmp.Lexicographic.{slice_cmp, nat_list_eq_equiv}
use Rattle.std.specs.List.{AllByRecursion, IsDistinct}
use Rattle.std.specs.Ordering.{nat_cmp, is_eq}
use Rattle.std.specs.Str.{bytes_eq}
use Rattle.std.specs.declared.cmp.Ordering.TheVariants.{Greater}
use Rattle.std.proofs.lemmas.Map.Made.{AllPairs-from_IsDistinct}
use Rattle.std.proofs.lemmas.Map.Text.{is_eq-slice_cmp}
use Rattle.std.proofs.lemmas.Slice.Eq.{bytes_eq-Decides}
use Rattle.json.specs.Json as json
use Rattle.json.specs.Json.{Json, Items, Members}
use Rattle.json.specs.Strict.{HasUniqueKeys, ItemsHaveUniqueKeys, MembersHaveUniqueKeys, keys}
use Rattle.json.specs.Tree.{HasNumbers, ItemsHaveNumbers, MembersHaveNumbers}
use Rattle.json.proofs.Printed.Decimals.{IsNumber-signed_decimal}
use Rattle.haya_text.specs.Chunks.{Chunk}
use Rattle.haya_text.specs.Texts.{TextView}
use Rattle.haya_time.specs.DatePrinted.{date_text}
use Rattle.haya_time.specs.declared.date.Date.{Date}
use Rattle.haya_time.specs.declared.date.Season.{Season}
use Rattle.haya_time.specs.declared.date.Season.TheVariants.{Spring, Summer, Autumn, Winter}
use Rattle.haya_people.specs.Person.{PersonView}
use Rattle.haya_people.specs.Roles.{RolesView, role_name}
use Rattle.haya_numbers.specs.Numeric.{NumericView, single_number}
use Rattle.haya_numbers.specs.Pages.{PartView}
use Rattle.haya_values.specs.MaybeTyped.{TypedOrText, Typed, Text}
use Rattle.haya_values.specs.Publisher.{PublisherView}
use Rattle.haya_values.specs.Url.{UrlView}
use Rattle.haya_entry.specs.SerialNumber.{Serials}
use Rattle.haya_json.specs.Whole.{is_i32}
use Rattle.haya_people.specs.PersonText.{person_text}
use Rattle.haya_json.specs.Printed.{also, also_true, array_of, one_or_many_json, chunks_json, format_json, forms_json, person_json, person_parts, reads_as_person, roles_json, whole_json, byte_json, season_json, date_json, date_parts, is_year, reads_as_date, publisher_json, publisher_parts, url_json, number_json, number_or_text_json, page_below_zero, pages_json, typed_json, serial_json, serial_members}
use Rattle.haya_json.specs.Readable.{AreReadablePages, IsReadableDate, IsReadableUrl, IsReadableNumber, IsReadableNumberOrText, ComesBehind, AreInOrder}
use Rattle.haya_json.proofs.FieldsBack.{weaken, always}
use Rattle.haya_json.proofs.Wholes.{small, byte_fits}

abbrev pub IsSound : Json → Type 0
IsSound j = HasNumbers j × HasUniqueKeys j

abbrev pub MembersAreSound : Members → Type 0
MembersAreSound ms = MembersHaveNumbers ms × MembersHaveUniqueKeys ms

abbrev pub ItemsAreSound : Items → Type 0
ItemsAreSound js = ItemsHaveNumbers js × ItemsHaveUniqueKeys js

-- ---- names that may be left out

-- the first names are some of the second, in their order
pub data Among : List (List ℕ) → List (List ℕ) → Type 0 where
  among_none : Among [] []
  among_kept : (n : List ℕ) (ks ns : List (List ℕ)) → Among ks ns → Among (n ∷ ks) (n ∷ ns)
  among_gone : (n : List ℕ) (ks ns : List (List ℕ)) → Among ks ns → Among ks (n ∷ ns)

among_lacks : (x : List ℕ) {ks ns : List (List ℕ)} → Among ks ns → AllByRecursion (λ y. bytes_eq x y ≡ false) ns → AllByRecursion (λ y. bytes_eq x y ≡ false) ks
among_lacks x among_none h = tt
among_lacks x (among_kept n ks ns rest) h = (h.0, among_lacks x rest h.1)
among_lacks x (among_gone n ks ns rest) h = among_lacks x rest h.1

among_distinct : {ks ns : List (List ℕ)} → Among ks ns → IsDistinct bytes_eq ns → IsDistinct bytes_eq ks
unfolding IsDistinct
among_distinct among_none h = tt
among_distinct (among_kept n ks ns rest) h = (among_lacks n rest h.0, among_distinct rest h.1)
among_distinct (among_gone n ks ns rest) h = among_distinct rest h.1

-- no name is one of those after it, as a test that computes
abbrev pub none_is : List ℕ → List (List ℕ) → Bool
none_is x [] = true
none_is x (y ∷ ys) = not (bytes_eq x y) && none_is x ys

abbrev pub are_apart : List (List ℕ) → Bool
are_apart [] = true
are_apart (x ∷ xs) = none_is x xs && are_apart xs

halves : (a b : Bool) → (a && b) ≡ true → (a ≡ true) × (b ≡ true)
halves true b h = (refl, h)
halves false b h = cc

is_not : (b : Bool) → not b ≡ true → b ≡ false
is_not true h = cc
is_not false h = refl

apart_lacks : (x : List ℕ) (ys : List (List ℕ)) → none_is x ys ≡ true → AllByRecursion (λ y. bytes_eq x y ≡ false) ys
apart_lacks x [] h = tt
apart_lacks x (y ∷ ys) h = let both = halves (not (bytes_eq x y)) (none_is x ys) h in (is_not _ both.0, apart_lacks x ys both.1)

apart_distinct : (xs : List (List ℕ)) → are_apart xs ≡ true → IsDistinct bytes_eq xs
unfolding IsDistinct
apart_distinct [] h = tt
apart_distinct (x ∷ xs) h = let both = halves (none_is x xs) (are_apart xs) h in (apart_lacks x xs both.0, apart_distinct xs both.1)

-- ---- objects and arrays

-- members that are sound, whose names are among these
pub record Built (ms : Members) (ns : List (List ℕ)) : Type 0 where
  pub among : Among (keys ms) ns
  pub sound : MembersAreSound ms

pub built_none : Built json.no_members []
built_none = record { among = among_none; sound = (tt, tt) }

-- one more member
pub built_one : (name : List ℕ) (j : Json) {ms : Members} {ns : List (List ℕ)} → IsSound j → Built ms ns → Built (json.member name j ms) (name ∷ ns)
built_one name j h rest = record { among = among_kept name _ _ rest.among; sound = ((h.0, rest.sound.0), (h.1, rest.sound.1)) }

-- one that isn't there
built_gone : (name : List ℕ) {ms : Members} {ns : List (List ℕ)} → Built ms ns → Built ms (name ∷ ns)
built_gone name rest = record { among = among_gone name _ _ rest.among; sound = rest.sound }

pub built_also : {V : Type 0} (name : List ℕ) (print : V → Json) (o : Option V) {ms : Members} {ns : List (List ℕ)} → IfSome o (λ v. IsSound (print v)) → Built ms ns
    → Built (also name print o ms) (name ∷ ns)
built_also name print None h rest = built_gone name rest
built_also name print (Some v) h rest = built_one name (print v) h rest

built_true : (name : List ℕ) (b : Bool) {ms : Members} {ns : List (List ℕ)} → Built ms ns → Built (also_true name b ms) (name ∷ ns)
built_true name true rest = built_one name (json.boolean true) (tt, tt) rest
built_true name false rest = built_gone name rest

pub object_sound : {ms : Members} {ns : List (List ℕ)} → Built ms ns → are_apart ns ≡ true → IsSound (json.object ms)
object_sound {ms} {ns} built apart =
    (built.sound.0, (AllPairs-from_IsDistinct bytes_eq-Decides (keys ms) (among_distinct built.among (apart_distinct ns apart)), built.sound.1))

pub text_sound : (text : List ℕ) → IsSound (json.string text)
text_sound text = (tt, tt)

items_sound : {V : Type 0} (print : V → Json) (vs : List V) → ((v : V) → IsSound (print v)) → ItemsAreSound (array_of print vs)
items_sound print [] h = (tt, tt)
items_sound print (v ∷ vs) h = let rest = items_sound print vs h in let first = h v in ((first.0, rest.0), (first.1, rest.1))

many_sound : {V : Type 0} (print : V → Json) → ((v : V) → IsSound (print v)) → (vs : List V) → IsSound (one_or_many_json print vs)
many_sound print h [] = (tt, tt)
many_sound print h (v ∷ []) = h v
many_sound print h (v ∷ w ∷ vs) = items_sound print (v ∷ w ∷ vs) h

-- ---- texts and people

pub format_sound : (t : TextView) → IsSound (format_json t)
unfolding format_json
format_sound t = by t.short
  where
    by : (o : Option (List Chunk)) → IsSound (forms_json t.value o)
    by None = (tt, tt)
    by (Some short) = object_sound (built_one (codes "value") (chunks_json t.value) (tt, tt) (built_one (codes "short") (chunks_json short) (tt, tt) built_none)) refl

texts_sound : (o : Option (List ℕ)) → IfSome o (λ text. IsSound (json.string text))
texts_sound o = always (λ text. IsSound (json.string text)) o text_sound

person_parts_sound : (p : PersonView) → IsSound (person_parts p)
person_parts_sound p =
    object_sound
    (built_one (codes "name") (json.string p.name) (tt, tt)
    (built_also (codes "given-name") json.string p.given_name (texts_sound p.given_name)
    (built_also (codes "prefix") json.string p.prefix (texts_sound p.prefix)
    (built_also (codes "suffix") json.string p.suffix (texts_sound p.suffix)
    (built_true (codes "comma-suffix") p.comma_suffix
    (built_also (codes "alias") json.string p.alias (texts_sound p.alias) built_none))))))
    refl

person_sound : (p : PersonView) → IsSound (person_json p)
unfolding person_json
person_sound p = by (reads_as_person (person_text p) p)
  where
    by : (b : Bool) → IsSound (if b then json.string (person_text p) else person_parts p)
    by true = (tt, tt)
    by false = person_parts_sound p

pub persons_sound : (ps : List PersonView) → IsSound (one_or_many_json person_json ps)
persons_sound ps = many_sound person_json person_sound ps

roles_sound : (r : RolesView) → IsSound (roles_json r)
unfolding roles_json
roles_sound r =
    object_sound
    (built_one (codes "role") (json.string (role_name r.role)) (tt, tt)
    (built_one (codes "names") (one_or_many_json person_json r.names) (persons_sound r.names) built_none))
    refl

pub affiliated_sound : (rs : List RolesView) → IsSound (one_or_many_json roles_json rs)
affiliated_sound rs = many_sound roles_json roles_sound rs

-- ---- dates, publishers and addresses

whole_sound : (z : ℤ) → is_i32 z ≡ true → IsSound (whole_json z)
whole_sound z h = (IsNumber-signed_decimal z (small z h), tt)

season_sound : (s : Season) → IsSound (season_json s)
season_sound Spring = whole_sound (pos 1) refl
season_sound Summer = whole_sound (pos 2) refl
season_sound Autumn = whole_sound (pos 3) refl
season_sound Winter = whole_sound (pos 4) refl

bytes_sound : (o : Option ℕ) → IfSome o (λ n. nat_lt n 256 ≡ true) → IfSome o (λ n. IsSound (byte_json n))
bytes_sound o h = weaken (λ n. nat_lt n 256 ≡ true) (λ n. IsSound (byte_json n)) o (λ n less. whole_sound (pos n) (byte_fits n less)) h

date_parts_sound : (d : Date) → IsReadableDate d → IsSound (date_parts d)
date_parts_sound d r =
    object_sound
    (built_one (codes "year") (whole_json d.year) (whole_sound d.year r.year)
    (built_also (codes "month") byte_json d.month (bytes_sound d.month r.month)
    (built_also (codes "day") byte_json d.day (bytes_sound d.day r.day)
    (built_true (codes "approximate") d.approximate
    (built_also (codes "season") season_json d.season (always (λ s. IsSound (season_json s)) d.season season_sound) built_none)))))
    refl

pub date_sound : (d : Date) → IsReadableDate d → IsSound (date_json d)
unfolding date_json
date_sound d r = by (is_year d) (reads_as_date (date_text d) d)
  where
    by : (a b : Bool) → IsSound (if a then whole_json d.year else if b then json.string (date_text d) else date_parts d)
    by true b = whole_sound d.year r.year
    by false true = (tt, tt)
    by false false = date_parts_sound d r

pub publisher_sound : (p : PublisherView) → IsSound (publisher_json p)
unfolding publisher_json
publisher_sound p = by p.name p.location
  where
    texts : (o : Option TextView) → IfSome o (λ t. IsSound (format_json t))
    texts o = always (λ t. IsSound (format_json t)) o format_sound

    parts : (n l : Option TextView) → IsSound (publisher_parts (record { name = n; location = l }))
    parts n l = object_sound (built_also (codes "name") format_json n (texts n) (built_also (codes "location") format_json l (texts l) built_none)) refl

    alone : (value : List Chunk) (short : Option (List Chunk)) → IsSound (publisher_json (record { name = Some (record { value = value; short = short }); location = None }))
    alone value None = (tt, tt)
    alone value (Some short) = parts (Some (record { value = value; short = Some short })) None

    by : (n l : Option TextView) → IsSound (publisher_json (record { name = n; location = l }))
    by None None = parts None None
    by None (Some l) = parts None (Some l)
    by (Some n) None = alone n.value n.short
    by (Some n) (Some l) = parts (Some n) (Some l)

pub url_sound : (u : UrlView) → IsReadableUrl u → IsSound (url_json u)
unfolding url_json
url_sound u r = by u.visit_date r
  where
    by : (o : Option Date) → IfSome o IsReadableDate → IsSound (url_json (record { value = u.value; visit_date = o }))
    by None h = (tt, tt)
    by (Some d) h = object_sound (built_one (codes "value") (json.string u.value) (tt, tt) (built_one (codes "date") (date_json d) (date_sound d h) built_none)) refl

-- ---- numbers

pub number_sound : (n : NumericView) → IsReadableNumber n → IsSound (number_json n)
unfolding number_json
number_sound n r = by (single_number n) refl
  where
    by : (o : Option ℤ) → single_number n ≡ o → IsSound (number_json n)
    by None is = rw is (tt, tt)
    by (Some z) is = let fits = rw is at r in rw is (whole_sound z fits)

pub number_or_text_sound : (v : TypedOrText NumericView) → IsReadableNumberOrText v → IsSound (number_or_text_json v)
unfolding number_or_text_json
number_or_text_sound (Typed n) r = number_sound n r
number_or_text_sound (Text text) r = (tt, tt)

pub pages_sound : (v : TypedOrText (List PartView)) → AreReadablePages v → IsSound (pages_json v)
unfolding pages_json
pages_sound (Text text) r = (tt, tt)
pages_sound (Typed ps) r = by (page_below_zero ps) refl
  where
    by : (o : Option ℤ) → page_below_zero ps ≡ o → IsSound (pages_json (Typed ps))
    by None is = rw is (tt, tt)
    by (Some z) is = let fits = rw is at r in rw is (whole_sound z fits)

pub typed_sound : {V : Type 0} (show : V → List ℕ) (v : TypedOrText V) → IsSound (typed_json show v)
unfolding typed_json
typed_sound show v = (tt, tt)

-- ---- serial numbers

serials_sound : (s : Serials) → MembersAreSound (serial_members s)
serials_sound [] = (tt, tt)
serials_sound (x ∷ s) = let rest = serials_sound s in ((tt, rest.0), (tt, rest.1))

behind_apart : (y k : List ℕ) → slice_cmp nat_cmp y k ≡ Greater → bytes_eq k y ≡ false
behind_apart y k h = nat_list_eq_equiv.symm k y ∙ sym (is_eq-slice_cmp y k) ∙ ap is_eq h

behind_one : (name k : List ℕ) (text : List ℕ) (before more : Serials) → ComesBehind name (before ++ (k, text) ∷ more) → bytes_eq k name ≡ false
behind_one name k text [] more h = behind_apart name k h.0
behind_one name k text (s ∷ before) more h = behind_one name k text before more h.1

-- a name is none of those that come behind it
lacks_later : (k text : List ℕ) (before more rest : Serials) → AreInOrder (before ++ (k, text) ∷ more) rest → AllByRecursion (λ y. bytes_eq k y ≡ false) (map (λ s. s.0) rest)
lacks_later k text before more [] h = tt
lacks_later k text before more (s ∷ rest) h =
    (behind_one s.0 k text before more h.0, lacks_later k text before (more ++ s ∷ []) rest (subst (λ b. AreInOrder b rest) (append_assoc before ((k, text) ∷ more) (s ∷ [])) h.1))

order_distinct : (before rest : Serials) → AreInOrder before rest → IsDistinct bytes_eq (map (λ s. s.0) rest)
unfolding IsDistinct
order_distinct before [] h = tt
order_distinct before (s ∷ rest) h = (lacks_later s.0 s.1 before [] rest h.1, order_distinct (before ++ s ∷ []) rest h.1)

serial_keys : (s : Serials) → keys (serial_members s) ≡ map (λ x. x.0) s
serial_keys [] = refl
serial_keys (x ∷ s) = ap (λ ks. x.0 ∷ ks) (serial_keys s)

pub serial_sound : (s : Serials) → AreInOrder [] s → IsSound (serial_json s)
unfolding serial_json
serial_sound s h =
    let members = serials_sound s in
    (members.0, (AllPairs-from_IsDistinct bytes_eq-Decides (keys (serial_members s)) (subst (IsDistinct bytes_eq) (sym (serial_keys s)) (order_distinct [] s h)), members.1))
