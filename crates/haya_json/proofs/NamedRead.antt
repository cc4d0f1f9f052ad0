-- Dates and roles that were read of texts.
use Rattle.std.proofs.Common.{◌≡◌, ℕ, ◌-◌, ◌<◌, ◌≤◌, ◌^◌, Bool, true, false, cond, ◌&&◌, ◌||◌, ◌==◌, nat_lt, nat_le, List, [], ◌∷◌, None, Some, refl, sym, ap, ◌∙◌, subst, arith, ℤ, pos}
use Rattle.std.specs.Prelude.{find, neg_ℤ, ◌+ℤ◌, int_lt, option_map}
use Rattle.std.proofs.lemmas.Int.{ints}
use Rattle.std.proofs.lemmas.Bool.Decides.{nat_tests}
use Rattle.std.proofs.lemmas.Slice.Eq.{bytes_eq-Decides}
use Rattle.std.proofs.lemmas.Str.Parse.{IsNumeralModel, digits_value_short, numerals_by_value, tells_all_ascii_digits}
use Rattle.std.specs.Str.{all_ascii_digits}
use Rattle.std.specs.Str.Parse.{digits_value}
use Rattle.haya_people.specs.Roles.{RoleView, role_named, role_in_words, is_name_of, named_roles, role_name, role_read, role_view}
use Rattle.haya_people.specs.declared.role.PersonRole.{PersonRole}
use Rattle.haya_time.specs.DateCalendar.{days_of_month, has_day, is_leap_year, is_month}
use Rattle.haya_time.specs.DateForms.{OpensWith, Opening, ReadsAs, calendar_year, day, month, with_sign, year}
use Rattle.haya_time.specs.declared.date.Date.{Date}
use Rattle.haya_json.specs.Readable.{IsReadableDate}
use Rattle.haya_json.specs.Whole.{is_i32}
use Rattle.haya_json.proofs.Wholes.{is_i32-fits}

-- ---- roles

found_passes : (p : PersonRole → Bool) (rs : List PersonRole) (r : PersonRole) → find p rs ≡ Some r → p r ≡ true
found_passes p [] r h = cc
found_passes p (x ∷ rs) r h = by (p x) refl (found_passes p rs r) h
  where
    by : (b : Bool) → p x ≡ b → (find p rs ≡ Some r → p r ≡ true) → cond b (Some x) (find p rs) ≡ Some r → p r ≡ true
    by true e more k = let same : x ≡ r = cc in rw (← same) e
    by false e more k = more k

named : (text : List ℕ) (v : RoleView) → is_name_of text v ≡ true → text ≡ role_name v
named text (role_named name) h = (bytes_eq-Decides text name).0 h
named text (role_in_words words) h = cc

pub role_again : (text : List ℕ) (r : PersonRole) → role_read text ≡ Some r → option_map role_view (role_read (role_name (role_view r))) ≡ Some (role_view r)
role_again text r h =
    let name = named text (role_view r) (found_passes (λ q. is_name_of text (role_view q)) named_roles r h) in
    ap (λ t. option_map role_view (role_read t)) (sym name) ∙ ap (option_map role_view) h

-- ---- dates

own : IsNumeralModel (λ ds. all_ascii_digits ds ≡ true) (digits_value 10)
own = numerals_by_value _ tells_all_ascii_digits

four_digits : (b : Bool) (n : ℕ) → n < 10 ^ 4 → is_i32 (with_sign b n) ≡ true
four_digits true n h = is_i32-fits (neg_ℤ (pos n)) (omega (arith, ints))
four_digits false n h = is_i32-fits (pos n) (omega (arith, ints))

two_digits : (b : Bool) (n k : ℕ) → n < 10 ^ 2 → k ≤ 2000 → is_i32 (with_sign b n +ℤ pos k) ≡ true
two_digits true n k h l = is_i32-fits (neg_ℤ (pos n) +ℤ pos k) (omega (arith, ints))
two_digits false n k h l = is_i32-fits (pos n +ℤ pos k) (omega (arith, ints))

year_small : (count value : ℕ) (b : Bool) (y : ℤ) → value < 10 ^ count → calendar_year count (with_sign b value) ≡ Some y → is_i32 y ≡ true
year_small count value b y small h = by (count == 4) refl (count == 2) refl (int_lt (with_sign b value) (pos 50)) h
  where
    by : (f : Bool) → (count == 4) ≡ f → (t : Bool) → (count == 2) ≡ t → (l : Bool)
        → cond f (Some (with_sign b value)) (cond t (cond l (Some (with_sign b value +ℤ pos 2000)) (Some (with_sign b value +ℤ pos 1900))) None) ≡ Some y → is_i32 y ≡ true
    by true e t g l k =
        let same : with_sign b value ≡ y = cc in
        let four : count ≡ 4 = grind (arith, nat_tests) in
        rw (← same) (four_digits b value (rw four at small))
    by false e true g true k =
        let same : with_sign b value +ℤ pos 2000 ≡ y = cc in
        let two : count ≡ 2 = grind (arith, nat_tests) in
        rw (← same) (two_digits b value 2000 (rw two at small) (omega arith))
    by false e true g false k =
        let same : with_sign b value +ℤ pos 1900 ≡ y = cc in
        let two : count ≡ 2 = grind (arith, nat_tests) in
        rw (← same) (two_digits b value 1900 (rw two at small) (omega arith))
    by false e false g l k = cc

opening_small : (text : List ℕ) (o : Opening) → OpensWith text o → is_i32 o.year ≡ true
opening_small text o w =
    let bound : w.value < 10 ^ o.count = subst (λ v. v < 10 ^ o.count) w.number.valued (digits_value_short own w.number.digits o.count w.number.ascii (omega (arith, w.number.counted))) in
    year_small o.count w.value w.negative o.year bound w.named

month_small : (m : ℕ) → is_month m ≡ true → nat_lt (m - 1) 256 ≡ true
month_small m h = grind (arith, nat_tests)

days_small : (y : ℤ) (m : ℕ) → days_of_month y m ≤ 31
days_small y m = by (m == 2) (is_leap_year y) (m == 4 || m == 6 || m == 9 || m == 11)
  where
    by : (a b c : Bool) → cond a (cond b 29 28) (cond c 30 31) ≤ 31
    by true true c = omega arith
    by true false c = omega arith
    by false b true = omega arith
    by false b false = omega arith

day_small : (y : ℤ) (m d : ℕ) → has_day y m d ≡ true → nat_lt (d - 1) 256 ≡ true
day_small y m d h = by (days_of_month y m) (days_small y m) h
  where
    by : (n : ℕ) → n ≤ 31 → (nat_le 1 d && nat_le d n) ≡ true → nat_lt (d - 1) 256 ≡ true
    by n l k = grind (arith, nat_tests)

pub date_small : (text : List ℕ) (d : Date) → ReadsAs text d → IsReadableDate d
date_small text d (year {o = o} opens count blank) = record { year = opening_small text o opens; month = tt; day = tt }
date_small text d (month {o = o} {m = m} opens count part good blank) = record { year = opening_small text o opens; month = month_small m good; day = tt }
date_small text d (day {o = o} {m = m} {d = n} opens part good behind has blank) = record { year = opening_small text o opens; month = month_small m good; day = day_small o.year m n has }
