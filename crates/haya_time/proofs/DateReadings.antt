-- Each text has one value, or one fault.
use Rattle.std.proofs.Common.{◌≡◌, ℕ, ◌-◌, Bool, true, false, ◌&&◌, List, Option, Some, None, Result, Ok, Err, cond, eqb, eqb-true, eq-eqb, refl, ap, ◌∙◌, subst}
use Rattle.std.specs.Char.{is_whitespace}
use Rattle.std.specs.List.{list_all}
use Rattle.haya_time.specs.declared.date.Date.{Date}
use Rattle.haya_time.specs.declared.date.DateError.{DateError}
use Rattle.haya_time.specs.declared.date.DateError.TheVariants.{UnknownFormat, MonthOutOfBounds, DayOutOfBounds}
use Rattle.haya_time.specs.DateCalendar.{is_month, has_day}
use Rattle.haya_time.specs.DateForms.{Opening, OpensWith, BeginsWithPart, date_with, ReadsAs, year, month, day, HasBadMonth, HasBadDay, IsRefusedAs}
use Rattle.haya_time.specs.DateReading.{opening_at, part_at, date_at_end, with_day, with_month, with_opening, date_read}
use Rattle.haya_time.specs.TextFront.{IsBlank}
use Rattle.haya_time.proofs.DateParts.{opens-at, at-opens, begins-part, part-begins, blank-part}

-- what an outcome says of the text, but for texts of no form
abbrev Told : List ℕ → Result Date DateError → Type 0
Told text (Ok d) = ReadsAs text d
Told text (Err MonthOutOfBounds) = HasBadMonth text
Told text (Err (DayOutOfBounds d)) = HasBadDay text d
Told text (Err UnknownFormat) = Unit {0}

year_told : (text : List ℕ) (o : Opening) → OpensWith text o → (b : Bool) → eqb o.count 4 ≡ b → (c : Bool) → list_all is_whitespace o.rest ≡ c
    → Told text (cond (b && c) (Ok (date_with o None None)) (Err UnknownFormat))
year_told text o w true e true f = year w (eqb-true o.count 4 e) f
year_told text o w true e false f = tt
year_told text o w false e c f = tt

month_told : (text rest : List ℕ) (o : Opening) (m : ℕ) → OpensWith text o → BeginsWithPart o.rest m rest → is_month m ≡ true
    → (b : Bool) → eqb o.count 4 ≡ b → (c : Bool) → list_all is_whitespace rest ≡ c
    → Told text (cond (b && c) (Ok (date_with o (Some (m - 1)) None)) (Err UnknownFormat))
month_told text rest o m w p g true e true f = month w (eqb-true o.count 4 e) p g f
month_told text rest o m w p g true e false f = tt
month_told text rest o m w p g false e c f = tt

full_told : (text between rest : List ℕ) (o : Opening) (m d : ℕ) → OpensWith text o → BeginsWithPart o.rest m between → is_month m ≡ true → BeginsWithPart between d rest
    → (b : Bool) → has_day o.year m d ≡ b → (c : Bool) → list_all is_whitespace rest ≡ c
    → Told text (cond b (cond c (Ok (date_with o (Some (m - 1)) (Some (d - 1)))) (Err UnknownFormat)) (Err (DayOutOfBounds d)))
full_told text between rest o m d w p g q true e true f = day w p g q e f
full_told text between rest o m d w p g q true e false f = tt
full_told text between rest o m d w p g q false e c f = record { o = o; m = m; between = between; rest = rest; opens = w; month = p; good = g; day = q; bad = e }

day_told : (text between : List ℕ) (o : Opening) (m : ℕ) → OpensWith text o → BeginsWithPart o.rest m between → is_month m ≡ true
    → (q : Option (ℕ × List ℕ)) → part_at between ≡ q → Told text (with_day o m between q)
day_told text between o m w p g None e = month_told text between o m w p g (eqb o.count 4) refl (list_all is_whitespace between) refl
day_told text between o m w p g (Some (d, rest)) e =
    full_told text between rest o m d w p g (part-begins between d rest e) (has_day o.year m d) refl (list_all is_whitespace rest) refl

part_told : (text rest : List ℕ) (o : Opening) (m : ℕ) → OpensWith text o → BeginsWithPart o.rest m rest → (b : Bool) → is_month m ≡ b
    → Told text (cond b (with_day o m rest (part_at rest)) (Err MonthOutOfBounds))
part_told text rest o m w p true g = day_told text rest o m w p g (part_at rest) refl
part_told text rest o m w p false g = record { o = o; m = m; rest = rest; opens = w; month = p; bad = g }

opening_told : (text : List ℕ) (o : Opening) → OpensWith text o → (p : Option (ℕ × List ℕ)) → part_at o.rest ≡ p → Told text (with_month o p)
opening_told text o w None e = year_told text o w (eqb o.count 4) refl (list_all is_whitespace o.rest) refl
opening_told text o w (Some (m, rest)) e = part_told text rest o m w (part-begins o.rest m rest e) (is_month m) refl

-- what is read of a text is true of it
told : (text : List ℕ) → Told text (date_read text)
told text = by_opening (opening_at text) refl
  where
    by_opening : (p : Option Opening) → opening_at text ≡ p → Told text (with_opening p)
    by_opening None e = tt
    by_opening (Some o) e = opening_told text o (at-opens text o e) (part_at o.rest) refl

end-ok : (complete : Bool) (d : Date) (rest : List ℕ) → complete ≡ true → IsBlank rest → date_at_end complete d rest ≡ Ok d
end-ok complete d rest e f = rw (e, f) refl

-- what reads as a date is read
pub reads-read : (text : List ℕ) (d : Date) → ReadsAs text d → date_read text ≡ Ok d
reads-read text _ (year {o = o} w four blank) =
    ap with_opening (opens-at text o w) ∙ ap (with_month o) (blank-part o.rest blank) ∙ end-ok _ _ o.rest (eq-eqb o.count 4 four) blank
reads-read text _ (month {rest = rest} {o = o} {m = m} w four p g blank) =
    ap with_opening (opens-at text o w) ∙ ap (with_month o) (begins-part o.rest m rest p)
    ∙ ap (λ b. cond {A = Result Date DateError} b (with_day o m rest (part_at rest)) (Err MonthOutOfBounds)) g
    ∙ ap (with_day o m rest) (blank-part rest blank) ∙ end-ok _ _ rest (eq-eqb o.count 4 four) blank
reads-read text _ (day {between = between} {rest = rest} {o = o} {m = m} {d = d} w p g q h blank) =
    ap with_opening (opens-at text o w) ∙ ap (with_month o) (begins-part o.rest m between p)
    ∙ ap (λ b. cond {A = Result Date DateError} b (with_day o m between (part_at between)) (Err MonthOutOfBounds)) g
    ∙ ap (with_day o m between) (begins-part between d rest q)
    ∙ ap (λ b. cond {A = Result Date DateError} b (date_at_end true (date_with o (Some (m - 1)) (Some (d - 1))) rest) (Err (DayOutOfBounds d))) h
    ∙ end-ok true _ rest refl blank

bad_month-read : (text : List ℕ) → HasBadMonth text → date_read text ≡ Err MonthOutOfBounds
bad_month-read text h =
    ap with_opening (opens-at text h.o h.opens) ∙ ap (with_month h.o) (begins-part h.o.rest h.m h.rest h.month)
    ∙ ap (λ b. cond {A = Result Date DateError} b (with_day h.o h.m h.rest (part_at h.rest)) (Err MonthOutOfBounds)) h.bad

bad_day-read : (text : List ℕ) (d : ℕ) → HasBadDay text d → date_read text ≡ Err (DayOutOfBounds d)
bad_day-read text d h =
    ap with_opening (opens-at text h.o h.opens) ∙ ap (with_month h.o) (begins-part h.o.rest h.m h.between h.month)
    ∙ ap (λ b. cond {A = Result Date DateError} b (with_day h.o h.m h.between (part_at h.between)) (Err MonthOutOfBounds)) h.good
    ∙ ap (with_day h.o h.m h.between) (begins-part h.between d h.rest h.day)
    ∙ ap (λ b. cond {A = Result Date DateError} b (date_at_end true (date_with h.o (Some (h.m - 1)) (Some (d - 1))) h.rest) (Err (DayOutOfBounds d))) h.bad

-- and what is read as a date reads as it
pub read-reads : (text : List ℕ) (d : Date) → date_read text ≡ Ok d → ReadsAs text d
read-reads text d e = subst (Told text) e (told text)

pub read-refused : (text : List ℕ) (e : DateError) → date_read text ≡ Err e → IsRefusedAs text e
read-refused text MonthOutOfBounds h = subst (Told text) h (told text)
read-refused text (DayOutOfBounds d) h = subst (Told text) h (told text)
read-refused text UnknownFormat h = (
  λ d r. let k = reads-read text d r in cc,
  λ r. let k = bad_month-read text r in cc,
  λ d r. let k = bad_day-read text d r in cc,
)

pub refused-read : (text : List ℕ) (e : DateError) → IsRefusedAs text e → date_read text ≡ Err e
refused-read text MonthOutOfBounds r = bad_month-read text r
refused-read text (DayOutOfBounds d) r = bad_day-read text d r
refused-read text UnknownFormat r = by_outcome (date_read text) refl (told text)
  where
    by_outcome : (o : Result Date DateError) → date_read text ≡ o → Told text o → o ≡ Err UnknownFormat
    by_outcome (Ok d) e t = absurd (r.0 d t)
    by_outcome (Err MonthOutOfBounds) e t = absurd (r.1 t)
    by_outcome (Err (DayOutOfBounds d)) e t = absurd (r.2 d t)
    by_outcome (Err UnknownFormat) e t = refl
