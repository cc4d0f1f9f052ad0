-- The row of a line, and whether the line begins an entry.
use Rattle.std.proofs.Common.{◌≡◌, ℕ, ◌+◌, ◌<◌, ◌≤◌, Bool, true, false, cond, ◌&&◌, List, [], ◌∷◌, ◌++◌, length, Option, None, Some, Result, Ok, Err, refl, sym, ap, ◌∙◌, subst, arith}
use Rattle.std.specs.Char.{digit_value, is_ascii_digit}
use Rattle.std.specs.Prelude.{◌==◌, nat_eq, nat_le, nat_lt, ok_or}
use Rattle.std.specs.List.{list_all, onto_first}
use Rattle.std.specs.Str.Parse.{digits_value}
use Rattle.haya_lines.specs.FieldTable.{and_then}
use Rattle.haya_lines.specs.Items.{items}
use Rattle.haya_entry.specs.EntryType.{type_read}
use Rattle.haya_entry.specs.Tree.{fields, new_entry}
use Rattle.haya_lines.specs.Line.{Row, depth_read, fields_read, is_depth, row_at, row_read}
use Rattle.haya_lines.specs.declared.error.LineError.{LineError}
use Rattle.haya_lines.specs.declared.error.LineError.TheVariants.{Depth, UnknownType}
use Rattle.haya_line_slices.specs.EntryLines.{begins_entry}
use Rattle.haya_line_slices.proofs.FirstLines.{IsSome}
use Rattle.haya_line_slices.proofs.Starts.{begins-pres, not-zero}

-- ---- the first item

is_tab : ℕ → Bool
is_tab b = b == 9

tabs-some : (xs : List ℕ) → IsSome (items xs)
tabs-some [] = record { first = []; rest = []; is = refl }
tabs-some (b ∷ bs) = by (b == 9) (items bs)
  where
    onto : (ps : List (List ℕ)) → IsSome (onto_first b ps)
    onto [] = record { first = b ∷ []; rest = []; is = refl }
    onto (p ∷ ps) = record { first = b ∷ p; rest = ps; is = refl }

    by : (c : Bool) (ps : List (List ℕ)) → IsSome (cond c ([] ∷ ps) (onto_first b ps))
    by true ps = record { first = []; rest = ps; is = refl }
    by false ps = onto ps

first-item : (line p q : List ℕ) (ps : List (List ℕ)) → items line ≡ p ∷ q ∷ ps
    → (rest : List ℕ) × (line ≡ p ++ 9 ∷ rest)
first-item [] p q ps h = absurd (cc (h))
first-item (x ∷ xs) p q ps h = by (x == 9) refl (λ r s t k. first-item xs r s t k)
  where
    by : (b : Bool) → (x == 9) ≡ b
        → ((r s : List ℕ) (t : List (List ℕ)) → items xs ≡ r ∷ s ∷ t → (rest : List ℕ) × (xs ≡ r ++ 9 ∷ rest))
        → (rest : List ℕ) × (x ∷ xs ≡ p ++ 9 ∷ rest)
    by true e again =
        let tab : x ≡ 9 = grind (arith, e) in
        let split : [] ∷ items xs ≡ p ∷ q ∷ ps = sym (ap (λ b. cond b ([] ∷ items xs) (onto_first x (items xs))) e) ∙ h in
        let none : p ≡ [] = cc (split) in
        (xs, ap (λ y. y ∷ xs) tab ∙ ap (λ l. l ++ 9 ∷ xs) (sym none))
    by false e again =
        let s = tabs-some xs in
        let split : (x ∷ s.first) ∷ s.rest ≡ p ∷ q ∷ ps =
        sym (ap (λ b. cond b ([] ∷ items xs) (onto_first x (items xs))) e ∙ ap (λ l. onto_first x l) s.is) ∙ h in
        let front : p ≡ x ∷ s.first = cc (split) in
        let more : s.rest ≡ q ∷ ps = cc (split) in
        let there = again s.first q ps (s.is ∙ ap (λ l. s.first ∷ l) more) in
        (there.0, ap (λ l. x ∷ l) there.1 ∙ ap (λ l. l ++ 9 ∷ there.0) (sym front))

-- ---- a depth of zero

digit-zero : (a : ℕ) → is_ascii_digit a ≡ true → nat_eq 48 a ≡ false → 1 ≤ digit_value a
digit-zero a digit other = grind (arith, digit, other)

and-both : (a b : Bool) → (a && b) ≡ true → (a ≡ true) × (b ≡ true)
and-both true b h = (refl, h)
and-both false b h = absurd (cc)

lt-true : (n m : ℕ) → nat_lt n m ≡ true → n < m
lt-true n m h = grind (arith, h)

le-true : (n m : ℕ) → nat_le n m ≡ true → n ≤ m
le-true n m h = grind (arith, h)

is-48 : (a : ℕ) → nat_eq 48 a ≡ true → a ≡ 48
is-48 a h = grind (arith, h)

one-digit : (a : ℕ) (rest : List ℕ) → is_ascii_digit a ≡ true
    → begins_entry (a ∷ 9 ∷ rest) ≡ (digits_value 10 (a ∷ []) == 0)
one-digit a rest da = by (nat_eq 48 a) refl
  where
    by : (x : Bool) → nat_eq 48 a ≡ x → begins_entry (a ∷ 9 ∷ rest) ≡ (digits_value 10 (a ∷ []) == 0)
    by true e = rw (is-48 a e) refl
    by false e =
        begins-pres (a ∷ 9 ∷ rest) ∙ rw e refl
        ∙ sym (not-zero (digits_value 10 (a ∷ [])) (omega (arith, digit-zero a da e)))

two-digits : (a b : ℕ) (rest : List ℕ) → is_ascii_digit a ≡ true → is_ascii_digit b ≡ true
    → begins_entry (a ∷ b ∷ 9 ∷ rest) ≡ (digits_value 10 (a ∷ b ∷ []) == 0)
two-digits a b rest da db = by (nat_eq 48 a) (nat_eq 48 b) (nat_eq 9 b) refl refl refl
  where
    by : (x y z : Bool) → nat_eq 48 a ≡ x → nat_eq 48 b ≡ y → nat_eq 9 b ≡ z
        → begins_entry (a ∷ b ∷ 9 ∷ rest) ≡ (digits_value 10 (a ∷ b ∷ []) == 0)
    by x y true e f g = absurd (grind (arith, db, g))
    by true true false e f g = rw (is-48 a e, is-48 b f) refl
    by true false false e f g =
        begins-pres (a ∷ b ∷ 9 ∷ rest) ∙ rw (e, f, g) refl
        ∙ sym (not-zero (digits_value 10 (a ∷ b ∷ [])) (omega (arith, digit-zero b db f)))
    by false y false e f g =
        begins-pres (a ∷ b ∷ 9 ∷ rest) ∙ rw e refl
        ∙ sym (not-zero (digits_value 10 (a ∷ b ∷ [])) (omega (arith, digit-zero a da e)))

three-digits : (a b c : ℕ) (rest : List ℕ) → is_ascii_digit a ≡ true → is_ascii_digit b ≡ true
    → is_ascii_digit c ≡ true
    → begins_entry (a ∷ b ∷ c ∷ 9 ∷ rest) ≡ (digits_value 10 (a ∷ b ∷ c ∷ []) == 0)
three-digits a b c rest da db dc =
    by (nat_eq 48 a) (nat_eq 48 b) (nat_eq 48 c) (nat_eq 9 b) (nat_eq 9 c) refl refl refl refl refl
  where
    by : (x y z u v : Bool) → nat_eq 48 a ≡ x → nat_eq 48 b ≡ y → nat_eq 48 c ≡ z → nat_eq 9 b ≡ u → nat_eq 9 c ≡ v
        → begins_entry (a ∷ b ∷ c ∷ 9 ∷ rest) ≡ (digits_value 10 (a ∷ b ∷ c ∷ []) == 0)
    by x y z true v e f g h i = absurd (grind (arith, db, h))
    by x y z false true e f g h i = absurd (grind (arith, dc, i))
    by true true true false false e f g h i = rw (is-48 a e, is-48 b f, is-48 c g) refl
    by true true false false false e f g h i =
        begins-pres (a ∷ b ∷ c ∷ 9 ∷ rest) ∙ rw (e, f, g, h, i) refl
        ∙ sym (not-zero (digits_value 10 (a ∷ b ∷ c ∷ [])) (omega (arith, digit-zero c dc g)))
    by true false z false false e f g h i =
        begins-pres (a ∷ b ∷ c ∷ 9 ∷ rest) ∙ rw (e, f, h) refl
        ∙ sym (not-zero (digits_value 10 (a ∷ b ∷ c ∷ [])) (omega (arith, digit-zero b db f)))
    by false y z false false e f g h i =
        begins-pres (a ∷ b ∷ c ∷ 9 ∷ rest) ∙ rw e refl
        ∙ sym (not-zero (digits_value 10 (a ∷ b ∷ c ∷ [])) (omega (arith, digit-zero a da e)))

digits-zero : (d : ℕ) (item rest : List ℕ) → is_depth d item ≡ true
    → begins_entry (item ++ 9 ∷ rest) ≡ (digits_value 10 item == 0)
digits-zero d item rest h = by item (and-both (list_all is_ascii_digit item) _ h).0 (and-both (nat_lt 0 (length item)) _ (and-both (list_all is_ascii_digit item) _ h).1)
  where
    by : (xs : List ℕ) → list_all is_ascii_digit xs ≡ true
        → (nat_lt 0 (length xs) ≡ true) × ((nat_lt (length xs) 4 && (nat_le (digits_value 10 xs) 500 && nat_le (digits_value 10 xs) d)) ≡ true)
        → begins_entry (xs ++ 9 ∷ rest) ≡ (digits_value 10 xs == 0)
    by [] digits sizes = absurd (cc (sizes.0))
    by (a ∷ []) digits sizes = one-digit a rest (and-both (is_ascii_digit a) _ digits).0
    by (a ∷ b ∷ []) digits sizes =
        let x = and-both (is_ascii_digit a) _ digits in
        two-digits a b rest x.0 (and-both (is_ascii_digit b) _ x.1).0
    by (a ∷ b ∷ c ∷ []) digits sizes =
        let x = and-both (is_ascii_digit a) _ digits in
        let y = and-both (is_ascii_digit b) _ x.1 in
        three-digits a b c rest x.0 y.0 (and-both (is_ascii_digit c) _ y.1).0
    by (a ∷ b ∷ c ∷ e ∷ xs) digits sizes =
        let few = lt-true (length (a ∷ b ∷ c ∷ e ∷ xs)) 4 (and-both (nat_lt (length (a ∷ b ∷ c ∷ e ∷ xs)) 4) _ sizes.1).0 in
        absurd (omega (arith, few))

-- ---- rows

abbrev ok_row : Row → Result Row LineError
ok_row row = Ok row

pub and_then-Ok : {T U E : Type 0} (r : Result T E) (f : T → Result U E) (y : U) → and_then r f ≡ Ok y
    → (x : T) × (r ≡ Ok x) × (f x ≡ Ok y)
and_then-Ok (Ok x) f y h = (x, refl, h)
and_then-Ok (Err e) f y h = absurd (cc (h))

ok_or-Some : {T E : Type 0} (o : Option T) (e : E) (x : T) → ok_or o e ≡ Ok x → o ≡ Some x
ok_or-Some None e x h = absurd (cc (h))
ok_or-Some (Some y) e x h = let same : y ≡ x = cc (h) in ap (λ z. Some z) same

-- a row's depth is what the first item says
depth-said : (d : ℕ) (depth : List ℕ) (n : ℕ) → depth_read d depth ≡ Some n
    → (is_depth d depth ≡ true) × (n ≡ digits_value 10 depth)
depth-said d depth n h = by (is_depth d depth) refl
  where
    by : (b : Bool) → is_depth d depth ≡ b → (is_depth d depth ≡ true) × (n ≡ digits_value 10 depth)
    by true e = (e, let said : Some (digits_value 10 depth) ≡ Some n = (rw e at h) in cc (said))
    by false e = absurd (let said : None ≡ Some n = (rw e at h) in cc (said))

-- what the first three items of a row say
record RowParts (d : ℕ) (depth key kind : List ℕ) (more : List (List ℕ)) (row : Row) : Type 0 where
  read : depth_read d depth ≡ Some row.depth
  anywhere : (e : ℕ) → depth_read e depth ≡ Some row.depth → row_read e (depth ∷ key ∷ kind ∷ more) ≡ Ok row

ok-same : (x y : Row) → ok_row x ≡ ok_row y → x ≡ y
ok-same x y h = cc (h)

row-parts : (d : ℕ) (depth key kind : List ℕ) (more : List (List ℕ)) (row : Row)
    → row_read d (depth ∷ key ∷ kind ∷ more) ≡ Ok row → RowParts d depth key kind more row
row-parts d depth key kind more row h =
    let typed_at : ℕ → Result Row LineError = λ n. and_then (ok_or (type_read kind) UnknownType) (λ k. row_at n (fields_read (fields (new_entry key k)) more)) in
    let read = and_then-Ok (ok_or (depth_read d depth) Depth) typed_at row h in
    let typed = and_then-Ok (ok_or (type_read kind) UnknownType) (λ k. row_at read.0 (fields_read (fields (new_entry key k)) more)) row read.2 in
    let said = and_then-Ok (fields_read (fields (new_entry key typed.0)) more) (λ f. Ok (record { depth = read.0; fields = f })) row typed.2 in
    let same : read.0 ≡ row.depth = ap (λ r. r.depth) (ok-same (record { depth = read.0; fields = said.0 }) row said.2) in
    record {
      read = ok_or-Some (depth_read d depth) Depth read.0 read.1 ∙ ap (λ n. Some n) same;
      anywhere = λ e there.
          ap (λ o. and_then (ok_or o Depth) typed_at) (there ∙ ap (λ n. Some n) (sym same)) ∙ read.2;
    }

-- a line that reads as a row begins an entry exactly where the row's depth is zero
pub row-begins : (d : ℕ) (line : List ℕ) (row : Row) → row_read d (items line) ≡ Ok row
    → begins_entry line ≡ (row.depth == 0)
row-begins d line row h = by (items line) refl h
  where
    by : (is : List (List ℕ)) → items line ≡ is → row_read d is ≡ Ok row → begins_entry line ≡ (row.depth == 0)
    by [] e h = absurd (cc (h))
    by (depth ∷ []) e h = absurd (cc (h))
    by (depth ∷ key ∷ []) e h = absurd (cc (h))
    by (depth ∷ key ∷ kind ∷ more) e h =
        let parts = row-parts d depth key kind more row h in
        let said = depth-said d depth row.depth parts.read in
        let line_is = first-item line depth key (kind ∷ more) e in
        ap begins_entry line_is.1 ∙ digits-zero d depth line_is.0 said.0 ∙ ap (λ n. n == 0) (sym said.1)

-- its depth is no deeper than it may be, and a depth of zero may be anywhere
pub record Row-depth (d : ℕ) (is : List (List ℕ)) (row : Row) : Type 0 where
  pub within : row.depth ≤ d
  pub anywhere : row.depth ≡ 0 → row_read 0 is ≡ Ok row

depth-low : (d : ℕ) (depth : List ℕ) → is_depth d depth ≡ true → digits_value 10 depth ≤ d
depth-low d depth h =
    let x = and-both (list_all is_ascii_digit depth) _ h in
    let y = and-both (nat_lt 0 (length depth)) _ x.1 in
    let z = and-both (nat_lt (length depth) 4) _ y.1 in
    le-true (digits_value 10 depth) d (and-both (nat_le (digits_value 10 depth) 500) _ z.1).1

depth-zero : (d : ℕ) (depth : List ℕ) → is_depth d depth ≡ true → digits_value 10 depth ≡ 0
    → depth_read 0 depth ≡ Some (digits_value 10 depth)
depth-zero d depth h zero =
    let x = and-both (list_all is_ascii_digit depth) _ h in
    let y = and-both (nat_lt 0 (length depth)) _ x.1 in
    let z = and-both (nat_lt (length depth) 4) _ y.1 in
    let w = and-both (nat_le (digits_value 10 depth) 500) _ z.1 in
    let low : nat_le (digits_value 10 depth) 0 ≡ true = rw zero refl in
    rw (x.0, y.0, z.0, w.0, low) refl

pub row-depth : (d : ℕ) (is : List (List ℕ)) (row : Row) → row_read d is ≡ Ok row → Row-depth d is row
row-depth d [] row h = absurd (cc (h))
row-depth d (depth ∷ []) row h = absurd (cc (h))
row-depth d (depth ∷ key ∷ []) row h = absurd (cc (h))
row-depth d (depth ∷ key ∷ kind ∷ more) row h =
    let parts = row-parts d depth key kind more row h in
    let said = depth-said d depth row.depth parts.read in
    record {
      within = subst (λ n. n ≤ d) (sym said.1) (depth-low d depth said.0);
      anywhere = λ none.
          parts.anywhere 0 (depth-zero d depth said.0 (sym said.1 ∙ none) ∙ ap (λ n. Some n) (sym said.1));
    }
