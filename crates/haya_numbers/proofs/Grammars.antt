-- The parts of a number's text are what the computed reading takes from it.
use Rattle.std.proofs.Common.{◌≡◌, ℕ, zero, suc, ◌<◌, ◌≤◌, ◌^◌, Bool, true, false, ◌&&◌, nat_lt, nat_eq, List, [], ◌∷◌, ◌++◌, length, refl, ap, sym, ◌∙◌, ℤ, Option, Some, None, Ok, Err, Result, arith, cond, subst}
use Rattle.std.specs.Prelude.{option_map}
use Rattle.std.specs.Char.{is_whitespace}
use Rattle.std.specs.List.{list_all}
use Rattle.std.specs.Result.{result_ok}
use Rattle.std.specs.Str.{encode_utf8_all, skip_leading_whitespace, all_ascii_digits}
use Rattle.std.specs.Str.Parse.{digits_value}
use Rattle.std.proofs.lemmas.Bool.Decides.{nat_tests}
use Rattle.haya_text.proofs.Tells.{and-both}
use Rattle.haya_numbers.specs.declared.numeric.NumericDelimiter.{NumericDelimiter}
use Rattle.haya_text.specs.Characters.{hyphen, is_numeric, run, behind_run, begins_with}
use Rattle.haya_numbers.specs.Characters.{is_delimiter}
use Rattle.haya_numbers.specs.Numeric.{Item, ValueView, SetOf, NumericView}
use Rattle.haya_numbers.specs.declared.numeric.NumericError.{NumericError}
use Rattle.haya_numbers.specs.declared.numeric.NumericError.TheVariants.{NoNumber, UnexpectedCharactersAfterPostfix}
use Rattle.haya_numbers.specs.NumericGrammar.{IsRun, Spells, IsNumber, Plain, Negated, LacksNumber, IsItem, AreItems, Last, More, LacksItem, Here, Later, KeepsZeros, AllZeros, NoZeros, ButLast, IsPrefixed, IsValue, Alone, Set, LacksValue, HasParts, HasFirst, IsFault, NoFirst, NoOther, Behind, ReadsAs}
use Rattle.haya_numbers.specs.NumericReading.{delimiter_read, delimited, magnitude, past_sign, signed, number_front, item_front, items_on, items_front, items_read, set_from, first_delimiter, is_affix, is_suffix, spare_zeros, past_zeros, prefix_run, past_prefix, affix, suffix_with, ended, suffixed, valued, read_from, numeric_read}
use Rattle.haya_text.proofs.Numerics.{digits_numeric, skip-behind_run}
use Rattle.haya_numbers.proofs.Items.{item-shorter}
use Rattle.haya_numbers.proofs.Magnitudes.{hyphen_is_not, magnitude_some}

-- the longest run is one
pub runs-front : (p : ℕ → Bool) (front rest : List ℕ) → list_all p front ≡ true → begins_with p rest ≡ false → (run p (front ++ rest) ≡ front) × (behind_run p (front ++ rest) ≡ rest)
runs-front p [] [] m s = (refl, refl)
runs-front p [] (c ∷ rest) m s = rw s (refl, refl)
runs-front p (c ∷ front) rest m s =
    let both = and-both (p c) (list_all p front) m in
    let more = runs-front p front rest both.1 s in
    let here : p c ≡ true = both.0 in
    rw here (ap (λ v. c ∷ v) more.0, more.1)

pub run-is : (p : ℕ → Bool) (text front rest : List ℕ) → IsRun p text front rest → (run p text ≡ front) × (behind_run p text ≡ rest)
run-is p text front rest h = rw h.joined (runs-front p front rest h.members h.longest)

pub is-run : (p : ℕ → Bool) (text : List ℕ) → IsRun p text (run p text) (behind_run p text)
is-run p [] = record { joined = refl; members = refl; longest = refl }
is-run p (c ∷ cs) = go (p c) refl (is-run p cs)
  where
    go : (b : Bool) → p c ≡ b → IsRun p cs (run p cs) (behind_run p cs) → IsRun p (c ∷ cs) (cond b (c ∷ run p cs) []) (cond b (behind_run p cs) (c ∷ cs))
    go true h more = record { joined = ap (λ v. c ∷ v) more.joined; members = rw h more.members; longest = more.longest }
    go false h more = record { joined = refl; members = refl; longest = h }

pub is-skip : (text : List ℕ) → IsRun is_whitespace text (run is_whitespace text) (skip_leading_whitespace text)
is-skip text = rw skip-behind_run (is-run is_whitespace text)

pub skip-is : (text front rest : List ℕ) → IsRun is_whitespace text front rest → skip_leading_whitespace text ≡ rest
skip-is text front rest h = skip-behind_run text ∙ (run-is is_whitespace text front rest h).1

-- digits and their value
spells-is : (digits : List ℕ) (n : ℕ) → Spells digits n → magnitude digits ≡ Some n
spells-is digits n h = magnitude_some digits h.ascii h.some h.small ∙ ap Some (sym h.value)

some_inside : {A : Type 0} {a b : A} → Some a ≡ Some b → a ≡ b
some_inside e = cc

is-spelled : (digits : List ℕ) (n : ℕ) → magnitude digits ≡ Some n → Spells digits n
is-spelled [] n e = cc
is-spelled (c ∷ cs) n e = go (all_ascii_digits (c ∷ cs)) refl (nat_lt (digits_value 10 (c ∷ cs)) (2 ^ 31)) refl e
  where
    go : (a : Bool) → all_ascii_digits (c ∷ cs) ≡ a → (b : Bool) → nat_lt (digits_value 10 (c ∷ cs)) (2 ^ 31) ≡ b → cond (a && b) (Some (digits_value 10 (c ∷ cs))) None ≡ Some n → Spells (c ∷ cs) n
    go true h true k e = record { some = omega arith; ascii = h; small = grind (arith, nat_tests); value = sym (some_inside e) }
    go true h false k e = cc
    go false h b k e = cc

-- a text that begins with a numeric character has no sign
unsigned : (text : List ℕ) → 0 < length (run is_numeric text) → (past_sign text ≡ text) × (begins_with (λ c. nat_eq c hyphen) text ≡ false)
unsigned [] l = absurd (omega arith)
unsigned (c ∷ cs) l = go (nat_eq c hyphen) refl (is_numeric c) refl l
  where
    go : (b : Bool) → nat_eq c hyphen ≡ b → (a : Bool) → is_numeric c ≡ a → 0 < length (cond a (c ∷ run is_numeric cs) []) → (cond b cs (c ∷ cs) ≡ c ∷ cs) × (b ≡ false)
    go false h a k l = (refl, refl)
    go true h false k l = absurd (omega arith)
    go true h true k l = let same : c ≡ 45 = grind (arith, nat_tests) in let no_digit : is_numeric c ≡ false = rw same hyphen_is_not in cc

pub number-is : {text rest : List ℕ} {n : ℤ} → IsNumber text n rest → number_front text ≡ Some (n, rest)
number-is {text} {rest} {n} (Plain digits m r s e) =
    let q = run-is is_numeric text digits rest r in
    let some : 0 < length (run is_numeric text) = rw q.0 s.some in
    let u = unsigned text some in
    rw (u.0, u.1, q.0, q.1, spells-is digits m s, e) refl
number-is {text} {rest} {n} (Negated behind digits m t r s e) =
    let q = run-is is_numeric behind digits rest r in
    rw (t, q.0, q.1, spells-is digits m s, e) refl

pair_inside : {B : Type 0} {p q : B × List ℕ} → Some p ≡ Some q → (p.0 ≡ q.0) × (p.1 ≡ q.1)
pair_inside {B} e = let h = some_inside e in (ap (λ (r : B × List ℕ). r.0) h, ap (λ (r : B × List ℕ). r.1) h)

pub is-number : (text rest : List ℕ) (n : ℤ) → number_front text ≡ Some (n, rest) → IsNumber text n rest
is-number [] rest n e = cc
is-number (c ∷ cs) rest n e = go (nat_eq c hyphen) refl (magnitude (run is_numeric (past_sign (c ∷ cs)))) refl e
  where
    go : (b : Bool) → nat_eq c hyphen ≡ b → (o : Option ℕ) → magnitude (run is_numeric (cond b cs (c ∷ cs))) ≡ o
        → option_map {U = ℤ × List ℕ} (λ v. (signed b v, behind_run is_numeric (cond b cs (c ∷ cs)))) o ≡ Some (n, rest) → IsNumber (c ∷ cs) n rest
    go b h None k e = cc
    go true h (Some m) k e =
        let p = pair_inside e in
        let same : c ≡ 45 = grind (arith, nat_tests) in
        Negated cs (run is_numeric cs) m (ap (λ d. d ∷ cs) same) (rw p.1 at (is-run is_numeric cs)) (is-spelled (run is_numeric cs) m k) (sym p.0)
    go false h (Some m) k e =
        let p = pair_inside e in
        Plain (run is_numeric (c ∷ cs)) m (rw p.1 at (is-run is_numeric (c ∷ cs))) (is-spelled (run is_numeric (c ∷ cs)) m k) (sym p.0)

lacks-number : (text : List ℕ) → number_front text ≡ None → LacksNumber text
lacks-number text e = λ n rest h. let r = number-is h in cc

number-lacks : (text : List ℕ) → LacksNumber text → number_front text ≡ None
number-lacks text h = go (number_front text) refl
  where
    go : (o : Option (ℤ × List ℕ)) → number_front text ≡ o → o ≡ None
    go None e = refl
    go (Some (n, rest)) e = absurd (h n rest (is-number text rest n e))

-- a number of a set
item-is : {text delimiters rest : List ℕ} {n : ℤ} → IsItem text n delimiters rest → item_front text ≡ Some ((n, result_ok (delimiter_read delimiters)), rest)
item-is {text} {delimiters} {rest} {n} i =
    let q = run-is is_delimiter i.at_delimiters delimiters rest i.run in
    rw (skip-is text i.white i.at_number i.before, number-is i.number, skip-is i.past_number i.gap i.at_delimiters i.between, q.0, q.1) refl

is-item : (text behind : List ℕ) (n : ℤ) → number_front (skip_leading_whitespace text) ≡ Some (n, behind) → IsItem text n (run is_delimiter (skip_leading_whitespace behind)) (behind_run is_delimiter (skip_leading_whitespace behind))
is-item text behind n e = record {
  white = run is_whitespace text;
  at_number = skip_leading_whitespace text;
  past_number = behind;
  gap = run is_whitespace behind;
  at_delimiters = skip_leading_whitespace behind;
  before = is-skip text;
  number = is-number (skip_leading_whitespace text) behind n e;
  between = is-skip behind;
  run = is-run is_delimiter (skip_leading_whitespace behind);
}

items-are : {text rest : List ℕ} {items : List Item} (k : ℕ) → AreItems text items rest → length text ≤ k → items_front k text ≡ Some (items, rest)
items-are {text} {rest} zero (Last delimiters n i d e) l = let short = item-shorter text rest _ (item-is i) in absurd (omega arith)
items-are {text} {rest} (suc k) (Last delimiters n i d e) l = rw (item-is i, d, e) refl
items-are {text} {rest} zero (More delimiters behind n d more i f m e) l = let short = item-shorter text behind _ (item-is i) in absurd (omega arith)
items-are {text} {rest} (suc k) (More delimiters behind n d more i f m e) l =
    let short = item-shorter text behind _ (item-is i) in
    rw (item-is i, f, items-are k m (omega arith), e) refl

items-lack : {text : List ℕ} (k : ℕ) → LacksItem text → items_front k text ≡ None
items-lack {text} zero h = refl
items-lack {text} (suc k) (Here white rest w h) = rw (skip-is text white rest w, number-lacks rest h) refl
items-lack {text} (suc k) (Later delimiters behind n d i f h) = rw (item-is i, f, items-lack k h) refl

abbrev behind_item : List ℕ → List ℕ
behind_item behind = behind_run is_delimiter (skip_leading_whitespace behind)

abbrev named_behind : List ℕ → Option NumericDelimiter
named_behind behind = result_ok (delimiter_read (run is_delimiter (skip_leading_whitespace behind)))

are-items : (k : ℕ) (text rest : List ℕ) (items : List Item) → items_front k text ≡ Some (items, rest) → AreItems text items rest
are-items zero text rest items e = cc
are-items (suc k) text rest items e = go (number_front (skip_leading_whitespace text)) refl (λ t r is. are-items k t r is) e
  where
    deepest : (n : ℤ) (behind : List ℕ) (d : NumericDelimiter) → number_front (skip_leading_whitespace text) ≡ Some (n, behind) → named_behind behind ≡ Some d → ((t r : List ℕ) (is : List Item) → items_front k t ≡ Some (is, r) → AreItems t is r)
        → (m : Option (List Item × List ℕ)) → items_front k (behind_item behind) ≡ m → option_map {U = List Item × List ℕ} (λ p. ((n, Some d) ∷ p.0, p.1)) m ≡ Some (items, rest) → AreItems text items rest
    deepest n behind d h f more None g e = cc
    deepest n behind d h f more (Some (is, r)) g e =
        let p = pair_inside e in
        More (run is_delimiter (skip_leading_whitespace behind)) (behind_item behind) n d is (is-item text behind n h) f (rw p.1 at (more (behind_item behind) r is g)) (sym p.0)

    deeper : (n : ℤ) (behind : List ℕ) → number_front (skip_leading_whitespace text) ≡ Some (n, behind) → ((t r : List ℕ) (is : List Item) → items_front k t ≡ Some (is, r) → AreItems t is r)
        → (o : Option NumericDelimiter) → named_behind behind ≡ o → items_on (Some ((n, o), behind_item behind)) (items_front k) ≡ Some (items, rest) → AreItems text items rest
    deeper n behind h more None d e =
        let p = pair_inside e in Last (run is_delimiter (skip_leading_whitespace behind)) n (rw p.1 at (is-item text behind n h)) d (sym p.0)
    deeper n behind h more (Some d) f e = deepest n behind d h f more (items_front k (behind_item behind)) refl e

    go : (o : Option (ℤ × List ℕ)) → number_front (skip_leading_whitespace text) ≡ o → ((t r : List ℕ) (is : List Item) → items_front k t ≡ Some (is, r) → AreItems t is r)
        → items_on (option_map {U = Item × List ℕ} (λ p. delimited p.0 (skip_leading_whitespace p.1)) o) (items_front k) ≡ Some (items, rest) → AreItems text items rest
    go None h more e = cc
    go (Some (n, behind)) h more e = deeper n behind h more (named_behind behind) refl e

lack-items : (k : ℕ) (text : List ℕ) → length text ≤ k → items_front k text ≡ None → LacksItem text
lack-items zero [] l e = Here [] [] (is-skip []) (lacks-number [] refl)
lack-items zero (c ∷ cs) l e = absurd (omega arith)
lack-items (suc k) text l e = go (number_front (skip_leading_whitespace text)) refl (λ t s. lack-items k t s) e
  where
    none_inside : {A B : Type 0} (f : A → B) (o : Option A) → option_map f o ≡ None → o ≡ None
    none_inside f None e = refl
    none_inside f (Some x) e = cc

    deeper : (n : ℤ) (behind : List ℕ) → number_front (skip_leading_whitespace text) ≡ Some (n, behind) → ((t : List ℕ) → length t ≤ k → items_front k t ≡ None → LacksItem t)
        → (o : Option NumericDelimiter) → named_behind behind ≡ o → items_on (Some ((n, o), behind_item behind)) (items_front k) ≡ None → LacksItem text
    deeper n behind h more None d e = cc
    deeper n behind h more (Some d) f e =
        let i = is-item text behind n h in
        let short = item-shorter text (behind_item behind) _ (item-is i) in
        Later (run is_delimiter (skip_leading_whitespace behind)) (behind_item behind) n d i f (more (behind_item behind) (omega arith) (none_inside _ _ e))

    go : (o : Option (ℤ × List ℕ)) → number_front (skip_leading_whitespace text) ≡ o → ((t : List ℕ) → length t ≤ k → items_front k t ≡ None → LacksItem t)
        → items_on (option_map {U = Item × List ℕ} (λ p. delimited p.0 (skip_leading_whitespace p.1)) o) (items_front k) ≡ None → LacksItem text
    go None h more e = Here (run is_whitespace text) (skip_leading_whitespace text) (is-skip text) (lacks-number (skip_leading_whitespace text) h)
    go (Some (n, behind)) h more e = deeper n behind h more (named_behind behind) refl e

-- the value behind the first number
pub value-is : {n : ℤ} {text rest : List ℕ} {v : ValueView} → IsValue n text v rest → set_from n (first_delimiter text) text ≡ Some (v, rest)
value-is {n} {text} (Alone f e r) = rw (f, e, r) refl
value-is {n} {text} {rest} (Set delimiters behind d items f r m e) =
    let q = run-is is_delimiter text delimiters behind r in
    rw (f, q.1, items-are (length behind) m (omega arith), e) refl

pub value-lacks : (n : ℤ) (text : List ℕ) → LacksValue text → set_from n (first_delimiter text) text ≡ None
value-lacks n text h =
    let q = run-is is_delimiter text h.delimiters h.behind h.run in
    rw (h.first, q.1, items-lack (length h.behind) h.lacks) refl

pub is-value : (n : ℤ) (text rest : List ℕ) (v : ValueView) → set_from n (first_delimiter text) text ≡ Some (v, rest) → IsValue n text v rest
is-value n text rest v e = go (first_delimiter text) refl e
  where
    deeper : (d : NumericDelimiter) → first_delimiter text ≡ Some d → (m : Option (List Item × List ℕ)) → items_read (behind_run is_delimiter text) ≡ m
        → option_map {U = ValueView × List ℕ} (λ p. (SetOf ((n, Some d) ∷ p.0), p.1)) m ≡ Some (v, rest) → IsValue n text v rest
    deeper d f None m e = cc
    deeper d f (Some (is, r)) m e =
        let p = pair_inside e in
        Set (run is_delimiter text) (behind_run is_delimiter text) d is f (is-run is_delimiter text) (rw p.1 at (are-items (length (behind_run is_delimiter text)) (behind_run is_delimiter text) r is m)) (sym p.0)

    go : (o : Option NumericDelimiter) → first_delimiter text ≡ o → set_from n o text ≡ Some (v, rest) → IsValue n text v rest
    go None f e = let p = pair_inside e in Alone f (sym p.0) (sym p.1)
    go (Some d) f e = deeper d f (items_read (behind_run is_delimiter text)) refl e

pub lacks-value : (n : ℤ) (text : List ℕ) → set_from n (first_delimiter text) text ≡ None → LacksValue text
lacks-value n text e = go (first_delimiter text) refl e
  where
    none_inside : {A B : Type 0} (f : A → B) (o : Option A) → option_map f o ≡ None → o ≡ None
    none_inside f None e = refl
    none_inside f (Some x) e = cc

    go : (o : Option NumericDelimiter) → first_delimiter text ≡ o → set_from n o text ≡ None → LacksValue text
    go None f e = cc
    go (Some d) f e = record {
      delimiters = run is_delimiter text;
      behind = behind_run is_delimiter text;
      d = d;
      first = f;
      run = is-run is_delimiter text;
      lacks = lack-items (length (behind_run is_delimiter text)) (behind_run is_delimiter text) (omega arith) (none_inside _ _ e);
    }

-- the zeros of a prefix
abbrev pub is_zero : ℕ → Bool
is_zero c = nat_eq c 48

pub zero_numeric : (z : ℕ) → nat_eq z 48 ≡ true → is_numeric z ≡ true
zero_numeric z h = let same : z ≡ 48 = grind (arith, nat_tests) in rw same (digits_numeric 0 (omega arith))

pub next_numeric : (zs r : List ℕ) → list_all is_zero zs ≡ true → begins_with is_numeric r ≡ true → begins_with is_numeric (zs ++ r) ≡ true
next_numeric [] r m s = s
next_numeric (z ∷ zs) r m s = zero_numeric z (and-both (nat_eq z 48) (list_all is_zero zs) m).0

pub zeros-all : (zs r : List ℕ) → list_all is_zero zs ≡ true → begins_with is_zero r ≡ false → begins_with is_numeric r ≡ true → (spare_zeros (zs ++ r) ≡ zs) × (past_zeros (zs ++ r) ≡ r)
zeros-all [] [] m s h = cc
zeros-all [] (c ∷ r) m s h = rw s (refl, refl)
zeros-all (z ∷ zs) r m s h =
    let both = and-both (nat_eq z 48) (list_all is_zero zs) m in
    let more = zeros-all zs r both.1 s h in
    let one : nat_eq z 48 ≡ true = both.0 in
    rw (one, next_numeric zs r both.1 h) (ap (λ v. z ∷ v) more.0, more.1)

last_numeric : (kept r : List ℕ) → list_all is_zero (kept ++ 48 ∷ []) ≡ true → begins_with is_numeric ((kept ++ 48 ∷ []) ++ r) ≡ true
last_numeric [] r m = zero_numeric 48 refl
last_numeric (k ∷ kept) r m = zero_numeric k (and-both (nat_eq k 48) (list_all is_zero (kept ++ 48 ∷ [])) m).0

pub zeros-last : (kept r : List ℕ) → list_all is_zero (kept ++ 48 ∷ []) ≡ true → begins_with is_numeric r ≡ false → (spare_zeros ((kept ++ 48 ∷ []) ++ r) ≡ kept) × (past_zeros ((kept ++ 48 ∷ []) ++ r) ≡ 48 ∷ r)
zeros-last [] r m h = rw h (refl, refl)
zeros-last (k ∷ kept) r m h =
    let both = and-both (nat_eq k 48) (list_all is_zero (kept ++ 48 ∷ [])) m in
    let more = zeros-last kept r both.1 h in
    let one : nat_eq k 48 ≡ true = both.0 in
    rw (one, last_numeric kept r both.1) (ap (λ v. k ∷ v) more.0, more.1)

pub zeros-none : (r : List ℕ) → begins_with is_zero r ≡ false → (spare_zeros r ≡ []) × (past_zeros r ≡ r)
zeros-none [] s = (refl, refl)
zeros-none (c ∷ r) s = rw s (refl, refl)

keeps-is : {zeros rest kept behind : List ℕ} → KeepsZeros zeros rest kept behind → list_all is_zero zeros ≡ true → begins_with is_zero rest ≡ false → (spare_zeros (zeros ++ rest) ≡ kept) × (past_zeros (zeros ++ rest) ≡ behind)
keeps-is {zeros} {rest} (AllZeros h k b) m s = rw (k, b) (zeros-all zeros rest m s h)
keeps-is {zeros} {rest} (NoZeros h z k b) m s = rw (z, k, b) (zeros-none rest s)
keeps-is {zeros} {rest} {kept} (ButLast h z b) m s = let ms : list_all is_zero (kept ++ 48 ∷ []) ≡ true = rw z at m in rw (z, b) (zeros-last kept rest ms h)

pub zeros-turned : (z : ℕ) (zs : List ℕ) → list_all is_zero (z ∷ zs) ≡ true → z ∷ zs ≡ zs ++ 48 ∷ []
zeros-turned z [] m = let one = (and-both (nat_eq z 48) true m).0 in let same : z ≡ 48 = grind (arith, nat_tests) in ap (λ v. v ∷ []) same
zeros-turned z (y ∷ zs) m =
    let both = and-both (nat_eq z 48) (list_all is_zero (y ∷ zs)) m in
    let one = both.0 in
    let two = (and-both (nat_eq y 48) (list_all is_zero zs) both.1).0 in
    let same : z ≡ y = grind (arith, nat_tests) in
    ap (λ v. v ∷ (y ∷ zs)) same ∙ ap (λ v. y ∷ v) (zeros-turned y zs both.1)

is-kept : (zs r : List ℕ) → list_all is_zero zs ≡ true → begins_with is_zero r ≡ false → KeepsZeros zs r (spare_zeros (zs ++ r)) (past_zeros (zs ++ r))
is-kept zs r m s = go (begins_with is_numeric r) refl zs m
  where
    go : (b : Bool) → begins_with is_numeric r ≡ b → (zs : List ℕ) → list_all is_zero zs ≡ true → KeepsZeros zs r (spare_zeros (zs ++ r)) (past_zeros (zs ++ r))
    go true h zs m = let q = zeros-all zs r m s h in AllZeros h q.0 q.1
    go false h [] m = let q = zeros-none r s in NoZeros h refl q.0 q.1
    go false h (z ∷ zs) m =
        let t = zeros-turned z zs m in
        let ms : list_all is_zero (zs ++ 48 ∷ []) ≡ true = subst (λ (w : List ℕ). list_all is_zero w ≡ true) t m in
        let q = zeros-last zs r ms h in
        let k : spare_zeros ((z ∷ zs) ++ r) ≡ zs = ap (λ v. spare_zeros (v ++ r)) t ∙ q.0 in
        let b : past_zeros ((z ∷ zs) ++ r) ≡ 48 ∷ r = ap (λ v. past_zeros (v ++ r)) t ∙ q.1 in
        ButLast h (t ∙ ap (λ v. v ++ 48 ∷ []) (sym k)) b

pub prefixed-is : {text prefix rest : List ℕ} → IsPrefixed text prefix rest → (prefix_run (skip_leading_whitespace text) ≡ prefix) × (past_prefix (skip_leading_whitespace text) ≡ rest)
prefixed-is {text} {prefix} {rest} h =
    let name = run-is is_affix h.at_name h.name h.at_zeros h.name_run in
    let zeros = keeps-is h.keeps h.zeros_run.members h.zeros_run.longest in
    let at : behind_run is_affix h.at_name ≡ h.zeros ++ h.past_zeros = name.1 ∙ h.zeros_run.joined in
    rw (skip-is text h.white h.at_name h.before, name.0, at, zeros.0, zeros.1) (sym h.joined, refl)

pub is-prefixed : (text : List ℕ) → IsPrefixed text (prefix_run (skip_leading_whitespace text)) (past_prefix (skip_leading_whitespace text))
is-prefixed text =
    let cs : List ℕ = behind_run is_affix (skip_leading_whitespace text) in
    let z = is-run is_zero cs in
    record {
      white = run is_whitespace text;
      at_name = skip_leading_whitespace text;
      name = run is_affix (skip_leading_whitespace text);
      at_zeros = cs;
      zeros = run is_zero cs;
      past_zeros = behind_run is_zero cs;
      kept = spare_zeros cs;
      before = is-skip text;
      name_run = is-run is_affix (skip_leading_whitespace text);
      zeros_run = z;
      keeps = rw (← z.joined) at (is-kept (run is_zero cs) (behind_run is_zero cs) z.members z.longest);
      joined = refl;
    }

-- the whole
parts-read : {text rest : List ℕ} {v : NumericView} → HasParts text v rest → read_from (skip_leading_whitespace text) ≡ ended v rest
parts-read {text} {rest} {v} h =
    let p = prefixed-is h.prefixed in
    let w = run-is is_whitespace h.past_number h.white h.at_value h.between in
    let s = run-is is_suffix h.at_suffix h.suffix rest h.suffix_run in
    rw (p.0, p.1, number-is h.number, w.0, skip-is h.past_number h.white h.at_value h.between, value-is h.value, skip-is h.past_value h.gap h.at_suffix h.before_suffix, s.0, s.1, ← h.prefix_bytes, ← h.suffix_bytes) refl

pub reads-is : (text : List ℕ) (v : NumericView) → ReadsAs text v → numeric_read text ≡ Ok v
reads-is text v h = parts-read h

pub fault-is : {text : List ℕ} {e : NumericError} → IsFault text e → read_from (skip_leading_whitespace text) ≡ Err e
fault-is {text} (NoFirst prefix at_number p l e) =
    let q = prefixed-is p in rw (q.1, number-lacks at_number l, e) refl
fault-is {text} (NoOther at_value f l e) =
    let q = prefixed-is f.prefixed in
    let w = run-is is_whitespace f.past_number f.white at_value f.between in
    rw (q.1, number-is f.number, skip-is f.past_number f.white at_value f.between, value-lacks f.n at_value l, e) refl
fault-is {text} (Behind v c rest h e) = parts-read h ∙ ap Err (sym e)

-- what is read has its parts
pub record Reading (text : List ℕ) (r : Result NumericView NumericError) : Type 0 where
  pub ok : (v : NumericView) → r ≡ Ok v → HasParts text v []
  pub err : (e : NumericError) → r ≡ Err e → IsFault text e

pub is-read : (text : List ℕ) → Reading text (read_from (skip_leading_whitespace text))
is-read text = by_number (number_front (past_prefix (skip_leading_whitespace text))) refl
  where
    finish : (n : ℤ) (past_number past_value : List ℕ) (v : ValueView) → IsNumber (past_prefix (skip_leading_whitespace text)) n past_number → IsValue n (skip_leading_whitespace past_number) v past_value
        → (left : List ℕ) → behind_run is_suffix (skip_leading_whitespace past_value) ≡ left
        → HasParts text (record { value = v; prefix = affix (encode_utf8_all (prefix_run (skip_leading_whitespace text))); suffix = suffix_with (run is_whitespace past_number) (run is_suffix (skip_leading_whitespace past_value)) }) left
    finish n past_number past_value v number value left e = record {
      prefix = prefix_run (skip_leading_whitespace text);
      at_number = past_prefix (skip_leading_whitespace text);
      n = n;
      past_number = past_number;
      white = run is_whitespace past_number;
      at_value = skip_leading_whitespace past_number;
      past_value = past_value;
      gap = run is_whitespace past_value;
      at_suffix = skip_leading_whitespace past_value;
      suffix = run is_suffix (skip_leading_whitespace past_value);
      prefixed = is-prefixed text;
      number = number;
      between = is-skip past_number;
      value = value;
      before_suffix = is-skip past_value;
      suffix_run = rw e at (is-run is_suffix (skip_leading_whitespace past_value));
      prefix_bytes = refl;
      suffix_bytes = refl;
    }

    by_left : (w : NumericView) (left : List ℕ) → HasParts text w left → Reading text (ended w left)
    by_left w [] h = record { ok = λ v e. let same : w ≡ v = cc in subst (λ (u : NumericView). HasParts text u []) same h; err = λ f e. cc }
    by_left w (c ∷ rest) h = record { ok = λ v e. cc; err = λ f e. let same : UnexpectedCharactersAfterPostfix ≡ f = cc in Behind w c rest h (sym same) }

    by_value : (n : ℤ) (past_number : List ℕ) → IsNumber (past_prefix (skip_leading_whitespace text)) n past_number → (o : Option (ValueView × List ℕ)) → set_from n (first_delimiter (skip_leading_whitespace past_number)) (skip_leading_whitespace past_number) ≡ o
        → Reading text (suffixed (prefix_run (skip_leading_whitespace text)) (run is_whitespace past_number) o)
    by_value n past_number number None e =
        let first : HasFirst text (skip_leading_whitespace past_number) = record {
          prefix = prefix_run (skip_leading_whitespace text);
          at_number = past_prefix (skip_leading_whitespace text);
          n = n;
          past_number = past_number;
          white = run is_whitespace past_number;
          prefixed = is-prefixed text;
          number = number;
          between = is-skip past_number;
        } in
        record { ok = λ v k. cc; err = λ f k. let same : NoNumber ≡ f = cc in NoOther (skip_leading_whitespace past_number) first (lacks-value n (skip_leading_whitespace past_number) e) (sym same) }
    by_value n past_number number (Some (v, past_value)) e =
        by_left _ (behind_run is_suffix (skip_leading_whitespace past_value)) (finish n past_number past_value v number (is-value n (skip_leading_whitespace past_number) past_value v e) _ refl)

    by_number : (o : Option (ℤ × List ℕ)) → number_front (past_prefix (skip_leading_whitespace text)) ≡ o → Reading text (valued (prefix_run (skip_leading_whitespace text)) o)
    by_number None e = record { ok = λ v k. cc; err = λ f k. let same : NoNumber ≡ f = cc in NoFirst (prefix_run (skip_leading_whitespace text)) (past_prefix (skip_leading_whitespace text)) (is-prefixed text) (lacks-number (past_prefix (skip_leading_whitespace text)) e) (sym same) }
    by_number (Some (n, past_number)) e =
        by_value n past_number (is-number (past_prefix (skip_leading_whitespace text)) past_number n e) (set_from n (first_delimiter (skip_leading_whitespace past_number)) (skip_leading_whitespace past_number)) refl
