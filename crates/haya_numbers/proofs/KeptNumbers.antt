-- Numbers that were read from a text, and are read again from their print.
use Rattle.std.proofs.Common.{◌≡◌, ℕ, zero, suc, ◌<◌, ◌^◌, Bool, true, false, ◌&&◌, ◌||◌, not, nat_eq, List, [], ◌∷◌, ◌++◌, refl, ap, sym, ◌∙◌, subst, ℤ, pos, Option, Some, None, Ok, arith}
use Rattle.std.specs.Prelude.{neg_ℤ}
use Rattle.std.specs.Char.{is_whitespace}
use Rattle.std.specs.List.{list_all}
use Rattle.std.specs.Str.{IsUtf8, chars}
use lib.Utf8.{scalar, scalars}
use Rattle.std.proofs.lemmas.List.{append-nil}
use Rattle.std.proofs.lemmas.Str.{chars-encodes, scalars-chars}
use Rattle.std.proofs.lemmas.Bool.Decides.{nat_tests}
use Rattle.haya_text.proofs.Tells.{and-both, both-and}
use Rattle.haya_numbers.specs.declared.numeric.NumericDelimiter.{NumericDelimiter}
use Rattle.haya_numbers.specs.declared.numeric.NumericDelimiter.TheVariants.{Comma, Ampersand, Hyphen}
use Rattle.haya_text.specs.Characters.{is_numeric, begins_with}
use Rattle.haya_numbers.specs.Characters.{is_delimiter}
use Rattle.haya_numbers.specs.Numeric.{Item, ValueView, Single, SetOf, NumericView}
use Rattle.haya_numbers.specs.NumericBack.{is_readable, may_follow, items_read_back, signs_are_kept, ends_numbers, suffix_is_kept, is_kept}
use Rattle.haya_numbers.specs.NumericGrammar.{IsRun, IsNumber, Plain, Negated, IsItem, AreItems, Last, More, KeepsZeros, AllZeros, NoZeros, ButLast, IsValue, Alone, Set, HasParts}
use Rattle.haya_numbers.specs.NumericPrinted.{shown_numeric}
use Rattle.haya_numbers.specs.NumericReading.{first_delimiter, is_suffix, numeric_read}
use Rattle.haya_numbers.proofs.Backs.{AreAffixes, single-back, set-back, suffix_apart, white_shown, with_affixes, zeros_fit}
use Rattle.haya_numbers.proofs.Grammars.{is_zero, is-read}
use Rattle.haya_numbers.proofs.Magnitudes.{hyphen_is_not}

-- ---- what passes for all characters of a text passes for those of its parts

module _ (p : ℕ → Bool) where
  pub all-parts : (xs ys : List ℕ) → list_all p (xs ++ ys) ≡ true → (list_all p xs ≡ true) × (list_all p ys ≡ true)
  all-parts [] ys h = (refl, h)
  all-parts (x ∷ xs) ys h =
      let both = and-both (p x) (list_all p (xs ++ ys)) h in
      let rest = all-parts xs ys both.1 in
      (both-and (p x) (list_all p xs) both.0 rest.0, rest.1)

  pub all-append : (xs ys : List ℕ) → list_all p xs ≡ true → list_all p ys ≡ true → list_all p (xs ++ ys) ≡ true
  all-append [] ys h k = k
  all-append (x ∷ xs) ys h k = let both = and-both (p x) (list_all p xs) h in both-and (p x) (list_all p (xs ++ ys)) both.0 (all-append xs ys both.1 k)

  pub run-all : {q : ℕ → Bool} {text front rest : List ℕ} → IsRun q text front rest → list_all p text ≡ true → (list_all p front ≡ true) × (list_all p rest ≡ true)
  run-all {q} {text} {front} {rest} r h = all-parts front rest (subst (λ (l : List ℕ). list_all p l ≡ true) r.joined h)

  pub number-all : {text rest : List ℕ} {n : ℤ} → IsNumber text n rest → list_all p text ≡ true → list_all p rest ≡ true
  number-all (Plain digits m r s e) h = (run-all r h).1
  number-all (Negated behind digits m t r s e) h =
      let after = subst (λ (l : List ℕ). list_all p l ≡ true) t h in
      (run-all r (and-both (p 45) (list_all p behind) after).1).1

  pub item-all : {text delimiters rest : List ℕ} {n : ℤ} → IsItem text n delimiters rest → list_all p text ≡ true → list_all p rest ≡ true
  item-all i h = (run-all i.run (run-all i.between (number-all i.number (run-all i.before h).1)).1).1

  items-all : {text rest : List ℕ} {items : List Item} → AreItems text items rest → list_all p text ≡ true → list_all p rest ≡ true
  items-all (Last delimiters n i d e) h = item-all i h
  items-all (More delimiters behind n d more i f m e) h = items-all m (item-all i h)

  value-all : {n : ℤ} {text rest : List ℕ} {v : ValueView} → IsValue n text v rest → list_all p text ≡ true → list_all p rest ≡ true
  value-all (Alone f e same) h = subst (λ (l : List ℕ). list_all p l ≡ true) (sym same) h
  value-all (Set delimiters behind d items f r m e) h = items-all m (run-all r h).1

  -- the prefix without its zeros, the number, the rest of the value, the white space behind the
  -- first number, and the suffix
  pub record PartsPass {text : List ℕ} {v : NumericView} (h : HasParts text v []) : Type 0 where
    pub name : list_all p h.prefixed.name ≡ true
    pub at_number : list_all p h.at_number ≡ true
    pub at_value : list_all p h.at_value ≡ true
    pub white : list_all p h.white ≡ true
    pub suffix : list_all p h.suffix ≡ true

  pub parts-all : {text : List ℕ} {v : NumericView} (h : HasParts text v []) → list_all p text ≡ true → PartsPass h
  parts-all h all =
      let name = run-all h.prefixed.name_run (run-all h.prefixed.before all).1 in
      let zeros = run-all h.prefixed.zeros_run name.1 in
      let number = at_number h.prefixed.keeps zeros.0 zeros.1 in
      let white = run-all h.between (number-all h.number number) in
      record {
        name = name.0;
        at_number = number;
        at_value = white.1;
        white = white.0;
        suffix = (run-all h.suffix_run (run-all h.before_suffix (value-all h.value white.1)).1).0;
      }
    where
      at_number : {zs rest kept behind : List ℕ} → KeepsZeros zs rest kept behind → list_all p zs ≡ true → list_all p rest ≡ true → list_all p behind ≡ true
      at_number (AllZeros s k b) z r = subst (λ (l : List ℕ). list_all p l ≡ true) (sym b) r
      at_number (NoZeros s z k b) y r = subst (λ (l : List ℕ). list_all p l ≡ true) (sym b) r
      at_number {rest = rest} {kept = kept} (ButLast s z b) y r =
          let last = (all-parts kept (48 ∷ []) (subst (λ (l : List ℕ). list_all p l ≡ true) z y)).1 in
          subst (λ (l : List ℕ). list_all p l ≡ true) (sym b) (both-and (p 48) (list_all p rest) (and-both (p 48) true last).0 r)

pub all-scalars : (cs : List ℕ) → scalars cs ≡ list_all scalar cs
all-scalars [] = refl
all-scalars (c ∷ cs) = ap (λ b. scalar c && b) (all-scalars cs)

-- ---- what was read

-- all numbers can be read, and all but the last have a delimiter
abbrev pub are_made : List Item → Bool
are_made [] = false
are_made ((n, None) ∷ []) = is_readable n
are_made ((n, None) ∷ j ∷ rest) = false
are_made ((n, Some d) ∷ []) = false
are_made ((n, Some d) ∷ j ∷ rest) = is_readable n && are_made (j ∷ rest)

-- a value with zeros before it and a suffix behind it
abbrev pub IsMade : List ℕ → List ℕ → ValueView → Type 0
IsMade zeros suffix (Single n) = (is_readable n ≡ true) × (zeros_fit zeros n ≡ true) × (first_delimiter suffix ≡ None)
IsMade zeros suffix (SetOf []) = ⊥
IsMade zeros suffix (SetOf (i ∷ [])) = ⊥
IsMade zeros suffix (SetOf ((n, None) ∷ j ∷ rest)) = ⊥
IsMade zeros suffix (SetOf ((n, Some d) ∷ j ∷ rest)) = (zeros_fit zeros n ≡ true) × (are_made ((n, Some d) ∷ j ∷ rest) ≡ true)

pub record WasRead (n : NumericView) : Type 0 where
  pub name : List ℕ
  pub zeros : List ℕ
  pub white : List ℕ
  pub suffix : List ℕ
  pub affixes : AreAffixes name zeros white suffix
  pub is : n ≡ with_affixes (name ++ zeros) white suffix n.value
  pub made : IsMade zeros suffix n.value

pub readable : {text rest : List ℕ} {n : ℤ} → IsNumber text n rest → is_readable n ≡ true
readable (Plain digits m r s e) =
    let small : m < 2 ^ 31 = omega (arith, s.value, s.small) in
    rw e (grind (arith, nat_tests))
readable (Negated behind digits m t r s e) = let small : m < 2 ^ 31 = omega (arith, s.value, s.small) in rw e (by m small)
  where
    by : (m : ℕ) → m < 2 ^ 31 → is_readable (neg_ℤ (pos m)) ≡ true
    by zero h = refl
    by (suc m) h = grind (arith, nat_tests)

-- only a number from 0 on stands behind zeros
pub fits : {text rest zs past kept : List ℕ} {n : ℤ} → IsNumber text n rest → KeepsZeros zs past kept text → zeros_fit kept n ≡ true
fits {kept = kept} (Plain digits m r s e) k = rw e (by kept)
  where
    by : (zs : List ℕ) → zeros_fit zs (pos m) ≡ true
    by [] = refl
    by (z ∷ zs) = refl
fits (Negated behind digits m t r s e) (AllZeros num k b) =
    absurd (no_hyphen behind (subst (λ (l : List ℕ). begins_with is_numeric l ≡ true) (sym b ∙ t) num))
  where
    no_hyphen : (l : List ℕ) → begins_with is_numeric (45 ∷ l) ≡ true → ⊥
    no_hyphen l h = let none : is_numeric 45 ≡ false = hyphen_is_not in cc
fits (Negated behind digits m t r s e) (NoZeros num z k b) = rw k refl
fits (Negated behind digits m t r s e) (ButLast num z b) = absurd (zero_is_not (sym b ∙ t))
  where
    zero_is_not : {xs ys : List ℕ} → 48 ∷ xs ≡ 45 ∷ ys → ⊥
    zero_is_not h = let e : true ≡ false = ap (λ l. begins_with (λ c. nat_eq c 48) l) h in cc

kept_zeros : {zs past kept behind : List ℕ} → KeepsZeros zs past kept behind → list_all is_zero zs ≡ true → list_all is_zero kept ≡ true
kept_zeros (AllZeros s k b) h = rw k h
kept_zeros (NoZeros s z k b) h = rw k refl
kept_zeros {kept = kept} (ButLast s z b) h = (all-parts is_zero kept (48 ∷ []) (subst (λ (l : List ℕ). list_all is_zero l ≡ true) z h)).0

-- the front of a text begins as the text does
pub front_starts : (p : ℕ → Bool) (text front rest : List ℕ) → text ≡ front ++ rest → begins_with p text ≡ false → begins_with p front ≡ false
front_starts p text [] rest e h = refl
front_starts p text (c ∷ front) rest e h = rw e at h

-- the suffix of one number stands directly behind its white space
suffix_is : {text gap suffix : List ℕ} → begins_with is_whitespace text ≡ false → IsRun is_whitespace text gap suffix → text ≡ suffix
suffix_is {text} {gap = []} h r = r.joined
suffix_is {text} {gap = g ∷ gap} {suffix} h r =
    let no : is_whitespace g ≡ false = rw r.joined at h in
    let yes : is_whitespace g ≡ true = (and-both (is_whitespace g) (list_all is_whitespace gap) r.members).0 in
    absurd (let f : ⊥ = cc in f)

items_made : {text rest : List ℕ} {items : List Item} → AreItems text items rest → are_made items ≡ true
items_made (Last delimiters n i d e) = rw e (readable i.number)
items_made (More delimiters behind n d more i f m e) = rw e (by more (items_made m))
  where
    by : (more : List Item) → are_made more ≡ true → are_made ((n, Some d) ∷ more) ≡ true
    by [] h = cc
    by (j ∷ rest) h = both-and (is_readable n) (are_made (j ∷ rest)) (readable i.number) h

past_number : {text rest : List ℕ} {n : ℤ} → IsNumber text n rest → begins_with is_numeric rest ≡ false
past_number (Plain digits m r s e) = r.longest
past_number (Negated behind digits m t r s e) = r.longest

value_made : {n : ℤ} {text rest gap at_suffix suffix : List ℕ} (zeros : List ℕ) {v : ValueView} → IsValue n text v rest → is_readable n ≡ true → zeros_fit zeros n ≡ true
    → begins_with is_whitespace text ≡ false → IsRun is_whitespace rest gap at_suffix → at_suffix ≡ suffix → IsMade zeros suffix v
value_made {text = text} zeros (Alone f e same) read fit front run is =
    let whole : text ≡ _ = suffix_is front (rw same at run) ∙ is in
    rw e (read, fit, rw whole at f)
value_made {n} {suffix = suffix} zeros (Set delimiters behind d items f r m e) read fit front run is = rw e (by items (items_made m))
  where
    by : (items : List Item) → are_made items ≡ true → IsMade zeros suffix (SetOf ((n, Some d) ∷ items))
    by [] h = cc
    by (j ∷ rest) h = (fit, both-and (is_readable n) (are_made (j ∷ rest)) read h)

zeros_scalar : (zs : List ℕ) → list_all is_zero zs ≡ true → list_all scalar zs ≡ true
zeros_scalar [] m = refl
zeros_scalar (z ∷ zs) m =
    let both = and-both (nat_eq z 48) (list_all is_zero zs) m in
    let same : z ≡ 48 = grind (arith, nat_tests) in
    rw same (zeros_scalar zs both.1)

pub part_affixes : (cs : List ℕ) (n : NumericView) → scalars cs ≡ true → (h : HasParts cs n []) → AreAffixes h.prefixed.name h.prefixed.kept h.white h.suffix
part_affixes cs n u h =
    let p = h.prefixed in
    let zs = kept_zeros p.keeps p.zeros_run.members in
    let text = parts-all scalar h (sym (all-scalars cs) ∙ u) in
    record {
      affixes = p.name_run.members;
      zeros_all = zs;
      front = front_starts is_whitespace p.at_name p.name p.at_zeros p.name_run.joined p.before.longest;
      space = h.between.members;
      apart = front_starts is_numeric h.past_number h.white h.at_value h.between.joined (past_number h.number);
      members = h.suffix_run.members;
      before_text = all-scalars (p.name ++ p.kept) ∙ all-append scalar p.name p.kept text.name (zeros_scalar p.kept zs);
      behind_text = all-scalars (h.white ++ h.suffix) ∙ all-append scalar h.white h.suffix text.white text.suffix;
    }

pub parts_are : (cs : List ℕ) (n : NumericView) → (h : HasParts cs n []) → n ≡ with_affixes (h.prefixed.name ++ h.prefixed.kept) h.white h.suffix n.value
parts_are cs n h = rw (← h.prefixed.joined, ← h.prefix_bytes, ← h.suffix_bytes) refl

pub parts_made : (cs : List ℕ) (n : NumericView) (h : HasParts cs n []) → IsMade h.prefixed.kept h.suffix n.value
parts_made cs n h = value_made h.prefixed.kept h.value (readable h.number) (fits h.number h.prefixed.keeps) h.between.longest h.before_suffix (h.suffix_run.joined ∙ append-nil h.suffix)

pub was_read : (cs : List ℕ) (n : NumericView) → scalars cs ≡ true → HasParts cs n [] → WasRead n
was_read cs n u h = record {
  name = h.prefixed.name;
  zeros = h.prefixed.kept;
  white = h.white;
  suffix = h.suffix;
  affixes = part_affixes cs n u h;
  is = parts_are cs n h;
  made = parts_made cs n h;
}

-- ---- what is read again

signs_back : (items : List Item) → are_made items ≡ true → signs_are_kept items ≡ true → items_read_back items ≡ true
signs_back [] m h = cc
signs_back ((n, None) ∷ []) m h = m
signs_back ((n, None) ∷ j ∷ rest) m h = cc
signs_back ((n, Some d) ∷ []) m h = cc
signs_back ((n, Some d) ∷ j ∷ rest) m h =
    let made = and-both (is_readable n) (are_made (j ∷ rest)) m in
    let signs = and-both (may_follow d j.0) (signs_are_kept (j ∷ rest)) h in
    both-and (is_readable n && may_follow d j.0) (items_read_back (j ∷ rest)) (both-and (is_readable n) (may_follow d j.0) made.0 signs.0) (signs_back (j ∷ rest) made.1 signs.1)

-- a suffix that ends the numbers has no white space before it
ends_front : (white : List ℕ) (c : ℕ) (cs : List ℕ) → list_all is_whitespace white ≡ true → ends_numbers (white ++ c ∷ cs) ≡ true → (white ≡ []) × (is_delimiter c ≡ false)
ends_front [] c cs m h = (refl, by (is_whitespace c) (is_delimiter c) h)
  where
    by : (a b : Bool) → not (a || b) ≡ true → b ≡ false
    by false false h = refl
    by false true h = cc
    by true b h = cc
ends_front (w ∷ white) c cs m h =
    let yes : is_whitespace w ≡ true = (and-both (is_whitespace w) (list_all is_whitespace white) m).0 in
    absurd (no (is_delimiter w) (rw yes at h))
  where
    no : (b : Bool) → not (true || b) ≡ true → ⊥
    no b h = cc

suffix_fits : (d : NumericDelimiter) (white : List ℕ) (c : ℕ) (cs : List ℕ) → list_all is_whitespace white ≡ true → is_suffix c ≡ true → suffix_is_kept (Some d) (white ++ c ∷ cs) ≡ true
    → (white_shown d ≡ white) × (is_delimiter c ≡ false)
suffix_fits Comma white c cs m s h = let e = ends_front white c cs m h in (sym e.0, e.1)
suffix_fits Hyphen white c cs m s h = let e = ends_front white c cs m h in (sym e.0, e.1)
suffix_fits Ampersand [] c cs m s h =
    let blank = (and-both (nat_eq c 32) (ends_numbers cs) h).0 in
    let same : c ≡ 32 = grind (arith, nat_tests) in
    let no : is_whitespace 32 ≡ false = rw same at (suffix_apart c s).1 in
    absurd (let f : ⊥ = cc in f)
suffix_fits Ampersand (w ∷ white) c cs m s h =
    let both = and-both (nat_eq w 32) (ends_numbers (white ++ c ∷ cs)) h in
    let e = ends_front white c cs (and-both (is_whitespace w) (list_all is_whitespace white) m).1 both.1 in
    let same : w ≡ 32 = grind (arith, nat_tests) in
    (rw (same, e.0) refl, e.1)

module _ (name zeros white : List ℕ) where
  abbrev set : (suffix : List ℕ) → ℤ → NumericDelimiter → Item → List Item → NumericView
  set suffix n d j rest = with_affixes (name ++ zeros) white suffix (SetOf ((n, Some d) ∷ j ∷ rest))

  set_kept : (suffix : List ℕ) (n : ℤ) (d : NumericDelimiter) (m : ℤ) (o : Option NumericDelimiter) (rest : List Item) → AreAffixes name zeros white suffix → zeros_fit zeros n ≡ true → are_made ((n, Some d) ∷ (m, o) ∷ rest) ≡ true
      → is_kept (set suffix n d (m, o) rest) ≡ true → numeric_read (shown_numeric (set suffix n d (m, o) rest)) ≡ Ok (set suffix n d (m, o) rest)
  set_kept [] n d m o rest a fit made k = set-back name zeros white [] a n m d o rest (signs_back ((n, Some d) ∷ (m, o) ∷ rest) made k) fit refl (λ some. absurd (some refl))
  set_kept (c ∷ cs) n d m o rest a fit made k =
      let text = chars-encodes (white ++ c ∷ cs) a.behind_text in
      let both = and-both (signs_are_kept ((n, Some d) ∷ (m, o) ∷ rest)) (suffix_is_kept (Some d) (white ++ c ∷ cs)) (rw text at k) in
      let f = suffix_fits d white c cs a.space (and-both (is_suffix c) (list_all is_suffix cs) a.members).0 both.1 in
      set-back name zeros white (c ∷ cs) a n m d o rest (signs_back ((n, Some d) ∷ (m, o) ∷ rest) made both.0) fit f.1 (λ some. f.0)

  value_kept : (suffix : List ℕ) (v : ValueView) → AreAffixes name zeros white suffix → IsMade zeros suffix v → is_kept (with_affixes (name ++ zeros) white suffix v) ≡ true
      → numeric_read (shown_numeric (with_affixes (name ++ zeros) white suffix v)) ≡ Ok (with_affixes (name ++ zeros) white suffix v)
  value_kept suffix (Single n) a m k = single-back name zeros white suffix a n m.0 m.1 m.2
  value_kept suffix (SetOf []) a m k = absurd m
  value_kept suffix (SetOf (i ∷ [])) a m k = absurd m
  value_kept suffix (SetOf ((n, None) ∷ j ∷ rest)) a m k = absurd m
  value_kept suffix (SetOf ((n, Some d) ∷ (l, o) ∷ rest)) a m k = set_kept suffix n d l o rest a m.0 m.1 k

-- one number that was read is below 2 ^ 31, whatever its sign
pub single_readable : (text : List ℕ) (n : NumericView) (z : ℤ) → numeric_read text ≡ Ok n → n.value ≡ Single z → is_readable z ≡ true
single_readable text n z e is =
    let h = (is-read (chars text)).ok n e in by h.value (readable h.number)
  where
    by : {m : ℤ} {at rest : List ℕ} → IsValue m at n.value rest → is_readable m ≡ true → is_readable z ≡ true
    by {m} (Alone f v same) read = let one : Single m ≡ Single z = sym v ∙ is in let number : m ≡ z = cc in rw (← number) read
    by (Set delimiters behind d items f r a v) read = let no : SetOf _ ≡ Single z = sym v ∙ is in cc

pub read_kept : (n : NumericView) → WasRead n → is_kept n ≡ true → numeric_read (shown_numeric n) ≡ Ok n
read_kept n r k =
    let same = r.is in
    subst (λ (m : NumericView). numeric_read (shown_numeric m) ≡ Ok m) (sym same)
    (value_kept r.name r.zeros r.white r.suffix n.value r.affixes r.made (subst (λ (m : NumericView). is_kept m ≡ true) same k))

pub number_kept : (text : List ℕ) (n : NumericView) → IsUtf8 text → numeric_read text ≡ Ok n → is_kept n ≡ true → numeric_read (shown_numeric n) ≡ Ok n
number_kept text n u e k =
    let s = scalars-chars text u in
    read_kept n (was_read (chars text) n s ((is-read (chars text)).ok n e)) k
