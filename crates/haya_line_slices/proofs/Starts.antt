-- Whether a text begins with few bytes, none of which ends a line.
use Rattle.std.proofs.Common.{◌≡◌, ℕ, zero, suc, ◌+◌, ◌-◌, ◌≤◌, Bool, true, false, ◌&&◌, List, [], ◌∷◌, ◌++◌, length, take, refl, sym, ap, ◌∙◌, arith}
use Rattle.std.specs.Prelude.{◌==◌, ◌||◌, ◌≢◌, codes, nat_eq, slice_index}
use Rattle.std.specs.List.{AllByRecursion, onto_first, slice_split, starts_with}
use Rattle.std.specs.Str.Lines.{lines, lines_of_parts, strip_carriage_return}
use Rattle.haya_line_slices.specs.EntryLines.{begins_entry}

-- ---- needles

abbrev pub is_feed : ℕ → Bool
is_feed b = b == 10

abbrev pub Clean : List ℕ → Type 0
Clean needle = AllByRecursion (λ c. (c ≢ 10) × (c ≢ 13)) needle

abbrev pub pre : List ℕ → List ℕ → Bool
pre [] xs = true
pre (c ∷ n) [] = false
pre (c ∷ n) (x ∷ xs) = nat_eq c x && pre n xs

pub starts-pre : (n xs : List ℕ) → starts_with nat_eq xs n ≡ pre n xs
starts-pre [] [] = refl
starts-pre [] (x ∷ xs) = refl
starts-pre (c ∷ n) [] = refl
starts-pre (c ∷ n) (x ∷ xs) = ap (λ b. nat_eq c x && b) (starts-pre n xs)

pub not-zero : (n : ℕ) → 1 ≤ n → (n == 0) ≡ false
not-zero n h = grind (arith, h)

and-both : (a b : Bool) → (a && b) ≡ true → (a ≡ true) × (b ≡ true)
and-both true b h = (refl, h)
and-both false b h = absurd (cc)

both-and : (a b : Bool) → a ≡ true → b ≡ true → (a && b) ≡ true
both-and a b h k = rw (h, k) refl

same-bool : (a b : Bool) → (a ≡ true → b ≡ true) → (b ≡ true → a ≡ true) → a ≡ b
same-bool true b f g = sym (f refl)
same-bool false true f g = g refl
same-bool false false f g = refl

-- ---- more behind, or less

pub pre-more : (n xs ys : List ℕ) → pre n xs ≡ true → pre n (xs ++ ys) ≡ true
pre-more [] xs ys h = refl
pre-more (c ∷ n) [] ys h = absurd (cc)
pre-more (c ∷ n) (x ∷ xs) ys h =
    let b = and-both (nat_eq c x) (pre n xs) h in
    both-and (nat_eq c x) (pre n (xs ++ ys)) b.0 (pre-more n xs ys b.1)

pre-take : (n : List ℕ) (k : ℕ) (xs : List ℕ) → pre n (take k xs) ≡ true → pre n xs ≡ true
pre-take [] k xs h = refl
pre-take (c ∷ n) zero xs h = absurd (by xs h)
  where
    by : (xs : List ℕ) → pre (c ∷ n) (take 0 xs) ≡ true → ⊥
    by [] h = cc
    by (x ∷ xs) h = cc
pre-take (c ∷ n) (suc k) [] h = absurd (cc)
pre-take (c ∷ n) (suc k) (x ∷ xs) h =
    let b = and-both (nat_eq c x) (pre n (take k xs)) h in
    both-and (nat_eq c x) (pre n xs) b.0 (pre-take n k xs b.1)

-- ---- the first part, and the first line

abbrev pub first_of : List (List ℕ) → List ℕ
first_of [] = []
first_of (p ∷ ps) = p

first-onto : (x : ℕ) (ps : List (List ℕ)) → first_of (onto_first x ps) ≡ x ∷ first_of ps
first-onto x [] = refl
first-onto x (p ∷ ps) = refl

pre-part : (n xs : List ℕ) → Clean n → pre n xs ≡ pre n (first_of (slice_split is_feed xs))
pre-part [] xs clean = refl
pre-part (c ∷ n) [] clean = refl
pre-part (c ∷ n) (x ∷ xs) clean = by (is_feed x) refl (pre-part n xs clean.1)
  where
    by : (f : Bool) → is_feed x ≡ f → pre n xs ≡ pre n (first_of (slice_split is_feed xs))
        → pre (c ∷ n) (x ∷ xs) ≡ pre (c ∷ n) (first_of (slice_split is_feed (x ∷ xs)))
    by true h more = rw h (same (nat_eq c x) refl)
      where
        same : (e : Bool) → nat_eq c x ≡ e → (nat_eq c x && pre n xs) ≡ false
        same true e = absurd (clean.0.0 (grind (arith, h, e)))
        same false e = rw e refl
    by false h more =
        rw h
        (rw (first-onto x (slice_split is_feed xs))
        (ap (λ b. nat_eq c x && b) more))

-- a carriage return at the end aside
pre-return : (n q : List ℕ) → Clean n → pre n q ≡ true → slice_index q (length q - 1) ≡ 13
    → pre n (take (length q - 1) q) ≡ true
pre-return [] q clean h last = refl
pre-return (c ∷ n) [] clean h last = absurd (cc)
pre-return (c ∷ n) (x ∷ []) clean h last =
    let b = and-both (nat_eq c x) (pre n []) h in
    absurd (clean.0.1 (grind (arith, b.0, last)))
pre-return (c ∷ n) (x ∷ y ∷ q) clean h last =
    let b = and-both (nat_eq c x) (pre n (y ∷ q)) h in
    let len : length (x ∷ y ∷ q) - 1 ≡ suc (length (y ∷ q) - 1) = omega arith in
    let there : slice_index (y ∷ q) (length (y ∷ q) - 1) ≡ 13 = (rw len at last) in
    rw len
    (both-and (nat_eq c x) (pre n (take (length (y ∷ q) - 1) (y ∷ q))) b.0
    (pre-return n (y ∷ q) clean.1 b.1 there))

pre-strip : (n q : List ℕ) → Clean n → pre n q ≡ pre n (strip_carriage_return q)
pre-strip n q clean = by (slice_index q (length q - 1) == 13) refl
  where
    by : (b : Bool) → (slice_index q (length q - 1) == 13) ≡ b
        → pre n q ≡ pre n (strip_carriage_return q)
    by true h =
        rw h
        (same-bool (pre n q) (pre n (take (length q - 1) q))
        (λ p. pre-return n q clean p (grind (arith, h)))
        (pre-take n (length q - 1) q))
    by false h = rw h refl

full : (x : ℕ) (q : List ℕ) → (length (x ∷ q) == 0) ≡ false
full x q = not-zero (length (x ∷ q)) (omega arith)

first-line : (n : List ℕ) (ps : List (List ℕ)) → Clean n
    → pre n (first_of ps) ≡ pre n (first_of (lines_of_parts ps))
first-line n [] clean = refl
first-line n ([] ∷ []) clean = refl
first-line n ((x ∷ q) ∷ []) clean = rw (full x q) refl
first-line n (q ∷ r ∷ more) clean = pre-strip n q clean

pre-line : (n xs : List ℕ) → Clean n → pre n xs ≡ pre n (first_of (lines xs))
pre-line n xs clean = pre-part n xs clean ∙ first-line n (slice_split is_feed xs) clean

-- ---- an entry

clean_1 : Clean (codes "0\t")
clean_1 = ((λ e. cc, λ e. cc), ((λ e. cc, λ e. cc), tt))

clean_2 : Clean (codes "00\t")
clean_2 = ((λ e. cc, λ e. cc), clean_1)

clean_3 : Clean (codes "000\t")
clean_3 = ((λ e. cc, λ e. cc), clean_2)

abbrev pres : List ℕ → Bool
pres xs = pre (codes "0\t") xs || pre (codes "00\t") xs || pre (codes "000\t") xs

pub begins-pres : (xs : List ℕ) → begins_entry xs ≡ pres xs
begins-pres xs = rw (starts-pre (codes "0\t") xs, starts-pre (codes "00\t") xs, starts-pre (codes "000\t") xs) refl

pub begins-line : (xs : List ℕ) → begins_entry xs ≡ begins_entry (first_of (lines xs))
begins-line xs =
    begins-pres xs
    ∙ ap (λ b. b || pre (codes "00\t") xs || pre (codes "000\t") xs) (pre-line (codes "0\t") xs clean_1)
    ∙ ap (λ b. pre (codes "0\t") (first_of (lines xs)) || b || pre (codes "000\t") xs) (pre-line (codes "00\t") xs clean_2)
    ∙ ap (λ b. pre (codes "0\t") (first_of (lines xs)) || pre (codes "00\t") (first_of (lines xs)) || b) (pre-line (codes "000\t") xs clean_3)
    ∙ sym (begins-pres (first_of (lines xs)))

or-more : (a b c d : Bool) → (a ≡ true → c ≡ true) → (b ≡ true → d ≡ true) → (a || b) ≡ true → (c || d) ≡ true
or-more true b c d f g h = rw (f refl) refl
or-more false b true d f g h = refl
or-more false b false d f g h = g h

pub begins-more : (xs ys : List ℕ) → begins_entry xs ≡ true → begins_entry (xs ++ ys) ≡ true
begins-more xs ys h =
    begins-pres (xs ++ ys)
    ∙ or-more (pre (codes "0\t") xs || pre (codes "00\t") xs) (pre (codes "000\t") xs)
    (pre (codes "0\t") (xs ++ ys) || pre (codes "00\t") (xs ++ ys)) (pre (codes "000\t") (xs ++ ys))
    (or-more (pre (codes "0\t") xs) (pre (codes "00\t") xs) (pre (codes "0\t") (xs ++ ys)) (pre (codes "00\t") (xs ++ ys))
    (pre-more (codes "0\t") xs ys) (pre-more (codes "00\t") xs ys))
    (pre-more (codes "000\t") xs ys)
    (sym (begins-pres xs) ∙ h)

none-fewer : (xs ys : List ℕ) (b : Bool) → begins_entry xs ≡ b → begins_entry (xs ++ ys) ≡ false → b ≡ false
none-fewer xs ys true h none = absurd (let more = begins-more xs ys h in cc)
none-fewer xs ys false h none = refl

pub begins-none : (xs ys : List ℕ) → begins_entry (xs ++ ys) ≡ false → begins_entry xs ≡ false
begins-none xs ys none = none-fewer xs ys (begins_entry xs) refl none

-- an entry's first byte is a letter of ASCII
pub begins-some : (xs : List ℕ) → begins_entry xs ≡ true → (ys : List ℕ) × (xs ≡ 48 ∷ ys)
begins-some [] h = absurd (cc)
begins-some (x ∷ xs) h = (xs, by (nat_eq 48 x) refl)
  where
    by : (b : Bool) → nat_eq 48 x ≡ b → x ∷ xs ≡ 48 ∷ xs
    by true e = let same : x ≡ 48 = grind (arith, e) in ap (λ y. y ∷ xs) same
    by false e = absurd (let none : pres (x ∷ xs) ≡ false = rw e refl in let some = sym (begins-pres (x ∷ xs)) ∙ h in cc)
