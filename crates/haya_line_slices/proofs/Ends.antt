-- Where an entry ends, its lines end.
use Rattle.std.proofs.Common.{inl, inr, ◌≡◌, ℕ, zero, suc, ◌+◌, ◌<◌, ◌≤◌, ◌⊎◌, true, false, List, [], ◌∷◌, ◌++◌, Some, drop, length, take, refl, sym, ap, ◌∙◌, append-nil, append_assoc, arith}
use Rattle.std.specs.Prelude.{flat_map, slice_index}
use Rattle.std.specs.List.{AllByRecursion, concat, last_or}
use Rattle.std.specs.Str.Lines.{lines}
use Rattle.std.proofs.lemmas.List.{get_or-take, take-append-drop, take_all, take_more}
use Rattle.haya_line_library.specs.Parts.{AreWholeLines}
use Rattle.haya_line_library.proofs.Parts.{lines-append}
use Rattle.haya_line_slices.specs.EntryLines.{AreEntryParts, BeginNone, IsEntryPart, begins_entry}
use Rattle.haya_line_slices.specs.Scan.{EndsAt, IsEnd, IsPartedTo, behind_first}
use Rattle.haya_line_slices.proofs.FirstLines.{IsSome, NoneWithin, all-lines, lines-some, none-later}
use Rattle.haya_line_slices.proofs.Starts.{begins-line, begins-none, first_of}

pub last-behind : (xs : List ℕ) (x : ℕ) (o : _) → last_or o (xs ++ x ∷ []) ≡ Some x
last-behind [] x o = refl
last-behind (y ∷ xs) x o = last-behind xs x (Some y)

pub drop-all : (xs : List ℕ) → drop (length xs) xs ≡ []
drop-all [] = refl
drop-all (x ∷ xs) = drop-all xs

-- the lines up to the end, and those behind it
pub whole-lines : (bytes : List ℕ) (n : ℕ) → EndsAt bytes n
    → lines bytes ≡ lines (take n bytes) ++ lines (drop n bytes)
whole-lines bytes n e = by e.ends
  where
    by : IsEnd bytes n → lines bytes ≡ lines (take n bytes) ++ lines (drop n bytes)
    by (inl all) =
        rw all
        (rw (drop-all bytes, take_all (length bytes) bytes (omega arith)) (sym (append-nil (lines bytes))))
    by (inr h) =
        let m = h.0 in
        let within : m < length bytes = omega (arith, e.within, h.1) in
        let taken : take n bytes ≡ take m bytes ++ 10 ∷ [] =
        ap (λ k. take k bytes) h.1 ∙ take_more bytes m 0 within ∙ ap (λ x. take m bytes ++ x ∷ []) h.2 in
        let whole : AreWholeLines (take n bytes) = rw taken (last-behind (take m bytes) 10 (Some 10)) in
        ap lines (sym (take-append-drop n bytes)) ∙ lines-append (take n bytes) (drop n bytes) whole

dropped : (xs : List ℕ) (n k : ℕ) → k ≤ n → drop k xs ≡ drop k (take n xs) ++ drop n xs
dropped xs n zero h = sym (take-append-drop n xs)
dropped xs zero (suc k) h = absurd (omega arith)
dropped [] (suc n) (suc k) h = refl
dropped (x ∷ xs) (suc n) (suc k) h = dropped xs n k (omega arith)

take-short : (n : ℕ) (xs : List ℕ) → length (take n xs) ≤ n
take-short zero xs = by xs
  where
    by : (xs : List ℕ) → length (take 0 xs) ≤ 0
    by [] = omega arith
    by (x ∷ xs) = omega arith
take-short (suc n) [] = omega arith
take-short (suc n) (x ∷ xs) = let more = take-short n xs in omega (arith, more)

take-some : (n : ℕ) (xs : List ℕ) → 0 < n → 0 < length xs → 0 < length (take n xs)
take-some zero xs some long = absurd (omega (arith, some))
take-some (suc n) [] some long = absurd (omega (arith, long))
take-some (suc n) (x ∷ xs) some long = omega arith

-- no entry begins within, but at the first byte
pub none-within : (bytes : List ℕ) (n : ℕ) → EndsAt bytes n → NoneWithin (take n bytes)
none-within bytes n e = λ k before feed.
    let shorter : length (take n bytes) ≤ n = take-short n bytes in
    let in_n : k + 1 < n = omega (arith, before, shorter) in
    let same : slice_index bytes k ≡ 10 = sym (get_or-take n bytes k 0 (omega (arith, in_n))) ∙ feed in
    let none = e.none k in_n same in
    let parts : drop (k + 1) bytes ≡ drop (k + 1) (take n bytes) ++ drop n bytes = dropped bytes n (k + 1) (omega (arith, in_n)) in
    begins-none (drop (k + 1) (take n bytes)) (drop n bytes) (ap begins_entry (sym parts) ∙ none)

pub behind-none : (bytes : List ℕ) (n : ℕ) → EndsAt bytes n
    → BeginNone (behind_first (lines (take n bytes)))
behind-none bytes n e = none-later (take n bytes) (none-within bytes n e)

-- ---- a front

next-of : (bytes : List ℕ) (n : ℕ) → EndsAt bytes n
    → (drop n bytes ≡ []) ⊎ (begins_entry (drop n bytes) ≡ true)
next-of bytes n e = by e.ends
  where
    by : IsEnd bytes n → (drop n bytes ≡ []) ⊎ (begins_entry (drop n bytes) ≡ true)
    by (inl all) = inl (rw all (drop-all bytes))
    by (inr h) = inr h.3

pub front-parted : (text : List ℕ) (n : ℕ) → begins_entry text ≡ false → EndsAt text n
    → IsPartedTo text [] (drop n text)
front-parted text n none e = record {
  front = take n text;
  is = sym (take-append-drop n text);
  whole = whole-lines text n e;
  before =
      all-lines (lines (take n text))
      (sym (begins-line (take n text))
      ∙ begins-none (take n text) (drop n text) (ap begins_entry (take-append-drop n text) ∙ none))
      (behind-none text n e);
  each = tt;
  next = next-of text n e;
}

pub no-front : (text : List ℕ) → begins_entry text ≡ true → IsPartedTo text [] text
no-front text begins = record { front = []; is = refl; whole = refl; before = tt; each = tt; next = inr begins }

-- ---- a part

first-before : (ls ms : List (List ℕ)) → IsSome ls → first_of (ls ++ ms) ≡ first_of ls
first-before ls ms s = rw s.is refl

is-part : (p : List ℕ) (ls : List (List ℕ)) → lines p ≡ ls → IsSome ls → begins_entry (first_of ls) ≡ true
    → BeginNone (behind_first ls) → IsEntryPart p
is-part p [] e s begins behind = absurd (cc (s.is))
is-part p (l ∷ ls) e s begins behind = record { first = l; more = ls; is = e; begins = begins; behind = behind }

some-lines : (xs : List ℕ) → 0 < length xs → IsSome (lines xs)
some-lines [] h = absurd (omega arith)
some-lines (x ∷ xs) h = lines-some x xs

pub entry-part : (rest : List ℕ) (n : ℕ) → begins_entry rest ≡ true → 0 < length rest → EndsAt rest n
    → IsEntryPart (take n rest)
entry-part rest n begins long e =
    let some : 0 < n = e.some long in
    let longer : 0 < length (take n rest) = take-some n rest some long in
    let s = some-lines (take n rest) longer in
    is-part (take n rest) (lines (take n rest)) refl s
    (ap begins_entry (sym (first-before (lines (take n rest)) (lines (drop n rest)) s) ∙ ap first_of (sym (whole-lines rest n e)))
    ∙ sym (begins-line rest) ∙ begins)
    (behind-none rest n e)

concat-push : (ps : List (List ℕ)) (p rest : List ℕ) → concat ps ++ (p ++ rest) ≡ concat (ps ++ p ∷ []) ++ rest
concat-push [] p rest = ap (λ l. l ++ rest) (sym (append-nil p))
concat-push (q ∷ ps) p rest =
    append_assoc q (concat ps) (p ++ rest) ∙ ap (λ l. q ++ l) (concat-push ps p rest)
    ∙ sym (append_assoc q (concat (ps ++ p ∷ [])) rest)

lines-push : (ps : List (List ℕ)) (p : List ℕ) (ls : List (List ℕ))
    → flat_map lines ps ++ (lines p ++ ls) ≡ flat_map lines (ps ++ p ∷ []) ++ ls
lines-push [] p ls = ap (λ l. l ++ ls) (sym (append-nil (lines p)))
lines-push (q ∷ ps) p ls =
    append_assoc (lines q) (flat_map lines ps) (lines p ++ ls) ∙ ap (λ l. lines q ++ l) (lines-push ps p ls)
    ∙ sym (append_assoc (lines q) (flat_map lines (ps ++ p ∷ [])) ls)

all-push : (ps : List (List ℕ)) (p : List ℕ) → AllByRecursion IsEntryPart ps → IsEntryPart p
    → AllByRecursion IsEntryPart (ps ++ p ∷ [])
all-push [] p h i = (i, tt)
all-push (q ∷ ps) p h i = (h.0, all-push ps p h.1 i)

pub one-more : (text : List ℕ) (ps : List (List ℕ)) (rest : List ℕ) (n : ℕ) → IsPartedTo text ps rest
    → 0 < length rest → EndsAt rest n → IsPartedTo text (ps ++ take n rest ∷ []) (drop n rest)
one-more text ps rest n parted long e = record {
  front = parted.front;
  is =
      parted.is ∙ ap (λ l. parted.front ++ (concat ps ++ l)) (sym (take-append-drop n rest))
      ∙ ap (λ l. parted.front ++ l) (concat-push ps (take n rest) (drop n rest));
  whole =
      parted.whole ∙ ap (λ l. lines parted.front ++ (flat_map lines ps ++ l)) (whole-lines rest n e)
      ∙ ap (λ l. lines parted.front ++ l) (lines-push ps (take n rest) (lines (drop n rest)));
  before = parted.before;
  each = all-push ps (take n rest) parted.each (entry-part rest n (begins parted.next) long e);
  next = next-of rest n e;
}
  where
    begins : (rest ≡ []) ⊎ (begins_entry rest ≡ true) → begins_entry rest ≡ true
    begins (inl none) = absurd (let l = ap length none in omega (arith, l, long))
    begins (inr h) = h

-- the front stays
pub front-stays : (text : List ℕ) (ps : List (List ℕ)) (rest : List ℕ) (n : ℕ)
    (parted : IsPartedTo text ps rest) (long : 0 < length rest) (e : EndsAt rest n)
    → (one-more text ps rest n parted long e).front ≡ parted.front
unfolding one-more
front-stays text ps rest n parted long e = refl

pub all-parted : (text : List ℕ) (ps : List (List ℕ)) (rest : List ℕ) → IsPartedTo text ps rest → rest ≡ []
    → AreEntryParts text ps
all-parted text ps rest parted none = record {
  front = parted.front;
  is = parted.is ∙ ap (λ l. parted.front ++ l) (ap (λ l. concat ps ++ l) none ∙ append-nil (concat ps));
  whole = parted.whole ∙ ap (λ l. lines parted.front ++ l) (ap (λ r. flat_map lines ps ++ lines r) none ∙ append-nil (flat_map lines ps));
  before = parted.before;
  each = parted.each;
}

pub none-left : (xs : List ℕ) → length xs ≡ 0 → xs ≡ []
none-left [] h = refl
none-left (x ∷ xs) h = absurd (omega (arith, h))
