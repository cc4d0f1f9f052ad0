-- Texts that say just their bytes: as simple ones, with single hyphens, and marks that no other sign
-- follows.
use Rattle.std.specs.Prelude.{All}
use Rattle.std.proofs.Common.{◌≡◌, ◌++◌, ◌==◌, ◌&&◌, ◌||◌, ◌<◌, ℕ, Bool, true, false, not, nat_lt, List, [], ◌∷◌, if◌then◌else◌, flat_map, length, refl, sym, ◌∙◌, ap, arith, append_assoc}
use Rattle.std.proofs.lemmas.Bool.Decides.{nat_tests}
use Rattle.std.proofs.lemmas.List.{append-nil}
use Rattle.std.proofs.lemmas.List.Concat.{flat_map-cons}
use Rattle.std.proofs.lemmas.List.Elements.{All-cons, All-nil}
use Rattle.std.proofs.lemmas.Str.{chars-IsAscii}
use Rattle.std.proofs.lemmas.Str.Ascii.{IsAscii-from_all}
use Rattle.std.specs.Char.{is_whitespace}
use Rattle.std.specs.Prelude.{String}
use Rattle.std.specs.Str.{chars}
use Rattle.std.specs.String.{string_bytes}
use Rattle.std.specs.declared.alloc.Global.{Global}
use Rattle.haya_latex.specs.Reading.{Reader, is_inside, read, read_all, start, write}
use Rattle.haya_latex.specs.RunViews.{run_bytes}
use Rattle.haya_latex.specs.Scans.{begins, begins_white}
use Rattle.haya_latex.specs.Simple.{is_plain, of_kind}
use Rattle.haya_latex.specs.Texts.{bytes_of, char_bytes, single_blanks, text_chars, text_unknown, trimmed, without_last_blank}
use Rattle.haya_latex.specs.Tokens.{one, plain, token_at}
use Rattle.haya_latex.specs.declared.kinds.Kind.{Kind}
use Rattle.haya_latex.specs.declared.kinds.Kind.TheVariants.{Normal}
use Rattle.haya_latex.specs.declared.runs.Run.{Run}
use Rattle.haya_latex.proofs.Itself.{one_on, settle_free}
use Rattle.haya_latex.proofs.SimpleTexts.{Ends, both, char_bytes_are, is_32, is_below, is_not, last_by, plain_token}

-- a sign that says itself where no grave accent follows
abbrev pub is_said : ℕ → Bool
is_said x = is_plain x || (x == 33) || (x == 63)

-- a text of them, of single blanks and of single hyphens, in front of which a blank may be, or a
-- hyphen, with no blank at its end
abbrev pub is_literal : Bool → Bool → List ℕ → Bool
is_literal blank hyphen [] = not blank
is_literal blank hyphen (x ∷ xs) =
    if x == 32 then not blank && is_literal true false xs
    else if x == 45 then not hyphen && is_literal false true xs
    else nat_lt x 128 && is_said x && is_literal false false xs

-- the first character of such a text, and the rest
data First (b h : Bool) (x : ℕ) (xs : List ℕ) : Type 0 where
  blank : x ≡ 32 → (x == 32) ≡ true → b ≡ false → is_literal true false xs ≡ true → First b h x xs
  hyphen : x ≡ 45 → (x == 32) ≡ false → is_literal false true xs ≡ true → First b h x xs
  other : (x == 32) ≡ false → x < 128 → is_said x ≡ true → is_literal false false xs ≡ true → First b h x xs

is_45 : (x : ℕ) → (x == 45) ≡ true → x ≡ 45
is_45 x e = grind (arith, nat_tests)

first_by : (s t : Bool) (b h : Bool) (x : ℕ) (xs : List ℕ) → (x == 32) ≡ s → (x == 45) ≡ t →
    (if s then not b && is_literal true false xs
    else if t then not h && is_literal false true xs
    else nat_lt x 128 && is_said x && is_literal false false xs) ≡ true →
    First b h x xs
first_by true t b h x xs e f l =
    let p = both (not b) (is_literal true false xs) l in
    blank (is_32 x e) e (is_not b p.0) p.1
first_by false true b h x xs e f l =
    let p = both (not h) (is_literal false true xs) l in
    hyphen (is_45 x f) e p.1
first_by false false b h x xs e f l =
    let p = both (nat_lt x 128 && is_said x) (is_literal false false xs) l in
    let q = both (nat_lt x 128) (is_said x) p.0 in
    other e (is_below x q.0) q.1 p.1

first_of : (b h : Bool) (x : ℕ) (xs : List ℕ) → is_literal b h (x ∷ xs) ≡ true → First b h x xs
first_of b h x xs l = first_by (x == 32) (x == 45) b h x xs refl refl l

below : (b h : Bool) (xs : List ℕ) → is_literal b h xs ≡ true → All (λ y. y < 128) xs
below b h [] l = All-nil (λ y. y < 128)
below b h (x ∷ xs) l =
    elim (first_of b h x xs l) [
      | blank e t f r ↦ All-cons (λ y. y < 128) x xs (omega arith) (below true false xs r)
      | hyphen e t r ↦ All-cons (λ y. y < 128) x xs (omega arith) (below false true xs r)
      | other t s p r ↦ All-cons (λ y. y < 128) x xs s (below false false xs r)
    ]

chars_are : (xs : List ℕ) → is_literal true false xs ≡ true → chars xs ≡ xs
chars_are xs l = chars-IsAscii xs (IsAscii-from_all xs (below true false xs l))

pushed : (k : Kind) (x : ℕ) (xs : List ℕ) → x < 128 → flat_map char_bytes (of_kind k xs) ≡ bytes_of k xs →
    flat_map char_bytes (of_kind k (x ∷ xs)) ≡ bytes_of k (x ∷ xs)
pushed k x xs s r =
    flat_map-cons char_bytes (x, k) (of_kind k xs)
    ∙ (ap (λ l. l ++ flat_map char_bytes (of_kind k xs)) (char_bytes_are k x s) ∙ ap (λ l. (x, k) ∷ l) r)

bytes_are : (k : Kind) (b h : Bool) (xs : List ℕ) → is_literal b h xs ≡ true → flat_map char_bytes (of_kind k xs) ≡ bytes_of k xs
bytes_are k b h [] l = refl
bytes_are k b h (x ∷ xs) l =
    elim (first_of b h x xs l) [
      | blank e t f r ↦ pushed k x xs (omega arith) (bytes_are k true false xs r)
      | hyphen e t r ↦ pushed k x xs (omega arith) (bytes_are k false true xs r)
      | other t s p r ↦ pushed k x xs s (bytes_are k false false xs r)
    ]

-- ---- each character is a token that writes it

-- no white follows a blank, no hyphen a hyphen, and no grave accent any sign
next_not_white : (xs : List ℕ) → is_literal true false xs ≡ true → begins_white xs ≡ false
next_not_white [] l = refl
next_not_white (x ∷ xs) l =
    elim (first_of true false x xs l) [
      | blank e t f r ↦ cc
      | hyphen e t r ↦ rw e refl
      | other t s p r ↦ not_white x p
    ]
  where
    not_white : (x : ℕ) → is_said x ≡ true → is_whitespace x ≡ false
    not_white x h = grind (arith, nat_tests)

no_hyphen_by : (t : Bool) (x : ℕ) (xs : List ℕ) → (x == 45) ≡ t → is_literal false true (x ∷ xs) ≡ true → t ≡ false
no_hyphen_by false x xs e l = refl
no_hyphen_by true x xs e l =
    let f : is_literal false true (x ∷ xs) ≡ false = rw (is_45 x e) refl in
    cc

next_no_hyphen : (xs : List ℕ) → is_literal false true xs ≡ true → begins 45 xs ≡ false
next_no_hyphen [] l = refl
next_no_hyphen (x ∷ xs) l = no_hyphen_by (x == 45) x xs refl l

no_accent_by : (t : Bool) (x : ℕ) (xs : List ℕ) → (x == 96) ≡ t → is_literal false false (x ∷ xs) ≡ true → t ≡ false
no_accent_by false x xs e l = refl
no_accent_by true x xs e l =
    let s : x ≡ 96 = grind (arith, nat_tests) in
    let f : is_literal false false (x ∷ xs) ≡ false = rw s refl in
    cc

next_no_accent : (xs : List ℕ) → is_literal false false xs ≡ true → begins 96 xs ≡ false
next_no_accent [] l = refl
next_no_accent (x ∷ xs) l = no_accent_by (x == 96) x xs refl l

blank_token : (k : Kind) (n : ℕ) (g : Bool) (x : ℕ) (xs : List ℕ) → x ≡ 32 → begins_white xs ≡ false → token_at k n g x xs ≡ plain (one x) 0
blank_token k n g x xs e w = rw (e, w) refl

hyphen_token : (k : Kind) (n : ℕ) (g : Bool) (x : ℕ) (xs : List ℕ) → x ≡ 45 → begins 45 xs ≡ false → token_at k n g x xs ≡ plain (one x) 0
hyphen_token k n g x [] e w = rw e refl
hyphen_token k n g x (y ∷ ys) e w = rw (e, w) refl

said_token : (k : Kind) (n : ℕ) (g : Bool) (x : ℕ) (xs : List ℕ) → is_said x ≡ true → begins 96 xs ≡ false → token_at k n g x xs ≡ plain (one x) 0
said_token k n g x xs h w =
    by (is_plain x) (x == 33) (x == 63) refl refl refl h
  where
    by : (p q r : Bool) → is_plain x ≡ p → (x == 33) ≡ q → (x == 63) ≡ r → (p || q || r) ≡ true → token_at k n g x xs ≡ plain (one x) 0
    by true q r a b c l = plain_token k n g x xs a
    by false true r a b c l =
        let e : x ≡ 33 = grind (arith, nat_tests) in
        rw (e, w) refl
    by false false true a b c l =
        let e : x ≡ 63 = grind (arith, nat_tests) in
        rw (e, w) refl
    by false false false a b c l = cc

says_itself : (b h : Bool) (xs : List ℕ) (s : Reader) → is_literal b h xs ≡ true → s.waiting ≡ [] →
    read 0 s xs ≡ write (of_kind s.inner.kind xs) s
says_itself b h [] s l free = settle_free 0 s free ∙ ap (λ cs. record s { chars = cs }) (sym (append-nil s.chars))
says_itself b h (x ∷ xs) s l free =
    let k = s.inner.kind in
    let n = s.inner.depth in
    let g = is_inside s.outer in
    let next = write ((x, k) ∷ []) s in
    let joined : write (of_kind k xs) next ≡ write (of_kind k (x ∷ xs)) s =
    ap (λ cs. record s { chars = cs }) (append_assoc s.chars ((x, k) ∷ []) (of_kind k xs)) in
    elim (first_of b h x xs l) [
      | blank e t f r ↦ one_on s x x xs (blank_token k n g x xs e (next_not_white xs r)) free ∙ (says_itself true false xs next r free ∙ joined)
      | hyphen e t r ↦ one_on s x x xs (hyphen_token k n g x xs e (next_no_hyphen xs r)) free ∙ (says_itself false true xs next r free ∙ joined)
      | other t o p r ↦ one_on s x x xs (said_token k n g x xs p (next_no_accent xs r)) free ∙ (says_itself false false xs next r free ∙ joined)
    ]

-- ---- no blank is behind another one, and none is last

kept : (k : Kind) (b : Bool) (x : ℕ) (xs : List ℕ) → (x == 32) ≡ false →
    single_blanks false (of_kind k xs) ≡ of_kind k xs → single_blanks b (of_kind k (x ∷ xs)) ≡ of_kind k (x ∷ xs)
kept k b x xs t r = rw t (ap (λ l. (x, k) ∷ l) r)

singles : (k : Kind) (b h : Bool) (xs : List ℕ) → is_literal b h xs ≡ true → single_blanks b (of_kind k xs) ≡ of_kind k xs
singles k b h [] l = refl
singles k b h (x ∷ xs) l =
    elim (first_of b h x xs l) [
      | blank e t f r ↦ rw (t, f) (ap (λ l. (x, k) ∷ l) (singles k true false xs r))
      | hyphen e t r ↦ kept k b x xs t (singles k false true xs r)
      | other t s p r ↦ kept k b x xs t (singles k false false xs r)
    ]

ends : (b h : Bool) (x : ℕ) (xs : List ℕ) → is_literal b h (x ∷ xs) ≡ true → Ends (x ∷ xs)
ends b h x [] l =
    elim (first_of b h x [] l) [
      | blank e t f r ↦ cc
      | hyphen e t r ↦ record { front = []; last = x; joins = refl; stays = t }
      | other t s p r ↦ record { front = []; last = x; joins = refl; stays = t }
    ]
ends b h x (y ∷ ys) l =
    let more : Ends (y ∷ ys) → Ends (x ∷ y ∷ ys) =
    λ w. record { front = x ∷ w.front; last = w.last; joins = ap (λ l. x ∷ l) w.joins; stays = w.stays } in
    elim (first_of b h x (y ∷ ys) l) [
      | blank e t f r ↦ more (ends true false y ys r)
      | hyphen e t r ↦ more (ends false true y ys r)
      | other t s p r ↦ more (ends false false y ys r)
    ]

trims : (k : Kind) (xs : List ℕ) → is_literal true false xs ≡ true → trimmed (of_kind k xs) ≡ of_kind k xs
trims k [] l = cc
trims k (x ∷ xs) l = ap without_last_blank (singles k true false (x ∷ xs) l) ∙ last_by k (x ∷ xs) (ends true false x xs l)

reads_itself : (k : Kind) (xs : List ℕ) → is_literal true false xs ≡ true → read_all k (chars xs) ≡ write (of_kind k xs) (start k)
reads_itself k xs l = ap (read_all k) (chars_are xs l) ∙ says_itself true false xs (start k) l refl

pub literal_bytes : (xs : List ℕ) → is_literal true false xs ≡ true → flat_map char_bytes (text_chars (chars xs)) ≡ bytes_of Normal xs
literal_bytes xs l =
    ap (λ (r : Reader). flat_map char_bytes (trimmed r.chars)) (reads_itself Normal xs l)
    ∙ (ap (flat_map char_bytes) (trims Normal xs l) ∙ bytes_are Normal true false xs l)

pub literal_some : (xs : List ℕ) → is_literal true false xs ≡ true → 0 < length xs
literal_some [] l = cc
literal_some (x ∷ xs) l = omega arith

pub literal_unknown : (xs : List ℕ) → is_literal true false xs ≡ true → text_unknown (chars xs) ≡ []
literal_unknown xs l = ap (λ (r : Reader). r.counted) (reads_itself Normal xs l)

-- the one run of a text that is its own bytes
pub one_run : (t : String Global) (rs : List Run) (xs : List ℕ) → rs ≡ record { kind = Normal; text = t } ∷ [] →
    string_bytes t ≡ xs → flat_map char_bytes (text_chars (chars xs)) ≡ bytes_of Normal xs →
    flat_map run_bytes rs ≡ flat_map char_bytes (text_chars (chars xs))
one_run t rs xs e is h =
    let r : Run = record { kind = Normal; text = t } in
    ap (flat_map run_bytes) e
    ∙ (flat_map-cons run_bytes r [] ∙ (append-nil (run_bytes r) ∙ (ap (bytes_of Normal) is ∙ sym h)))
