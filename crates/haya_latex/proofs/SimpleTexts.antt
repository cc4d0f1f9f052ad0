-- What simple texts say: themselves.
use Rattle.std.specs.Prelude.{All}
use Rattle.std.proofs.Common.{◌≡◌, ◌++◌, ◌==◌, ◌&&◌, ◌<◌, ℕ, Bool, true, false, not, nat_lt, List, [], ◌∷◌, if◌then◌else◌, reverse, refl, sym, ◌∙◌, ap, arith, append_assoc}
use Rattle.std.proofs.lemmas.Bool.Decides.{nat_tests}
use Rattle.std.proofs.lemmas.List.{append-nil, map-append, reverse-append, reverse-reverse}
use Rattle.std.proofs.lemmas.List.Elements.{All-cons, All-nil}
use Rattle.std.proofs.lemmas.Str.{chars-IsAscii, encode_ascii}
use Rattle.std.proofs.lemmas.Str.Ascii.{IsAscii-from_all}
use Rattle.std.specs.Char.{is_whitespace}
use Rattle.std.specs.Str.{chars}
use Rattle.haya_latex.specs.Reading.{Reader, is_inside, read, read_all, start, write}
use Rattle.haya_latex.specs.Scans.{begins_white}
use Rattle.haya_latex.specs.Simple.{is_plain, is_simple, of_kind}
use Rattle.haya_latex.specs.Texts.{bytes_of, char_bytes, without_first_blank, without_last_blank}
use Rattle.haya_latex.specs.Tokens.{one, plain, token_at}
use Rattle.haya_latex.specs.declared.kinds.Kind.{Kind}
use Rattle.haya_latex.proofs.Itself.{one_on, settle_free}

-- the first character of a simple text is a blank or plain, and the rest is simple
data First (b : Bool) (x : ℕ) (xs : List ℕ) : Type 0 where
  blank : x ≡ 32 → (x == 32) ≡ true → b ≡ false → is_simple true xs ≡ true → First b x xs
  other : (x == 32) ≡ false → x < 128 → is_plain x ≡ true → is_simple false xs ≡ true → First b x xs

pub is_32 : (x : ℕ) → (x == 32) ≡ true → x ≡ 32
is_32 x e = grind (arith, nat_tests)

pub is_below : (x : ℕ) → nat_lt x 128 ≡ true → x < 128
is_below x e = grind (arith, nat_tests)

pub both : (a b : Bool) → (a && b) ≡ true → (a ≡ true) × (b ≡ true)
both true true e = (refl, refl)
both true false e = cc
both false b e = cc

pub is_not : (b : Bool) → not b ≡ true → b ≡ false
is_not false e = refl
is_not true e = cc

first_by : (t : Bool) (b : Bool) (x : ℕ) (xs : List ℕ) → (x == 32) ≡ t →
    (if t then not b && is_simple true xs else nat_lt x 128 && is_plain x && is_simple false xs) ≡ true →
    First b x xs
first_by true b x xs e h =
    let p = both (not b) (is_simple true xs) h in
    blank (is_32 x e) e (is_not b p.0) p.1
first_by false b x xs e h =
    let p = both (nat_lt x 128 && is_plain x) (is_simple false xs) h in
    let q = both (nat_lt x 128) (is_plain x) p.0 in
    other e (is_below x q.0) q.1 p.1

first_of : (b : Bool) (x : ℕ) (xs : List ℕ) → is_simple b (x ∷ xs) ≡ true → First b x xs
first_of b x xs h = first_by (x == 32) b x xs refl h

below : (b : Bool) (xs : List ℕ) → is_simple b xs ≡ true → All (λ y. y < 128) xs
below b [] h = All-nil (λ y. y < 128)
below b (x ∷ xs) h =
    elim (first_of b x xs h) [
      | blank e t f r ↦ All-cons (λ y. y < 128) x xs (omega arith) (below true xs r)
      | other t l p r ↦ All-cons (λ y. y < 128) x xs l (below false xs r)
    ]

-- they are in ASCII
chars_are : (xs : List ℕ) → is_simple true xs ≡ true → chars xs ≡ xs
chars_are xs h = chars-IsAscii xs (IsAscii-from_all xs (below true xs h))

pub char_bytes_are : (k : Kind) (x : ℕ) → x < 128 → char_bytes (x, k) ≡ (x, k) ∷ []
char_bytes_are k x l = ap (bytes_of k) (encode_ascii x l)

-- each character is a token that writes it
pub plain_token : (k : Kind) (n : ℕ) (g : Bool) (x : ℕ) (xs : List ℕ) → is_plain x ≡ true → token_at k n g x xs ≡ plain (one x) 0
plain_token k n g x xs h = grind (arith, nat_tests)

pub plain_not_white : (x : ℕ) → is_plain x ≡ true → is_whitespace x ≡ false
plain_not_white x h = grind (arith, nat_tests)

blank_token : (k : Kind) (n : ℕ) (g : Bool) (x : ℕ) (xs : List ℕ) → x ≡ 32 → begins_white xs ≡ false → token_at k n g x xs ≡ plain (one x) 0
blank_token k n g x xs e w = rw (e, w) refl

next_not_white : (xs : List ℕ) → is_simple true xs ≡ true → begins_white xs ≡ false
next_not_white [] h = refl
next_not_white (x ∷ xs) h =
    elim (first_of true x xs h) [ blank e t f r ↦ cc | other t l p r ↦ plain_not_white x p ]

pub says_itself : (b : Bool) (xs : List ℕ) (s : Reader) → is_simple b xs ≡ true → s.waiting ≡ [] →
    read 0 s xs ≡ write (of_kind s.inner.kind xs) s
says_itself b [] s h free = settle_free 0 s free ∙ ap (λ cs. record s { chars = cs }) (sym (append-nil s.chars))
says_itself b (x ∷ xs) s h free =
    let k = s.inner.kind in
    let next = write ((x, k) ∷ []) s in
    let joined : write (of_kind k xs) next ≡ write (of_kind k (x ∷ xs)) s =
    ap (λ cs. record s { chars = cs }) (append_assoc s.chars ((x, k) ∷ []) (of_kind k xs)) in
    elim (first_of b x xs h) [
      | blank e t f r ↦ one_on s x x xs (blank_token k s.inner.depth (is_inside s.outer) x xs e (next_not_white xs r)) free ∙ (says_itself true xs next r free ∙ joined)
      | other t l p r ↦ one_on s x x xs (plain_token k s.inner.depth (is_inside s.outer) x xs p) free ∙ (says_itself false xs next r free ∙ joined)
    ]

-- a text whose last character is no blank
pub record Ends (xs : List ℕ) : Type 0 where
  pub front : List ℕ
  pub last : ℕ
  pub joins : xs ≡ front ++ (last ∷ [])
  pub stays : (last == 32) ≡ false

pub last_by : (k : Kind) (xs : List ℕ) → Ends xs → without_last_blank (of_kind k xs) ≡ of_kind k xs
last_by k xs w =
    let all : of_kind k xs ≡ of_kind k w.front ++ ((w.last, k) ∷ []) = ap (of_kind k) w.joins ∙ map-append (λ x. (x, k)) w.front (w.last ∷ []) in
    let back : reverse (of_kind k xs) ≡ (w.last, k) ∷ reverse (of_kind k w.front) = ap reverse all ∙ reverse-append (of_kind k w.front) ((w.last, k) ∷ []) in
    let kept : without_first_blank ((w.last, k) ∷ reverse (of_kind k w.front)) ≡ (w.last, k) ∷ reverse (of_kind k w.front) = rw w.stays refl in
    ap (λ l. reverse (without_first_blank l)) back ∙ (ap reverse (kept ∙ sym back) ∙ reverse-reverse (of_kind k xs))

pub reads_itself : (k : Kind) (xs : List ℕ) → is_simple true xs ≡ true → read_all k (chars xs) ≡ write (of_kind k xs) (start k)
reads_itself k xs h = ap (read_all k) (chars_are xs h) ∙ says_itself true xs (start k) h refl
