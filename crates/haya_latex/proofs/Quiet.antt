-- Plain and white characters at the front of a text.
use Rattle.std.proofs.Common.{◌≡◌, ◌≤◌, ◌+◌, ◌==◌, ◌||◌, ℕ, Bool, true, false, List, [], ◌∷◌, length, if◌then◌else◌, refl, arith, sym, ◌∙◌, ap, append_assoc}
use Rattle.std.proofs.lemmas.Bool.Decides.{nat_tests}
use Rattle.std.proofs.lemmas.List.{append-nil}
use Rattle.std.specs.Char.{is_whitespace}
use Rattle.haya_latex_words.specs.declared.accent.Accent.{Accent}
use Rattle.haya_latex.specs.Reading.{Reader, is_inside, read, read_all, write}
use Rattle.haya_latex.specs.ReadingViews.{braces}
use Rattle.haya_latex.specs.Scans.{begins_white}
use Rattle.haya_latex.specs.Simple.{behind_quiet, is_plain, left_behind_quiet, of_kind, quiet_front, quiet_rest}
use Rattle.haya_latex.specs.Tokens.{nothing, one, plain, token_at}
use Rattle.haya_latex.specs.declared.kinds.Kind.{Kind}
use Rattle.haya_latex.proofs.Itself.{nothing_on, one_on}
use Rattle.haya_latex.proofs.SimpleTexts.{plain_token}

white_token : (k : Kind) (n : ℕ) (g : Bool) (x : ℕ) (xs : List ℕ) → is_whitespace x ≡ true →
    begins_white xs ≡ true → token_at k n g x xs ≡ plain nothing 0
white_token k n g x xs w b = rw (w, b) refl

blank_token : (k : Kind) (n : ℕ) (g : Bool) (x : ℕ) (xs : List ℕ) → is_whitespace x ≡ true →
    begins_white xs ≡ false → token_at k n g x xs ≡ plain (one 32) 0
blank_token k n g x xs w b = rw (w, b) refl

none_written : (s : Reader) → s ≡ write [] s
none_written s = ap (λ cs. record s { chars = cs }) (sym (append-nil s.chars))

-- what is written before and behind is written together
joined : (k : Kind) (x : ℕ) (xs : List ℕ) (s : Reader) →
    write (of_kind k xs) (write ((x, k) ∷ []) s) ≡ write (of_kind k (x ∷ xs)) s
joined k x xs s = ap (λ cs. record s { chars = cs }) (append_assoc s.chars ((x, k) ∷ []) (of_kind k xs))

-- one character more, where the rest is read
abbrev ReadsRest : List ℕ → Type 0
ReadsRest xs = (s : Reader) → s.waiting ≡ [] →
    read 0 s xs ≡ read 0 (write (of_kind s.inner.kind (quiet_front xs)) s) (quiet_rest xs)

one_more : (w b p : Bool) (x : ℕ) (xs : List ℕ) (s : Reader) → ReadsRest xs →
    is_whitespace x ≡ w → begins_white xs ≡ b → is_plain x ≡ p → s.waiting ≡ [] →
    read 0 s (x ∷ xs) ≡ read 0
    (write (of_kind s.inner.kind (if w then (if b then quiet_front xs else 32 ∷ quiet_front xs) else if p then x ∷ quiet_front xs else [])) s)
    (if w || p then quiet_rest xs else x ∷ xs)
one_more true true p x xs s rest white more plain free =
    nothing_on s x xs (white_token s.inner.kind s.inner.depth (is_inside s.outer) x xs white more) free ∙ rest s free
one_more true false p x xs s rest white more plain free =
    let k = s.inner.kind in
    one_on s x 32 xs (blank_token k s.inner.depth (is_inside s.outer) x xs white more) free
    ∙ (rest (write ((32, k) ∷ []) s) free ∙ ap (λ r. read 0 r (quiet_rest xs)) (joined k 32 (quiet_front xs) s))
one_more false b true x xs s rest white more plain free =
    let k = s.inner.kind in
    one_on s x x xs (plain_token k s.inner.depth (is_inside s.outer) x xs plain) free
    ∙ (rest (write ((x, k) ∷ []) s) free ∙ ap (λ r. read 0 r (quiet_rest xs)) (joined k x (quiet_front xs) s))
one_more false b false x xs s rest white more plain free = ap (λ r. read 0 r (x ∷ xs)) (none_written s)

-- the reader goes on behind them
reads_quiet : (xs : List ℕ) → ReadsRest xs
reads_quiet [] s free = ap (λ r. read 0 r []) (none_written s)
reads_quiet (x ∷ xs) s free = one_more (is_whitespace x) (begins_white xs) (is_plain x) x xs s (reads_quiet xs) refl refl refl free

none_waits : (ws : List (Accent × Kind × ℕ)) → (length ws == 0) ≡ true → ws ≡ []
none_waits [] e = refl
none_waits (w ∷ ws) e = grind (arith, nat_tests)

front_by : (b : Bool) (xs : List ℕ) (s : Reader) → (length s.waiting == 0) ≡ b →
    read 0 s xs ≡ read 0 (if b then write (of_kind s.inner.kind (quiet_front xs)) s else s) (if b then quiet_rest xs else xs)
front_by true xs s e = reads_quiet xs s (none_waits s.waiting e)
front_by false xs s e = refl

front_reads : (xs : List ℕ) (s : Reader) → read 0 s xs ≡ read 0 (behind_quiet xs s) (left_behind_quiet xs s)
front_reads xs s = front_by (length s.waiting == 0) xs s refl

front_braces : (xs : List ℕ) (s : Reader) → braces (behind_quiet xs s) ≡ braces s
front_braces xs s =
    elim (length s.waiting == 0) as (λ b. braces (if b then write (of_kind s.inner.kind (quiet_front xs)) s else s) ≡ braces s)
    [ true ↦ refl | false ↦ refl ]

rest_shorter : (xs : List ℕ) → length (quiet_rest xs) ≤ length xs
rest_shorter [] = omega arith
rest_shorter (x ∷ xs) =
    elim (is_whitespace x || is_plain x) as (λ b. length (if b then quiet_rest xs else x ∷ xs) ≤ length (x ∷ xs))
    [ true ↦ omega (arith, rest_shorter xs) | false ↦ omega arith ]

front_shorter : (xs : List ℕ) (s : Reader) → length (left_behind_quiet xs s) ≤ length xs
front_shorter xs s =
    elim (length s.waiting == 0) as (λ b. length (if b then quiet_rest xs else xs) ≤ length xs)
    [ true ↦ rest_shorter xs | false ↦ omega arith ]

-- a reader that reads what is left of a text goes on behind them
pub reads_front : (k : Kind) (whole xs ys : List ℕ) (s s2 : Reader) → read_all k whole ≡ read 0 s xs →
    s2 ≡ behind_quiet xs s → ys ≡ left_behind_quiet xs s → read_all k whole ≡ read 0 s2 ys
reads_front k whole xs ys s s2 reads written left =
    reads ∙ (front_reads xs s ∙ (ap (λ r. read 0 r (left_behind_quiet xs s)) (sym written) ∙ ap (read 0 s2) (sym left)))

pub braces_front : (xs ys : List ℕ) (s s2 : Reader) (n : ℕ) → braces s + length xs ≤ n →
    s2 ≡ behind_quiet xs s → ys ≡ left_behind_quiet xs s → braces s2 + length ys ≤ n
braces_front xs ys s s2 n h written left =
    omega (arith, h, ap braces written, front_braces xs s, ap length left, front_shorter xs s)

pub length_front : (xs ys : List ℕ) (s : Reader) → ys ≡ left_behind_quiet xs s → length ys ≤ length xs
length_front xs ys s left = omega (arith, ap length left, front_shorter xs s)
