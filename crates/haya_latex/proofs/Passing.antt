-- Passing over what belongs to a token already, and braces.
use Rattle.std.proofs.Common.{◌≡◌, ◌==◌, ◌+◌, ◌-◌, ◌≤◌, ℕ, zero, suc, true, false, Option, None, Some, List, [], ◌∷◌, drop, length, if◌then◌else◌, refl, arith, sym, ◌∙◌, ap}
use Rattle.std.specs.Char.{is_whitespace}
use Rattle.haya_latex.specs.Kinds.{sign_kind}
use Rattle.haya_latex.specs.Scans.{white_length}
use Rattle.haya_latex.specs.Reading.{Group, Reader, close, end_group, formula, leave, leave_by, put, put_last, put_output, put_text, read, read_all, set_depth, settle, settle_inner, step, take_turn, token_in, write, write_under}
use Rattle.haya_latex.specs.ReadingViews.{braces, opens}
use Rattle.haya_latex.specs.Tokens.{Token, Output, nothing, one, two, text, math, counted, odd, token}
use Rattle.haya_latex.specs.TokenViews.{IsBelow}
use Rattle.haya_latex.specs.declared.kinds.Kind.{Kind}
use Rattle.haya_latex.specs.declared.kinds.Turn.{Turn}
use Rattle.haya_latex.specs.declared.kinds.Turn.TheVariants.{Stay, Enter, Open, Close, Wait, Under}

pub read_drop : (n : ℕ) (s : Reader) (xs : List ℕ) → read n s xs ≡ read 0 s (drop n xs)
read_drop zero s xs = refl
read_drop (suc n) s [] = refl
read_drop (suc n) s (x ∷ xs) = read_drop n s xs

-- the reader goes on behind a token
pub next_token : (k : Kind) (whole : List ℕ) (s s2 s3 : Reader) (x : ℕ) (xs rest : List ℕ) (w : Output) (n : ℕ) (t : Turn) →
    read_all k whole ≡ read 0 s (x ∷ xs) →
    token w n t ≡ token_in s x xs →
    s2 ≡ put_output w s →
    s3 ≡ take_turn t s2 →
    rest ≡ drop n xs →
    read_all k whole ≡ read 0 s3 rest
next_token k whole s s2 s3 x xs rest w n t reads is written turned left =
    let here : read 0 s (x ∷ xs) ≡ read n (take_turn t (put_output w s)) xs =
    ap (λ (u : Token). read u.length (step u s) xs) (sym is) in
    let on : read n (take_turn t (put_output w s)) xs ≡ read 0 s3 rest =
    read_drop n (take_turn t (put_output w s)) xs ∙ rw (left, turned, written) refl in
    reads ∙ (here ∙ on)

-- what is written and settled opens and closes no brace
abbrev SameGroups : Reader → Reader → Type 0
SameGroups a b = (a.inner ≡ b.inner) × (a.outer ≡ b.outer)

put_same : (c : ℕ) (k : Kind) (s : Reader) → SameGroups (put c k s) s
put_same c k s =
    elim (is_whitespace c) as (λ b. SameGroups (if b then write ((c, k) ∷ []) (settle 0 s) else write_under s.waiting c k s) s)
    [ true ↦ (refl, refl) | false ↦ (refl, refl) ]

last_same : (l : Option ℕ) (s : Reader) → SameGroups (put_last l s) s
last_same None s = (refl, refl)
last_same (Some c) s = put_same c s.inner.kind s

trans_same : (a b c : Reader) → SameGroups a b → SameGroups b c → SameGroups a c
trans_same a b c p q = (p.0 ∙ q.0, p.1 ∙ q.1)

text_same : (cs : List ℕ) (k : Kind) (s : Reader) → SameGroups (put_text cs k s) s
text_same [] k s = (refl, refl)
text_same (c ∷ cs) k s =
    let next = put c (sign_kind k c) s in
    trans_same (put_text cs k next) next s (text_same cs k next) (put_same c (sign_kind k c) s)

output_same : (w : Output) (s : Reader) → SameGroups (put_output w s) s
output_same nothing s = (refl, refl)
output_same (one c) s = put_same c s.inner.kind s
output_same (two c d) s =
    trans_same (put d s.inner.kind (put c s.inner.kind s)) (put c s.inner.kind s) s
    (put_same d s.inner.kind (put c s.inner.kind s)) (put_same c s.inner.kind s)
output_same (text cs) s = text_same cs s.inner.kind s
output_same (math xs) s =
    elim (white_length xs == length xs) as (λ b. SameGroups (if b then s else write (formula xs) (settle 0 s)) s)
    [ true ↦ (refl, refl) | false ↦ (refl, refl) ]
output_same (counted xs) s = (refl, refl)
output_same (odd c xs) s = put_same c s.inner.kind s

same_braces : (a b : Reader) → SameGroups a b → braces a ≡ braces b
same_braces a b p = ap (λ (g : Group). g.depth + opens a.outer) p.0 ∙ ap (λ (gs : List Group). b.inner.depth + opens gs) p.1

leave_braces : (gs : List Group) (s : Reader) → gs ≡ s.outer → braces (leave_by gs s) ≤ braces s
leave_braces [] s e = omega arith
leave_braces (g ∷ gs) s e =
    let here : opens s.outer ≡ g.depth + opens gs = ap opens (sym e) in omega arith

close_braces : (s : Reader) → braces (close s) ≤ braces s
close_braces s =
    elim (s.inner.depth == 0) as (λ b. braces (if b then end_group s.inner (leave s) else set_depth (s.inner.depth - 1) s) ≤ braces s)
    [ true ↦ omega (arith, leave_braces s.outer s refl, same_braces (put_last s.inner.last (leave s)) (leave s) (last_same s.inner.last (leave s))) | false ↦ omega arith ]

-- a turn leaves no more braces open than there were, and were passed
turn_braces : (n : ℕ) (t : Turn) (s : Reader) → IsBelow s.inner.depth n t → braces (take_turn t s) ≤ braces s + n
turn_braces n Stay s h = omega arith
turn_braces n (Enter k l) s h = omega arith
turn_braces n (Open m) s h = omega arith
turn_braces n Close s h = omega (arith, close_braces (settle_inner s))
turn_braces n (Wait a) s h = omega arith
turn_braces n (Under a k) s h = omega arith

pub step_braces : (n : ℕ) (w : Output) (t : Turn) (s s2 s3 : Reader) → s2 ≡ put_output w s → s3 ≡ take_turn t s2 →
    IsBelow s.inner.depth n t → braces s3 ≤ braces s + n
step_braces n w t s s2 s3 written turned h =
    let same : SameGroups s2 s = rw written (output_same w s) in
    let here : IsBelow s2.inner.depth n t = rw same.0 h in
    let turn : braces s3 ≤ braces s2 + n = rw turned (turn_braces n t s2 here) in
    omega (arith, same_braces s2 s same)
