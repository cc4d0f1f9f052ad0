-- Characters that write just themselves.
use Rattle.std.proofs.Common.{◌≡◌, ◌++◌, ℕ, true, false, List, [], ◌∷◌, length, if◌then◌else◌, sym, ◌∙◌, ap}
use Rattle.std.proofs.lemmas.List.{append-nil}
use Rattle.std.specs.Char.{is_whitespace}
use Rattle.haya_latex.specs.Reading.{Reader, left_alone, left_waiting, put, read, settle, settle_inner, step, token_in, write, write_under}
use Rattle.haya_latex.specs.Tokens.{Token, nothing, one, plain}
use Rattle.haya_latex.specs.declared.kinds.Kind.{Kind}

-- where no accent waits, none is written alone
pub settle_free : (n : ℕ) (s : Reader) → s.waiting ≡ [] → settle n s ≡ s
settle_free n s e =
    ap (λ w. record s { chars = s.chars ++ left_alone n w; waiting = left_waiting n w }) e
    ∙ (ap (λ w. record s { chars = s.chars ++ []; waiting = w }) (sym e)
    ∙ ap (λ cs. record s { chars = cs }) (append-nil s.chars))

-- and a character is written as it is
pub put_free : (c : ℕ) (k : Kind) (s : Reader) → s.waiting ≡ [] → put c k s ≡ write ((c, k) ∷ []) s
put_free c k s e =
    elim (is_whitespace c) as (λ b. (if b then write ((c, k) ∷ []) (settle 0 s) else write_under s.waiting c k s) ≡ write ((c, k) ∷ []) s)
    [ true ↦ ap (write ((c, k) ∷ [])) (settle_free 0 s e) | false ↦ ap (λ w. write_under w c k s) e ∙ ap (λ w. record s { chars = s.chars ++ (c, k) ∷ []; waiting = w }) (sym e) ]

-- the reader goes on behind a token that writes a character
pub one_on : (s : Reader) (x c : ℕ) (xs : List ℕ) →
    token_in s x xs ≡ plain (one c) 0 →
    s.waiting ≡ [] →
    read 0 s (x ∷ xs) ≡ read 0 (write ((c, s.inner.kind) ∷ []) s) xs
one_on s x c xs is free =
    let new = write ((c, s.inner.kind) ∷ []) s in
    let put_is : put c s.inner.kind s ≡ new = put_free c s.inner.kind s free in
    ap (λ (u : Token). read u.length (step u s) xs) is
    ∙ (ap (λ r. read 0 (settle_inner r) xs) put_is
    ∙ ap (λ r. read 0 r xs) (settle_free (length s.outer) new free))

-- and behind one that writes nothing
pub nothing_on : (s : Reader) (x : ℕ) (xs : List ℕ) →
    token_in s x xs ≡ plain nothing 0 →
    s.waiting ≡ [] →
    read 0 s (x ∷ xs) ≡ read 0 s xs
nothing_on s x xs is free =
    ap (λ (u : Token). read u.length (step u s) xs) is
    ∙ ap (λ r. read 0 r xs) (settle_free (length s.outer) s free)
