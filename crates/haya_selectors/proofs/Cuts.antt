-- The steps of `cut`.
use Rattle.std.proofs.Common.{◌≡◌, ◌<◌, ◌∷◌, ◌++◌, [], List, ℕ, zero, suc, Option, Some, None, Bool, true, false, cond, slice_get, sym, refl, ap, ◌∙◌, arith, append-nil, append_assoc, inl, inr, ⊎_elim, ◌⊎◌}
use Rattle.std.specs.Char.{is_whitespace}
use Rattle.std.specs.List.{list_all}
use Rattle.std.specs.Option.{IfSome, MatchOption}
use Rattle.std.specs.Str.{IsUtf8, IsAscii, chars, skip_leading_whitespace}
use Rattle.std.proofs.lemmas.Str.{encodes-chars, encodes-IsAscii}
use Rattle.haya_text.specs.Cursor.{Left, IsPast}
use Rattle.std.proofs.lemmas.Bool.Decides.{nat_tests}
use Rattle.haya_text.proofs.Tells.{and-both}
use Rattle.haya_selectors.specs.Token.{Word, starts_word, in_word}
use Rattle.haya_selectors.specs.Cut.{cut, sign_of, sign_or_invalid}

pub at_true : {A : Type 0} {b : Bool} (x y : A) → b ≡ true → cond b x y ≡ x
at_true x y e = ap (λ v. cond v x y) e

pub at_false : {A : Type 0} {b : Bool} (x y : A) → b ≡ false → cond b x y ≡ y
at_false x y e = ap (λ v. cond v x y) e

-- a test has one of two outcomes
pub tested : (b : Bool) → (b ≡ true) ⊎ (b ≡ false)
tested true = inl refl
tested false = inr refl

pub starts-in_word : (c : ℕ) → starts_word c ≡ true → in_word c ≡ true
starts-in_word c h = grind (arith, nat_tests)

pub in_word-no_start : (c : ℕ) → in_word c ≡ false → starts_word c ≡ false
in_word-no_start c h = grind (arith, nat_tests)

pub starts-no_space : (c : ℕ) → starts_word c ≡ true → is_whitespace c ≡ false
starts-no_space c h = grind (arith, nat_tests)

pub cut_nothing : cut None [] ≡ []
unfolding cut
cut_nothing = refl

pub cut_space : (c : ℕ) (cs : List ℕ) → is_whitespace c ≡ true → cut None (c ∷ cs) ≡ cut None cs
unfolding cut
cut_space c cs e = at_true _ _ e

pub cut_start : (c : ℕ) (cs : List ℕ) → starts_word c ≡ true → cut None (c ∷ cs) ≡ cut (Some (c ∷ [])) cs
unfolding cut
cut_start c cs s = at_false _ _ (starts-no_space c s) ∙ at_true _ _ s

pub cut_sign : (c : ℕ) (cs : List ℕ) → is_whitespace c ≡ false → starts_word c ≡ false → cut None (c ∷ cs) ≡ sign_or_invalid c (sign_of c) ∷ cut None cs
unfolding cut
cut_sign c cs e s = at_false _ _ e ∙ at_false _ _ s

pub cut_on : (w : List ℕ) (c : ℕ) (cs : List ℕ) → in_word c ≡ true → cut (Some w) (c ∷ cs) ≡ cut (Some (w ++ c ∷ [])) cs
unfolding cut
cut_on w c cs e = at_true _ _ e

-- what doesn't go on with an identifier begins afresh
abbrev pub StopsWord : List ℕ → Type 0
StopsWord [] = Unit {0}
StopsWord (c ∷ cs) = in_word c ≡ false

pub cut_end : (w ds : List ℕ) → StopsWord ds → cut (Some w) ds ≡ Word w ∷ cut None ds
unfolding cut
cut_end w [] h = refl
cut_end w (c ∷ cs) h = at_false _ _ h ∙ ap (λ v. Word w ∷ cond (is_whitespace c) (cut None cs) v) (sym (at_false (cut (Some (c ∷ [])) cs) (sign_or_invalid c (sign_of c) ∷ cut None cs) (in_word-no_start c h)))

pub cut_word : (w v ds : List ℕ) → list_all in_word v ≡ true → StopsWord ds → cut (Some w) (v ++ ds) ≡ Word (w ++ v) ∷ cut None ds
cut_word w [] ds a h = cut_end w ds h ∙ ap (λ x. Word x ∷ cut None ds) (sym (append-nil w))
cut_word w (c ∷ v) ds a h =
    let both = and-both (in_word c) (list_all in_word v) a in
    cut_on w c (v ++ ds) both.0 ∙ cut_word (w ++ c ∷ []) v ds both.1 h ∙ ap (λ x. Word x ∷ cut None ds) (append_assoc w (c ∷ []) v)

-- white space at the front makes no token
pub cut_skip : (cs : List ℕ) → cut None (skip_leading_whitespace cs) ≡ cut None cs
cut_skip [] = refl
cut_skip (c ∷ cs) =
    ⊎_elim (λ e. ap (cut None) (at_true (skip_leading_whitespace cs) (c ∷ cs) e) ∙ cut_skip cs ∙ sym (cut_space c cs e))
    (λ e. ap (cut None) (at_false (skip_leading_whitespace cs) (c ∷ cs) e)) (tested (is_whitespace c))

-- what is left behind it begins with none
pub skip_first : (cs : List ℕ) (d : ℕ) (ds : List ℕ) → skip_leading_whitespace cs ≡ d ∷ ds → is_whitespace d ≡ false
skip_first [] d ds e = cc
skip_first (c ∷ cs) d ds e =
    ⊎_elim (λ k. skip_first cs d ds (sym (at_true (skip_leading_whitespace cs) (c ∷ cs) k) ∙ e))
    (λ k. let p : c ∷ cs ≡ d ∷ ds = sym (at_false (skip_leading_whitespace cs) (c ∷ cs) k) ∙ e in let q : c ≡ d = cc in rw (← q) k) (tested (is_whitespace c))

in_word-ascii : (c : ℕ) → in_word c ≡ true → c < 128
in_word-ascii c h = grind (arith, nat_tests)

all_ascii : (w : List ℕ) → list_all in_word w ≡ true → IsAscii w
all_ascii [] h i = omega arith
all_ascii (c ∷ w) h zero = in_word-ascii c (and-both (in_word c) (list_all in_word w) h).0
all_ascii (c ∷ w) h (suc i) = all_ascii w (and-both (in_word c) (list_all in_word w) h).1 i

-- the characters of an identifier are its bytes
pub chars-word : (w : List ℕ) → IsUtf8 w → list_all in_word (chars w) ≡ true → chars w ≡ w
chars-word w u h = sym (encodes-IsAscii (chars w) (all_ascii (chars w) h)) ∙ encodes-chars w u

pub first_of : (cs : List ℕ) (c : ℕ) → Some c ≡ slice_get cs 0 → (ds : List ℕ) × (cs ≡ c ∷ ds)
first_of [] c e = cc
first_of (d ∷ ds) c e = (ds, let f : c ≡ d = cc in rw f refl)

pub stops_at : (cs : List ℕ) → IfSome (slice_get cs 0) (λ c. false ≡ in_word c) → StopsWord cs
stops_at [] h = tt
stops_at (c ∷ cs) h = sym h

-- what `eat` takes is what `peek` saw
pub eaten : (c : ℕ) (old new : Left) (r : Option ℕ) → Some c ≡ slice_get old.rest 0 → MatchOption r ((old.rest ≡ []) × (new ≡ old)) (λ d. IsPast d old new) → old.rest ≡ c ∷ new.rest
eaten c old new None e h = let first = first_of old.rest c e in let both = h.0 in cc
eaten c old new (Some d) e h = let first = first_of old.rest c e in let past = h.rest in cc
