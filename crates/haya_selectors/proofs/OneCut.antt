-- The characters of a text are cut into tokens in one way, which is that of `cut`.
use Rattle.std.proofs.Common.{◌≡◌, ◌≢◌, ◌∷◌, ◌++◌, [], List, ℕ, Option, Some, None, true, false, sym, refl, ap, ◌∙◌, arith, ⊎_elim, append_assoc, append-nil, ◌==◌}
use Rattle.std.specs.Char.{is_whitespace}
use Rattle.std.specs.List.{list_all, find}
use Rattle.std.proofs.lemmas.Bool.Decides.{nat_tests}
use Rattle.haya_text.proofs.Tells.{and-both, both-and}
use Rattle.haya_selectors.specs.declared.token.Sign.{Sign}
use Rattle.haya_selectors.specs.declared.token.Sign.TheVariants.{LeftBracket}
use Rattle.haya_selectors.specs.Token.{Token, SignToken, Word, Invalid, starts_word, in_word, is_word, sign_char, spelling, IsToken, EndsBefore, AreTokens, no_token, next_token}
use Rattle.haya_selectors.specs.Cut.{cut, all_signs, sign_of, sign_or_invalid}
use Rattle.haya_selectors.specs.ReadingLaws.{OneCut}
use Rattle.haya_selectors.proofs.Cuts.{at_true, at_false, tested, cut_nothing, cut_space, cut_start, cut_sign, cut_on, cut_end, cut_word, StopsWord, in_word-no_start}

pub found : (ss : List Sign) (c : ℕ) (s : Sign) → find (λ x. c == sign_char x) ss ≡ Some s → c ≡ sign_char s
found [] c s e = cc
found (x ∷ ss) c s e =
    ⊎_elim (λ k. let p : Some x ≡ Some s = sym (at_true (Some x) (find (λ x. c == sign_char x) ss) k) ∙ e in let q : x ≡ s = cc in rw (← q) (grind (arith, nat_tests)))
    (λ k. found ss c s (sym (at_false (Some x) (find (λ x. c == sign_char x) ss) k) ∙ e)) (tested (c == sign_char x))

pub sign_of-sign_char : (s : Sign) → sign_of (sign_char s) ≡ Some s
sign_of-sign_char LeftBracket = refl
sign_of-sign_char _ = refl

-- a character that is neither white space nor in an identifier is one token
one_char : (c : ℕ) (o : Option Sign) → sign_of c ≡ o → is_whitespace c ≡ false → starts_word c ≡ false → (cs : List ℕ) → AreTokens (cut None cs) cs
    → AreTokens (sign_or_invalid c o ∷ cut None cs) (c ∷ cs)
one_char c None e n s cs h = next_token [] refl (n, s, λ x k. let p : sign_of c ≡ Some x = ap sign_of k ∙ sign_of-sign_char x in cc) tt h
one_char c (Some x) e n s cs h = rw (found all_signs c x e) (next_token [] refl tt tt h)

wider_gap : (c : ℕ) {ts : List Token} {cs : List ℕ} → is_whitespace c ≡ true → AreTokens ts cs → AreTokens ts (c ∷ cs)
wider_gap c e (no_token gap blank) = no_token (c ∷ gap) (both-and _ _ e blank)
wider_gap c e (next_token gap blank is ends h) = next_token (c ∷ gap) (both-and _ _ e blank) is ends h

apart : (c : ℕ) (cs : List ℕ) → starts_word c ≡ false → AreTokens (cut None cs) cs → AreTokens (cut None (c ∷ cs)) (c ∷ cs)
apart c cs s h =
    ⊎_elim (λ e. rw (cut_space c cs e) (wider_gap c e h))
    (λ e. rw (cut_sign c cs e s) (one_char c (sign_of c) refl e s cs h)) (tested (is_whitespace c))

longer_word : (w : List ℕ) (c : ℕ) → is_word w ≡ true → in_word c ≡ true → is_word (w ++ c ∷ []) ≡ true
longer_word [] c h e = cc
longer_word (d ∷ w) c h e = let both = and-both (starts_word d) (list_all in_word w) h in both-and _ _ both.0 (go w both.1)
  where
    go : (v : List ℕ) → list_all in_word v ≡ true → list_all in_word (v ++ c ∷ []) ≡ true
    go [] k = both-and _ _ e refl
    go (x ∷ v) k = let both = and-both (in_word x) (list_all in_word v) k in both-and _ _ both.0 (go v both.1)

mutual
  pub cut_is : (cs : List ℕ) → AreTokens (cut None cs) cs
  cut_is [] = rw cut_nothing (no_token [] refl)
  cut_is (c ∷ cs) =
      ⊎_elim (λ s. rw (cut_start c cs s) (cut_word_is cs (c ∷ []) (both-and _ _ s refl)))
      (λ s. apart c cs s (cut_is cs)) (tested (starts_word c))

  cut_word_is : (cs w : List ℕ) → is_word w ≡ true → AreTokens (cut (Some w) cs) (w ++ cs)
  cut_word_is [] w h = rw (cut_end w [] tt, cut_nothing) (next_token [] {rest = []} refl h tt (no_token [] refl))
  cut_word_is (c ∷ cs) w h =
      ⊎_elim (λ e. rw (cut_on w c cs e) (let i = cut_word_is cs (w ++ c ∷ []) (longer_word w c h e) in rw append_assoc at i))
      (λ e. rw (cut_end w (c ∷ cs) e) (next_token [] refl h e (apart c cs (in_word-no_start c e) (cut_is cs)))) (tested (in_word c))

skip_gap : (gap cs : List ℕ) → list_all is_whitespace gap ≡ true → cut None (gap ++ cs) ≡ cut None cs
skip_gap [] cs h = refl
skip_gap (c ∷ gap) cs h = let both = and-both (is_whitespace c) (list_all is_whitespace gap) h in cut_space c (gap ++ cs) both.0 ∙ skip_gap gap cs both.1

pub sign-no_space : (s : Sign) → is_whitespace (sign_char s) ≡ false
sign-no_space LeftBracket = refl
sign-no_space _ = refl

sign-no_word : (s : Sign) → starts_word (sign_char s) ≡ false
sign-no_word LeftBracket = refl
sign-no_word _ = refl

no_sign : (c : ℕ) → ((s : Sign) → c ≢ sign_char s) → (o : Option Sign) → sign_of c ≡ o → o ≡ None
no_sign c h None e = refl
no_sign c h (Some s) e = absurd (h s (found all_signs c s e))

stops : (w rest : List ℕ) → EndsBefore (Word w) rest → StopsWord rest
stops w [] k = tt
stops w (d ∷ rest) k = k

first_cut : (t : Token) (rest : List ℕ) → IsToken t → EndsBefore t rest → cut None (spelling t ++ rest) ≡ t ∷ cut None rest
first_cut (SignToken s) rest h k = cut_sign (sign_char s) rest (sign-no_space s) (sign-no_word s) ∙ ap (λ o. sign_or_invalid (sign_char s) o ∷ cut None rest) (sign_of-sign_char s)
first_cut (Word []) rest h k = cc
first_cut (Word (c ∷ v)) rest h k =
    let both = and-both (starts_word c) (list_all in_word v) h in cut_start c (v ++ rest) both.0 ∙ cut_word (c ∷ []) v rest both.1 (stops (c ∷ v) rest k)
first_cut (Invalid c) rest h k = cut_sign c rest h.0 h.1 ∙ ap (λ o. sign_or_invalid c o ∷ cut None rest) (no_sign c h.2 (sign_of c) refl)

pub only_cut : {ts : List Token} {cs : List ℕ} → AreTokens ts cs → ts ≡ cut None cs
only_cut (no_token gap blank) = sym (ap (cut None) (sym (append-nil gap)) ∙ skip_gap gap [] blank ∙ cut_nothing)
only_cut (next_token gap {t = t} {rest = rest} blank is ends h) = ap (λ v. t ∷ v) (only_cut h) ∙ sym (skip_gap gap (spelling t ++ rest) blank ∙ first_cut t rest is ends)

pub one_cut : OneCut
one_cut cs = (cut None cs, cut_is cs, λ ts h. only_cut h)
