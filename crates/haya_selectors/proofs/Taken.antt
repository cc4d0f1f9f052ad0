-- Tokens that are taken from the front of a text.
use Rattle.std.proofs.Common.{◌≡◌, ◌≤◌, MatchOption, is_some, ◌<◌, ◌+◌, ◌∷◌, ◌++◌, [], List, ℕ, suc, Option, Some, None, true, false, true≢false, slice_get, take, drop, length, sym, refl, ap, ◌∙◌, arith, append_assoc, append-nil, All, ⊎_elim}
use lib.Utf8.{scalar, scalars}
use Rattle.std.specs.Char.{is_whitespace}
use Rattle.std.specs.List.{list_all}
use Rattle.std.specs.Option.{IfSome}
use Rattle.std.specs.Str.{IsUtf8, IsCharBoundary, chars, encode_utf8_all, skip_leading_whitespace}
use Rattle.std.proofs.Math.Seq.{take-append_seam, drop-append_seam}
use Rattle.std.proofs.lemmas.Bool.Decides.{nat_tests}
use Rattle.std.proofs.lemmas.List.{length-append}
use Rattle.std.proofs.lemmas.List.Sums.{list_all-from_AllPass}
use Rattle.std.proofs.lemmas.Str.{encodes-append, encodes-chars, chars-encodes, scalars-chars, IsCharBoundary-at_seam}
use Rattle.haya_text.proofs.Tells.{and-both, both-and}
use Rattle.haya_selectors.specs.declared.token.Lexeme.{Lexeme}
use Rattle.haya_selectors.specs.declared.token.Sign.{Sign}
use Rattle.haya_selectors.specs.Token.{Token, SignToken, Word, Invalid, starts_word, in_word, is_word, sign_char, spelling, IsToken, EndsBefore, AreTokens, no_token, next_token, Takes, EndsInNoSpace}
use Rattle.haya_selectors.specs.Cut.{token, cut, all_signs, sign_of, sign_or_invalid}
use Rattle.haya_selectors.specs.Reading.{EndsBeforeLeft}
use Rattle.haya_selectors.proofs.Cuts.{at_true, at_false, tested, cut_nothing, skip_first, starts-in_word, StopsWord, first_of, stops_at, chars-word}
use Rattle.haya_selectors.proofs.OneCut.{found, sign_of-sign_char, sign-no_space, cut_is, only_cut}

-- ---- what the reader takes

-- the text is white space, and then what is left
record Skips (cs left : List ℕ) : Type 0 where
  gap : List ℕ
  blank : list_all is_whitespace gap ≡ true
  parts : cs ≡ gap ++ left

skips : (cs : List ℕ) → Skips cs (skip_leading_whitespace cs)
skips [] = record { gap = []; blank = refl; parts = refl }
skips (c ∷ cs) =
    ⊎_elim (λ e. let s = skips cs in rw (at_true (skip_leading_whitespace cs) (c ∷ cs) e) (record { gap = c ∷ s.gap; blank = both-and _ _ e s.blank; parts = ap (λ v. c ∷ v) s.parts }))
    (λ e. rw (at_false (skip_leading_whitespace cs) (c ∷ cs) e) (record { gap = []; blank = refl; parts = refl })) (tested (is_whitespace c))

word_is : (c : ℕ) (ds w rest : List ℕ) → c ∷ ds ≡ w ++ rest → starts_word c ≡ true → list_all in_word w ≡ true → StopsWord rest → is_word w ≡ true
word_is c ds [] [] e s a h = cc
word_is c ds [] (d ∷ rest) e s a h = let f : c ≡ d = cc in absurd (true≢false (sym (starts-in_word c s) ∙ ap in_word f ∙ h))
word_is c ds (d ∷ w) rest e s a h =
    let f : c ≡ d = cc in both-and _ _ (rw f at s) (and-both (in_word d) (list_all in_word w) a).1

ends_word : (w rest : List ℕ) → StopsWord rest → EndsBefore (Word w) rest
ends_word w [] h = tt
ends_word w (c ∷ cs) h = h

module _ (cs left : List ℕ) (skipped : left ≡ skip_leading_whitespace cs) where
  skipped_gap : Skips cs left
  skipped_gap = rw skipped (skips cs)

  pub nothing_taken : None ≡ slice_get left 0 → AreTokens [] cs × (left ≡ [])
  nothing_taken e =
      let none = empty left e in
      let s = skipped_gap in (rw (s.parts ∙ ap (λ v. s.gap ++ v) none ∙ append-nil s.gap) (no_token s.gap s.blank), none)
    where
      empty : (ds : List ℕ) → None ≡ slice_get ds 0 → ds ≡ []
      empty [] k = refl
      empty (d ∷ ds) k = cc

  pub word_taken : (c : ℕ) (w rest : List ℕ) → Some c ≡ slice_get left 0 → starts_word c ≡ true → left ≡ chars w ++ rest → IsUtf8 w → All (λ d. true ≡ in_word d) (chars w)
      → IfSome (slice_get rest 0) (λ d. false ≡ in_word d) → Takes (Word w) cs rest
  word_taken c w rest e s f u a h =
      let first = first_of left c e in
      let all = list_all-from_AllPass in_word (chars w) (λ k d h. sym (a k d h)) in
      let bytes = chars-word w u all in
      let gap = skipped_gap in
      record {
        gap = gap.gap;
        blank = gap.blank;
        is = rw bytes at (word_is c first.0 (chars w) rest (sym first.1 ∙ f) s all (stops_at rest h));
        ends = ends_word w rest (stops_at rest h);
        parts = gap.parts ∙ ap (λ v. gap.gap ++ v) (f ∙ ap (λ v. v ++ rest) bytes);
      }

  pub char_taken : (c : ℕ) (o : Option Sign) (rest : List ℕ) → o ≡ sign_of c → left ≡ c ∷ rest → starts_word c ≡ false → Takes (sign_or_invalid c o) cs rest
  char_taken c None rest n e s =
      let gap = skipped_gap in record {
        gap = gap.gap;
        blank = gap.blank;
        is = (skip_first cs c rest (sym skipped ∙ e), s, λ x k. let p : sign_of c ≡ Some x = ap sign_of k ∙ sign_of-sign_char x in cc);
        ends = tt;
        parts = gap.parts ∙ ap (λ v. gap.gap ++ v) e;
      }
  char_taken c (Some x) rest n e s =
      let gap = skipped_gap in record {
        gap = gap.gap;
        blank = gap.blank;
        is = tt;
        ends = tt;
        parts = gap.parts ∙ ap (λ v. gap.gap ++ v) (e ∙ ap (λ d. d ∷ rest) (found all_signs c x (sym n)));
      }

-- what is taken is the first of the tokens
pub taken_first : {t : Token} {cs rest : List ℕ} → Takes t cs rest → cut None cs ≡ t ∷ cut None rest
taken_first {rest = rest} k = let whole = next_token k.gap k.blank k.is k.ends (cut_is rest) in sym (only_cut (rw (← k.parts) at whole))

pub none_first : {cs : List ℕ} → AreTokens [] cs → cut None cs ≡ []
none_first a = sym (only_cut a)

-- a reader takes the first of its tokens
pub next_left : (next : Option Lexeme) (tokens : List Token) (before after : List ℕ) → tokens ≡ cut None before → MatchOption next (AreTokens [] before × (after ≡ [])) (λ t. Takes (token t) before after)
    → MatchOption next ((tokens ≡ []) × (cut None after ≡ [])) (λ t. tokens ≡ token t ∷ cut None after)
next_left None tokens before after e h = (e ∙ none_first h.0, ap (cut None) h.1 ∙ cut_nothing)
next_left (Some t) tokens before after e h = e ∙ taken_first h

-- so there is one fewer
pub fewer : (next : Option Lexeme) (before after : List Token) → MatchOption next ((before ≡ []) × (after ≡ [])) (λ t. before ≡ token t ∷ after) → 0 < length before → length before ≡ suc (length after)
fewer None before after h some = absurd (omega (arith, some, ap length h.0))
fewer (Some t) before after h some = ap length h

pub fewer_by_some : (next : Option Lexeme) (before after : List Token) → MatchOption next ((before ≡ []) × (after ≡ [])) (λ t. before ≡ token t ∷ after) → is_some next ≡ true → length before ≡ suc (length after)
fewer_by_some None before after h e = absurd (true≢false (sym e))
fewer_by_some (Some t) before after h e = ap length h

pub nothing_by_none : (next : Option Lexeme) (before after : List Token) → MatchOption next ((before ≡ []) × (after ≡ [])) (λ t. before ≡ token t ∷ after) → is_some next ≡ false → length before ≡ 0
nothing_by_none None before after h e = ap length h.0
nothing_by_none (Some t) before after h e = absurd (true≢false e)

-- ---- tokens that are taken one after another
pub data AreTaken : List Token → List ℕ → List ℕ → Type 0 where
  none_taken : {rest : List ℕ} → AreTaken [] rest rest
  one_taken : {t : Token} {ts : List Token} {cs mid rest : List ℕ} → Takes t cs mid → AreTaken ts mid rest → AreTaken (t ∷ ts) cs rest

pub taken_more : {ts : List Token} {t : Token} {cs mid rest : List ℕ} → AreTaken ts cs mid → Takes t mid rest → AreTaken (ts ++ t ∷ []) cs rest
taken_more none_taken k = one_taken k none_taken
taken_more (one_taken j h) k = one_taken j (taken_more h k)

pub taken_tokens : {ts left : List Token} {cs rest : List ℕ} → AreTaken ts cs rest → AreTokens left rest → AreTokens (ts ++ left) cs
taken_tokens none_taken a = a
taken_tokens (one_taken k h) a = rw k.parts (next_token k.gap k.blank k.is k.ends (taken_tokens h a))

abbrev pub SomeTaken : List ℕ → List ℕ → Type 0
SomeTaken cs rest = (taken : List Token) × AreTaken taken cs rest

pub one_more : (next : Option Lexeme) (cs before after : List ℕ) → MatchOption next (AreTokens [] before × (after ≡ [])) (λ t. Takes (token t) before after) → 0 < length (cut None before) → SomeTaken cs before
    → SomeTaken cs after × (length (cut None before) ≡ suc (length (cut None after)))
one_more None cs before after h some taken = absurd (omega (arith, some, ap length (none_first h.0)))
one_more (Some t) cs before after h some taken = ((taken.0 ++ token t ∷ [], taken_more taken.1 h), ap length (taken_first h))

ends_front : (t : Token) (front rest : List ℕ) → EndsBefore t (front ++ rest) → EndsBefore t front
ends_front (Word w) [] rest h = tt
ends_front (Word w) (c ∷ cs) rest h = h
ends_front (SignToken s) front rest h = tt
ends_front (Invalid c) front rest h = tt

in_word-no_space : (c : ℕ) → in_word c ≡ true → is_whitespace c ≡ false
in_word-no_space c h = grind (arith, nat_tests)

tight_behind : (front : List ℕ) {cs : List ℕ} → EndsInNoSpace cs → EndsInNoSpace (front ++ cs)
tight_behind front h = record {
  front = front ++ h.front;
  last = h.last;
  parts = ap (λ v. front ++ v) h.parts ∙ sym (append_assoc front h.front (h.last ∷ []));
  no_space = h.no_space;
}

word_tight : (c : ℕ) (cs : List ℕ) → in_word c ≡ true → list_all in_word cs ≡ true → EndsInNoSpace (c ∷ cs)
word_tight c [] i a = record { front = []; last = c; parts = refl; no_space = in_word-no_space c i }
word_tight c (d ∷ cs) i a = let both = and-both (in_word d) (list_all in_word cs) a in tight_behind (c ∷ []) (word_tight d cs both.0 both.1)

token_tight : (t : Token) → IsToken t → EndsInNoSpace (spelling t)
token_tight (SignToken s) h = record { front = []; last = sign_char s; parts = refl; no_space = sign-no_space s }
token_tight (Word []) h = cc
token_tight (Word (c ∷ cs)) h = let both = and-both (starts_word c) (list_all in_word cs) h in word_tight c cs (starts-in_word c both.0) both.1
token_tight (Invalid c) h = record { front = []; last = c; parts = refl; no_space = h.0 }

-- the characters that they take
record TakenFront (ts : List Token) (cs rest : List ℕ) : Type 0 where
  front : List ℕ
  parts : cs ≡ front ++ rest
  are : AreTokens ts front
  tight : 0 < length ts → EndsInNoSpace front
  none : length ts ≡ 0 → front ≡ []

last_tight : (t : Token) (ts : List Token) (front : List ℕ) → IsToken t → (0 < length ts → EndsInNoSpace front) → (length ts ≡ 0 → front ≡ []) → EndsInNoSpace (spelling t ++ front)
last_tight t [] front is tight none = rw (none refl, append-nil) (token_tight t is)
last_tight t (u ∷ ts) front is tight none = tight_behind (spelling t) (tight (omega arith))

taken_front : {ts : List Token} {cs rest : List ℕ} → AreTaken ts cs rest → TakenFront ts cs rest
taken_front none_taken = record { front = []; parts = refl; are = no_token [] refl; tight = λ l. absurd (omega (arith, l)); none = λ e. refl }
taken_front (one_taken {t = t} {ts = ts} {rest = rest} k h) =
    let f = taken_front h in record {
      front = k.gap ++ (spelling t ++ f.front);
      parts = k.parts ∙ ap (λ v. k.gap ++ (spelling t ++ v)) f.parts ∙ ap (λ v. k.gap ++ v) (sym (append_assoc (spelling t) f.front rest)) ∙ sym (append_assoc k.gap (spelling t ++ f.front) rest);
      are = next_token k.gap k.blank k.is (ends_front t f.front rest (rw f.parts at k.ends)) f.are;
      tight = λ l. tight_behind k.gap (last_tight t ts f.front k.is f.tight f.none);
      none = λ e. absurd (omega (arith, e));
    }

-- ---- where they end
scalar_parts : (front rest : List ℕ) → scalars (front ++ rest) ≡ true → (scalars front ≡ true) × (scalars rest ≡ true)
scalar_parts [] rest h = (refl, h)
scalar_parts (c ∷ front) rest h =
    let both = and-both (scalar c) (scalars (front ++ rest)) h in
    let parts = scalar_parts front rest both.1 in (both-and _ _ both.0 parts.0, parts.1)

-- the text is separated by this byte into these characters
record CutAt (text front rest : List ℕ) (place : ℕ) : Type 0 where
  boundary : IsCharBoundary text place
  before : chars (take place text) ≡ front
  behind : chars (drop place text) ≡ rest

cut_at : (text front rest : List ℕ) (place : ℕ) → IsUtf8 text → chars text ≡ front ++ rest → place + length (encode_utf8_all rest) ≡ length text → CutAt text front rest place
cut_at text front rest place u e l =
    let valid = scalar_parts front rest (rw e at (scalars-chars text u)) in
    let bytes : text ≡ encode_utf8_all front ++ encode_utf8_all rest = sym (encodes-chars text u) ∙ ap encode_utf8_all e ∙ encodes-append front rest in
    let at : place ≡ length (encode_utf8_all front) = omega (arith, l, ap length bytes, length-append (encode_utf8_all front) (encode_utf8_all rest)) in
    record {
      boundary = rw at (IsCharBoundary-at_seam text (encode_utf8_all front) (encode_utf8_all rest) bytes (rest, (valid.1, refl)));
      before = rw (at, bytes) (ap chars (take-append_seam (encode_utf8_all front) (encode_utf8_all rest)) ∙ chars-encodes front valid.0);
      behind = rw (at, bytes) (ap chars (drop-append_seam (encode_utf8_all front) (encode_utf8_all rest)) ∙ chars-encodes rest valid.1);
    }

-- of two cuts of a list, those with as many elements behind are the same
same_left : (xs ls ms ys : List Token) → xs ++ ls ≡ ys ++ ms → length ls ≡ length ms → ls ≡ ms
same_left [] ls ms [] e l = e
same_left (x ∷ xs) ls ms (y ∷ ys) e l = same_left xs ls ms ys (cc) l
same_left [] ls ms (y ∷ ys) e l = absurd (omega (arith, l, ap length e, length-append ys ms))
same_left (x ∷ xs) ls ms [] e l = absurd (omega (arith, l, ap length e, length-append xs ls))

-- what is left of the tokens of a text is no longer than they
pub left_within : (text : List ℕ) (left : List Token) → ((before : List Token) × AreTokens (before ++ left) text) → length left ≤ length (cut None text)
left_within text left h = omega (arith, ap length (only_cut h.1), length-append h.0 left)

-- the reader has as many tokens left as there are
pub ends_there : (text rest : List ℕ) (left : List Token) (place : ℕ) → IsUtf8 text → ((before : List Token) × AreTokens (before ++ left) (chars text)) → SomeTaken (chars text) rest
    → length (cut None rest) ≡ length left → place + length (encode_utf8_all rest) ≡ length text → EndsBeforeLeft left text place
ends_there text rest left place u tokens some l p =
    let mine = taken_tokens some.1 (cut_is rest) in
    let same : cut None rest ≡ left = same_left some.0 (cut None rest) left tokens.0 (only_cut mine ∙ sym (only_cut tokens.1)) l in
    let f = taken_front some.1 in
    let c = cut_at text f.front rest place u f.parts p in
    record {
      taken = some.0;
      whole = rw same at mine;
      boundary = c.boundary;
      front = rw c.before f.are;
      behind = rw (c.behind, ← same) (cut_is rest);
      tight = λ l. rw c.before (f.tight l);
    }
