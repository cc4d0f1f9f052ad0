-- The first word of a text.
use Rattle.std.proofs.Common.{◌≡◌, ◌+◌, ◌-◌, ◌<◌, ◌≤◌, ℕ, suc, true, false, not, cond, List, [], ◌∷◌, drop, length, take, refl, ap, sym, ◌∙◌, arith}
use Rattle.std.proofs.lemmas.Bool.Decides.{nat_tests}
use Rattle.std.proofs.lemmas.List.{length-drop}
use Rattle.std.specs.List.{onto_first, position_or_len, prefix_len, slice_split}
use Rattle.std.specs.Prelude.{filter}
use Rattle.haya_bibtex_names.specs.Plain.{prefix_count}
use Rattle.haya_bibtex_names.specs.Signs.{is_white}
use Rattle.haya_bibtex_names.specs.Words.{Text, has_chars, words}

pub one_more : (n : ℕ) → 1 + n ≡ suc n
one_more n = omega arith

pub white_first : (x : _) (xs : Text) → is_white x ≡ true → words (x ∷ xs) ≡ words xs
white_first x xs h = rw h refl

-- white at the front is in no word
pub behind_white : (xs : Text) → words (drop (prefix_len is_white xs) xs) ≡ words xs
behind_white [] = refl
behind_white (x ∷ xs) =
    (elim (is_white x) as (λ b. is_white x ≡ b → words (drop (cond b (1 + prefix_len is_white xs) 0) (x ∷ xs)) ≡ words (x ∷ xs)) [
      | true ↦ λ h. rw one_more (behind_white xs ∙ sym (white_first x xs h))
      | false ↦ λ h. refl
    ])
    refl

-- and what is behind it begins with none
pub none_white : (xs : Text) (y : _) (ys : Text) → drop (prefix_len is_white xs) xs ≡ y ∷ ys → is_white y ≡ false
none_white [] y ys e = cc
none_white (x ∷ xs) y ys e =
    (elim (is_white x) as (λ b. is_white x ≡ b → drop (cond b (1 + prefix_len is_white xs) 0) (x ∷ xs) ≡ y ∷ ys → is_white y ≡ false) [
      | true ↦ λ h e. none_white xs y ys (rw one_more at e)
      | false ↦ λ h e. cc
    ])
    refl e

-- the part up to white, and the parts behind it
record FirstPart (n : ℕ) (xs : Text) : Type 0 where
  rest : List Text
  is : slice_split is_white xs ≡ take n xs ∷ rest
  behind : filter has_chars rest ≡ words (drop n xs)

more_of_it : (x : _) (xs : Text) (n : ℕ) → is_white x ≡ false → FirstPart n xs → FirstPart (suc n) (x ∷ xs)
more_of_it x xs n h w = record {
  rest = w.rest;
  is = rw h (ap (onto_first x) w.is);
  behind = w.behind;
}

first_part : (xs : Text) → FirstPart (position_or_len is_white xs) xs
first_part [] = record { rest = []; is = refl; behind = refl }
first_part (x ∷ xs) =
    (elim (is_white x) as (λ b. is_white x ≡ b → FirstPart (cond (not b) (1 + position_or_len is_white xs) 0) (x ∷ xs)) [
      | true ↦ λ h. record { rest = slice_split is_white xs; is = rw h refl; behind = rw h refl }
      | false ↦ λ h. rw one_more (more_of_it x xs (position_or_len is_white xs) h (first_part xs))
    ])
    refl

has_first : (x : _) (xs : Text) → has_chars (x ∷ xs) ≡ true
has_first x xs = grind (arith, nat_tests)

full_first : (x : _) (xs : Text) (rest : List Text) → is_white x ≡ false →
    filter has_chars (take (position_or_len is_white (x ∷ xs)) (x ∷ xs) ∷ rest)
    ≡ take (position_or_len is_white (x ∷ xs)) (x ∷ xs) ∷ filter has_chars rest
full_first x xs rest h = rw (h, one_more) (rw (has_first x (take (position_or_len is_white xs) xs)) refl)

-- a text that begins with none begins with its first word
pub first_word : (x : _) (xs : Text) → is_white x ≡ false →
    words (x ∷ xs) ≡ take (position_or_len is_white (x ∷ xs)) (x ∷ xs) ∷ words (drop (position_or_len is_white (x ∷ xs)) (x ∷ xs))
first_word x xs h =
    let n = position_or_len is_white (x ∷ xs) in
    let w = first_part (x ∷ xs) in
    ap (filter has_chars) w.is ∙ (full_first x xs w.rest h ∙ ap (λ ws. take n (x ∷ xs) ∷ ws) w.behind)

pub some_first : (x : _) (xs : Text) → is_white x ≡ false → 0 < position_or_len is_white (x ∷ xs)
some_first x xs h = rw h (omega arith)

-- ---- the parts in which a word is found

-- what is behind white, the first word of it, and what is behind that
pub record Found (xs rest word behind : Text) (n m : ℕ) : Type 0 where
  pub white : n ≡ prefix_len is_white xs
  pub rest_is : rest ≡ drop n xs
  pub letters : m ≡ position_or_len is_white rest
  pub word_is : word ≡ take m rest
  pub behind_is : behind ≡ drop m rest

pub no_words : (xs rest : Text) (n : ℕ) → n ≡ prefix_len is_white xs → rest ≡ drop n xs → length rest ≡ 0 → words xs ≡ []
no_words xs [] n e f h = sym (behind_white xs) ∙ (ap (λ k. words (drop k xs)) (sym e) ∙ ap words (sym f))
no_words xs (y ∷ ys) n e f h = absurd (omega arith)

begins : (xs : Text) (y : _) (ys : Text) (n : ℕ) → n ≡ prefix_len is_white xs → y ∷ ys ≡ drop n xs → is_white y ≡ false
begins xs y ys n e f = none_white xs y ys (ap (λ k. drop k xs) (sym e) ∙ sym f)

pub words_found : (xs rest word behind : Text) (n m : ℕ) → Found xs rest word behind n m → 0 < length rest →
    words xs ≡ word ∷ words behind
words_found xs [] word behind n m w some = absurd (omega arith)
words_found xs (y ∷ ys) word behind n m w some =
    let front : words xs ≡ words (y ∷ ys) = sym (behind_white xs) ∙ (ap (λ k. words (drop k xs)) (sym w.white) ∙ ap words (sym w.rest_is)) in
    let cut : words (y ∷ ys) ≡ take m (y ∷ ys) ∷ words (drop m (y ∷ ys)) = rw w.letters (first_word y ys (begins xs y ys n w.white w.rest_is)) in
    front ∙ (cut ∙ (ap (λ v. v ∷ words (drop m (y ∷ ys))) (sym w.word_is) ∙ ap (λ b. word ∷ words b) (sym w.behind_is)))

pub shorter_behind : (xs rest word behind : Text) (n m : ℕ) → Found xs rest word behind n m → 0 < length rest →
    length behind < length xs
shorter_behind xs [] word behind n m w some = absurd (omega arith)
shorter_behind xs (y ∷ ys) word behind n m w some =
    let letters : 0 < m = rw w.letters (some_first y ys (begins xs y ys n w.white w.rest_is)) in
    let whole : length (y ∷ ys) ≡ length xs - n = ap length w.rest_is ∙ length-drop n xs in
    let left : length behind ≡ length (y ∷ ys) - m = ap length w.behind_is ∙ length-drop m (y ∷ ys) in
    omega arith

-- ---- single words

-- a single word has no prefix in front
pub no_prefix : (ws : List Text) → length ws ≤ 1 → prefix_count ws ≡ 0
no_prefix ws h = let e : length ws - 1 ≡ 0 = omega arith in rw e refl
