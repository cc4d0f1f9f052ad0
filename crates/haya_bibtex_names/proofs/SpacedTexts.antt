-- Texts with a blank for each white character have the text of their words.
use Rattle.std.proofs.Common.{◌≡◌, ◌&&◌, ◌++◌, ℕ, Bool, true, false, cond, List, [], ◌∷◌, drop, encode_utf8_all, map, take, refl, ap, sym, ◌∙◌}
use Rattle.std.specs.List.{position_or_len}
use Rattle.std.specs.Prelude.{if◌then◌else◌}
use Rattle.haya_latex.specs.declared.kinds.Kind.{Kind}
use Rattle.haya_bibtex_names.specs.Parts.{is_blank, single_blanks_in, word_chars, words_text}
use Rattle.haya_bibtex_names.specs.Signs.{is_white}
use Rattle.haya_bibtex_names.specs.Words.{Text, words}
use Rattle.haya_bibtex_names.proofs.FirstWords.{first_word, one_more, white_first}

-- a character, or a blank in place of a white one
abbrev pub shown : ℕ × Kind → ℕ
shown x = if is_white x then 32 else x.0

-- the characters of a word that is begun, and those of the words behind it
abbrev within : Text → List ℕ
within xs =
    map (λ x. x.0) (take (position_or_len is_white xs) xs)
    ++ word_chars (words (drop (position_or_len is_white xs) xs))

within_white : (x : ℕ × Kind) (xs : Text) → is_white x ≡ true → within (x ∷ xs) ≡ word_chars (words xs)
within_white x xs h = rw h (ap word_chars (white_first x xs h))

within_more : (x : ℕ × Kind) (xs : Text) → is_white x ≡ false → within (x ∷ xs) ≡ x.0 ∷ within xs
within_more x xs h = rw (h, one_more) refl

begun : (x : ℕ × Kind) (xs : Text) → is_white x ≡ false → word_chars (words (x ∷ xs)) ≡ 32 ∷ x.0 ∷ within xs
begun x xs h = ap word_chars (first_word x xs h) ∙ ap (λ cs. 32 ∷ cs) (within_more x xs h)

-- a blank may be in front of words or not
ready : (s g f : Bool) (ws : List Text) → single_blanks_in s g (word_chars ws) ≡ single_blanks_in s f (word_chars ws)
ready s g f [] = refl
ready s g f (w ∷ ws) = refl

same_behind : (s g : Bool) (c : ℕ) (ys zs : List ℕ) →
    ((t f : Bool) → single_blanks_in t f ys ≡ single_blanks_in t f zs) →
    single_blanks_in s g (c ∷ ys) ≡ single_blanks_in s g (c ∷ zs)
same_behind s g c ys zs h =
    elim (is_blank c) as (λ b.
    cond b (single_blanks_in s true ys) (cond (s && g) (32 ∷ c ∷ single_blanks_in true false ys) (c ∷ single_blanks_in true false ys))
    ≡ cond b (single_blanks_in s true zs) (cond (s && g) (32 ∷ c ∷ single_blanks_in true false zs) (c ∷ single_blanks_in true false zs))) [
      | true ↦ h s true
      | false ↦ ap (λ cs. cond (s && g) (32 ∷ c ∷ cs) (c ∷ cs)) (h true false)
    ]

-- behind a blank, and inside of a word
record Same (xs : Text) : Type 0 where
  behind : (s : Bool) → single_blanks_in s true (map shown xs) ≡ single_blanks_in s true (word_chars (words xs))
  inside : (s g : Bool) → single_blanks_in s g (map shown xs) ≡ single_blanks_in s g (within xs)

same_white : (x : ℕ × Kind) (xs : Text) → is_white x ≡ true → Same xs → Same (x ∷ xs)
same_white x xs h w =
    let gone : (s g : Bool) → single_blanks_in s g (map shown (x ∷ xs)) ≡ single_blanks_in s true (map shown xs) =
    λ s g. rw h refl in
    record {
      behind = λ s. gone s true ∙ (w.behind s ∙ ap (λ ws. single_blanks_in s true (word_chars ws)) (sym (white_first x xs h)));
      inside = λ s g. gone s g ∙ (w.behind s ∙ (ready s true g (words xs) ∙ ap (single_blanks_in s g) (sym (within_white x xs h))));
    }

same_other : (x : ℕ × Kind) (xs : Text) → is_white x ≡ false → Same xs → Same (x ∷ xs)
same_other x xs h w =
    let kept : (s g : Bool) → single_blanks_in s g (map shown (x ∷ xs)) ≡ single_blanks_in s g (x.0 ∷ within xs) =
    λ s g. rw h (same_behind s g x.0 (map shown xs) (within xs) w.inside) in
    record {
      behind = λ s. kept s true ∙ ap (single_blanks_in s true) (sym (begun x xs h));
      inside = λ s g. kept s g ∙ ap (single_blanks_in s g) (sym (within_more x xs h));
    }

same : (xs : Text) → Same xs
same [] = record { behind = λ s. refl; inside = λ s g. refl }
same (x ∷ xs) =
    (elim (is_white x) as (λ b. is_white x ≡ b → Same (x ∷ xs))
    [ true ↦ λ h. same_white x xs h (same xs) | false ↦ λ h. same_other x xs h (same xs) ])
    refl

pub spaced : (xs : Text) → words_text (words xs) ≡ encode_utf8_all (single_blanks_in false true (map shown xs))
spaced xs = ap encode_utf8_all (ready false false true (words xs) ∙ sym ((same xs).behind false))
