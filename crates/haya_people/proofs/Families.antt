-- The words of a text, and the name among those of a family part.
use Rattle.std.proofs.Common.{◌≡◌, ◌≢◌, ℕ, ◌-◌, length-append, Bool, true, false, cond, ◌||◌, ◌&&◌, List, [], ◌∷◌, ◌++◌, length, take, drop, refl, ap, sym, ◌∙◌, append_assoc, arith}
use Rattle.std.proofs.lemmas.List.{append-nil, take-append-drop}
use Rattle.std.proofs.lemmas.Str.{chars-append, chars-nil, chars_from_encodes, chars_past_char, IsUtf8-take, IsUtf8-drop, IsUtf8-nil, IsCharBoundary-at_seam, encodes-chars}
use Rattle.std.specs.Char.{is_whitespace, encode_utf8}
use Rattle.std.specs.Str.{chars, IsUtf8, IsCharBoundary, NonePass, NoCharPasses, IsTrimStart, encode_utf8_all, skip_leading_whitespace, trim_start}
use Rattle.std.specs.Str.Pattern.{HasPassingCharAt}
use Rattle.unicode.specs.Binary.{is_lowercase}
use Rattle.haya_people.specs.Words.{Word, onto_word, onto_gap, words, joined_words, first_passes}
use Rattle.std.specs.List.{list_all, list_any}
use Rattle.haya_people.proofs.WordLemmas.{Inner, joined_words-words, word-before, word-last}
use Rattle.haya_people.specs.Reading.{words_of, is_lower, last_word, words_behind_lower, name_words, name_of, IsEnd, IsFirstWord}

-- no character of a word is in a gap
inner : (p : ℕ → Bool) (cs : List ℕ) → NonePass p cs → Inner p cs
inner p [] h = tt
inner p (c ∷ cs) h = (h.0, inner p cs h.1)

onto_gap-onto_word : (c d : ℕ) (ws : List (Word ℕ)) → onto_gap c (onto_word d ws) ≡ ([], c ∷ []) ∷ onto_word d ws
onto_gap-onto_word c d [] = refl
onto_gap-onto_word c d ((w, g) ∷ ws) = refl

-- the words behind white space
words-gap : (c : ℕ) (cs : List ℕ) → is_whitespace c ≡ true → (gap : List ℕ) × (words is_whitespace (c ∷ cs) ≡ ([], gap) ∷ words is_whitespace (skip_leading_whitespace (c ∷ cs)))
unfolding words
words-gap c [] h = (c ∷ [], rw h refl)
words-gap c (d ∷ ds) h = elim (is_whitespace d) as (λ b. is_whitespace d ≡ b → (gap : List ℕ) × (words is_whitespace (c ∷ d ∷ ds) ≡ ([], gap) ∷ words is_whitespace (skip_leading_whitespace (c ∷ d ∷ ds)))) [
  | true ↦ λ e. let r = words-gap d ds e in (c ∷ r.0, rw h (ap (onto_gap c) r.1))
  | false ↦ λ e. (c ∷ [], rw (h, e, e) (onto_gap-onto_word c d (words is_whitespace ds)))
] refl

chars-trim_start : (text left : List ℕ) → IsUtf8 left → left ≡ trim_start text → chars left ≡ skip_leading_whitespace (chars text)
unfolding trim_start
chars-trim_start text left u e = sym (chars_from_encodes (skip_leading_whitespace (chars text)) left u (sym e))

-- a word up to a gap, and the text behind that gap
pub word_to_gap : (text front back behind : List ℕ) (c : ℕ) (rest : List ℕ) → text ≡ front ++ back → IsUtf8 front → IsUtf8 back → IsUtf8 behind → NonePass is_whitespace (chars front) → is_whitespace c ≡ true → back ≡ encode_utf8 c ++ rest
    → behind ≡ trim_start back → IsEnd back behind → IsFirstWord text front behind
word_to_gap text front back behind c rest e u v w h k b t (mid, m) =
    let cs : chars back ≡ c ∷ chars rest = chars_past_char back rest c v b in
    let g = words-gap c (chars rest) k in
    let left : chars behind ≡ skip_leading_whitespace (c ∷ chars rest) = chars-trim_start back behind w t ∙ ap skip_leading_whitespace cs in
    record {
      gap = g.0;
      words = ap words_of e ∙ ap (words is_whitespace) (chars-append front back u ∙ ap (λ l. chars front ++ l) cs)
          ∙ word-before is_whitespace (chars front) (c ∷ chars rest) g.0 _ (inner is_whitespace (chars front) h) g.1 ∙ ap (λ l. (chars front, g.0) ∷ words is_whitespace l) (sym left);
      valid = w;
      end = (front ++ mid, e ∙ ap (λ l. front ++ l) m ∙ sym (append_assoc front mid behind));
    }

-- a word that is the whole text
pub word_to_end : (text behind : List ℕ) (c : ℕ) (cs : List ℕ) → chars text ≡ c ∷ cs → NonePass is_whitespace (chars text) → behind ≡ [] → IsFirstWord text text behind
unfolding words
word_to_end text behind c cs e h b = record {
  gap = [];
  valid = rw b IsUtf8-nil;
  words = rw (b, chars-nil, e) (word-last is_whitespace c cs (inner is_whitespace (c ∷ cs) (rw e at h)));
  end = (text, ap (λ l. l) (sym (append-nil text)) ∙ ap (λ l. text ++ l) (sym b));
}

-- the characters of a text none of which passes
none_pass : (p : ℕ → Bool) (text : List ℕ) → IsUtf8 text → NoCharPasses p text → NonePass p (chars text)
none_pass p text u (cs, e, n) = rw (chars_from_encodes cs text u e) at n

-- the first word ends where white space is first found
pub first_word : (text front back behind : List ℕ) (i j : ℕ) → IsUtf8 text → IsUtf8 behind → front ≡ take i text → back ≡ drop i text → IsCharBoundary text i → NoCharPasses is_whitespace (take i text) → HasPassingCharAt is_whitespace text i j
    → IsTrimStart back behind → behind ≡ trim_start back → IsFirstWord text front behind
first_word text front back behind i j u w f b at none (c, white, has) v t =
    let uf : IsUtf8 front = rw f (IsUtf8-take text i u at) in
    let ub : IsUtf8 back = rw b (IsUtf8-drop text i u at) in
    let whole : text ≡ front ++ back = rw (f, b) (sym (take-append-drop i text)) in
    word_to_gap text front back behind c (drop j text) whole uf ub w
    (none_pass is_whitespace front uf (rw f none)) white (b ∙ has.split) t (take v.0 back, sym (take-append-drop v.0 back) ∙ ap (λ l. take v.0 back ++ l) (sym v.1))

-- a text without white space is one word
pub only_word : (text : List ℕ) → IsUtf8 text → NoCharPasses is_whitespace text → length text ≢ 0 → IsFirstWord text text []
only_word text u none some = by_chars (chars text) refl
  where
    by_chars : (cs : List ℕ) → chars text ≡ cs → IsFirstWord text text []
    by_chars [] e = absurd (some (ap length (sym (encodes-chars text u) ∙ ap encode_utf8_all e)))
    by_chars (c ∷ cs) e = word_to_end text [] c cs e (none_pass is_whitespace text u none) refl

-- the last word of words of which these are left, or these where none is left
abbrev pub last_or : List (Word ℕ) → List (Word ℕ) → List (Word ℕ)
last_or last [] = last
last_or last (w ∷ ws) = last_word (w ∷ ws)

last_or-same : (ws : List (Word ℕ)) → last_word ws ≡ last_or ws ws
last_or-same [] = refl
last_or-same (w ∷ ws) = refl

last_or-cons : (w : Word ℕ) (last ws : List (Word ℕ)) → last_or last (w ∷ ws) ≡ last_or (w ∷ ws) ws
last_or-cons w last [] = refl
last_or-cons w last (v ∷ ws) = refl

-- the words behind the last lower one of those that are left, or these where none is
abbrev pub behind_or : List (Word ℕ) → List (Word ℕ) → List (Word ℕ)
behind_or name ws = cond (list_any is_lower ws) (words_behind_lower ws) name

lower_first : {X : Type 0} (b c : Bool) (x y z : X) → cond c x (cond b y z) ≡ cond (b || c) (cond c x (cond b y z)) z
lower_first true true x y z = refl
lower_first true false x y z = refl
lower_first false true x y z = refl
lower_first false false x y z = refl

lower_next : {X : Type 0} (b c : Bool) (x y z name : X) → cond (b || c) (cond c x (cond b y z)) name ≡ cond c x (cond b y name)
lower_next true true x y z name = refl
lower_next true false x y z name = refl
lower_next false true x y z name = refl
lower_next false false x y z name = refl

behind_or-same : (ws : List (Word ℕ)) → words_behind_lower ws ≡ behind_or ws ws
behind_or-same [] = refl
behind_or-same (w ∷ ws) = lower_first (is_lower w) (list_any is_lower ws) (words_behind_lower ws) ws (w ∷ ws)

behind_or-cons : (w : Word ℕ) (name ws : List (Word ℕ)) → behind_or name (w ∷ ws) ≡ behind_or (cond (is_lower w) ws name) ws
behind_or-cons w name ws = lower_next (is_lower w) (list_any is_lower ws) (words_behind_lower ws) ws (w ∷ ws) name

IsEnd-within : (text left behind : List ℕ) → IsEnd text left → IsEnd left behind → IsEnd text behind
IsEnd-within text left behind (f, e) (g, d) = (f ++ g, e ∙ ap (λ l. f ++ l) d ∙ sym (append_assoc f g behind))

-- a loop over the words of a text has come to `left`, and keeps the place `kept`
pub record Walked (text left kept : List ℕ) : Type 0 where
  pub left_end : IsEnd text left
  pub left_valid : IsUtf8 left
  pub kept_end : IsEnd text kept
  pub kept_valid : IsUtf8 kept

-- the last word is among those that are left, or begins at `last`
pub record LastSoFar (text left last : List ℕ) : Type 0 where
  pub walked : Walked text left last
  pub words : last_word (words_of text) ≡ last_or (words_of last) (words_of left)

-- the last lower word is among those that are left, or stands before `name`
pub record LowerSoFar (text left name : List ℕ) : Type 0 where
  pub walked : Walked text left name
  pub words : words_behind_lower (words_of text) ≡ behind_or (words_of name) (words_of left)

walked_none : (text : List ℕ) → IsUtf8 text → Walked text text text
walked_none text u = record { left_end = ([], refl); left_valid = u; kept_end = ([], refl); kept_valid = u }

pub last_none : (text : List ℕ) → IsUtf8 text → LastSoFar text text text
last_none text u = record { walked = walked_none text u; words = last_or-same (words_of text) }

pub last_next : (text left last word behind : List ℕ) → LastSoFar text left last → IsFirstWord left word behind → LastSoFar text behind left
last_next text left last word behind s f = record {
  walked = record {
    left_end = IsEnd-within text left behind s.walked.left_end f.end;
    left_valid = f.valid;
    kept_end = s.walked.left_end;
    kept_valid = s.walked.left_valid;
  };
  words = s.words ∙ ap (last_or (words_of last)) f.words ∙ last_or-cons _ (words_of last) (words_of behind) ∙ ap (λ ws. last_or ws (words_of behind)) (sym f.words);
}

pub lower_none : (text : List ℕ) → IsUtf8 text → LowerSoFar text text text
lower_none text u = record { walked = walked_none text u; words = behind_or-same (words_of text) }

lower_step : (text left name word behind : List ℕ) → LowerSoFar text left name → IsFirstWord left word behind → words_behind_lower (words_of text) ≡ behind_or (cond (first_passes is_lowercase (chars word)) (words_of behind) (words_of name)) (words_of behind)
lower_step text left name word behind s f = s.words ∙ ap (behind_or (words_of name)) f.words ∙ behind_or-cons _ (words_of name) (words_of behind)

pub lower_next_lower : (text left name word behind : List ℕ) → LowerSoFar text left name → IsFirstWord left word behind → first_passes is_lowercase (chars word) ≡ true → LowerSoFar text behind behind
lower_next_lower text left name word behind s f b =
    let end = IsEnd-within text left behind s.walked.left_end f.end in record {
      walked = record { left_end = end; left_valid = f.valid; kept_end = end; kept_valid = f.valid };
      words = lower_step text left name word behind s f ∙ ap (λ t. behind_or (cond t (words_of behind) (words_of name)) (words_of behind)) b;
    }

pub lower_next_other : (text left name word behind : List ℕ) → LowerSoFar text left name → IsFirstWord left word behind → first_passes is_lowercase (chars word) ≡ false → LowerSoFar text behind name
lower_next_other text left name word behind s f b = record {
  walked = record {
    left_end = IsEnd-within text left behind s.walked.left_end f.end;
    left_valid = f.valid;
    kept_end = s.walked.kept_end;
    kept_valid = s.walked.kept_valid;
  };
  words = lower_step text left name word behind s f ∙ ap (λ t. behind_or (cond t (words_of behind) (words_of name)) (words_of behind)) b;
}

-- a loop over the words has come to `left`: where the last word begins, what stands behind the last
-- lower word, and whether all words before `left` are lower
pub record NameSoFar (text left last name : List ℕ) (all : Bool) : Type 0 where
  pub for_last : LastSoFar text left last
  pub for_name : LowerSoFar text left name
  pub lower : list_all is_lower (words_of text) ≡ (all && list_all is_lower (words_of left))

pub name_none : (text : List ℕ) → IsUtf8 text → NameSoFar text text text text true
name_none text u = record { for_last = last_none text u; for_name = lower_none text u; lower = refl }

lower_more : (text left last name word behind : List ℕ) (all b : Bool) → NameSoFar text left last name all → IsFirstWord left word behind → first_passes is_lowercase (chars word) ≡ b
    → list_all is_lower (words_of text) ≡ (all && (b && list_all is_lower (words_of behind)))
lower_more text left last name word behind all b s f e =
    s.lower ∙ ap (λ ws. all && list_all is_lower ws) f.words ∙ ap (λ t. all && (t && list_all is_lower (words_of behind))) e

pub name_next_lower : (text left last name word behind : List ℕ) (all : Bool) → NameSoFar text left last name all → IsFirstWord left word behind → first_passes is_lowercase (chars word) ≡ true → NameSoFar text behind left behind all
name_next_lower text left last name word behind all s f e = record {
  for_last = last_next text left last word behind s.for_last f;
  for_name = lower_next_lower text left name word behind s.for_name f e;
  lower = lower_more text left last name word behind all true s f e;
}

none_lower : (all b : Bool) → (all && (false && b)) ≡ false
none_lower true b = refl
none_lower false b = refl

pub name_next_other : (text left last name word behind : List ℕ) (all : Bool) → NameSoFar text left last name all → IsFirstWord left word behind → first_passes is_lowercase (chars word) ≡ false → NameSoFar text behind left name false
name_next_other text left last name word behind all s f e = record {
  for_last = last_next text left last word behind s.for_last f;
  for_name = lower_next_other text left name word behind s.for_name f e;
  lower = lower_more text left last name word behind all false s f e ∙ none_lower all (list_all is_lower (words_of behind));
}

-- no word is left at the end of the text
pub words_of-empty : (left : List ℕ) → left ≡ [] → words_of left ≡ []
unfolding words
words_of-empty left e = rw (e, chars-nil) refl

-- the name of a family part, by the words from which it is made
pub name_by_words : (family name : List ℕ) → IsUtf8 name → words_of name ≡ name_words (words_of family) → name ≡ name_of family
unfolding name_of
name_by_words family name u e = sym (encodes-chars name u) ∙ ap encode_utf8_all (sym (joined_words-words is_whitespace (chars name)) ∙ ap joined_words e)

all_or : (all : Bool) → (all && true) ≡ all
all_or true = refl
all_or false = refl

-- where no word is left, whether all are lower is known, and so is the name
pub name_words-end : (text left last name : List ℕ) (all : Bool) → NameSoFar text left last name all → left ≡ [] → name_words (words_of text) ≡ cond all (words_of last) (words_of name)
name_words-end text left last name all s e =
    let none : words_of left ≡ [] = words_of-empty left e in
    let known : list_all is_lower (words_of text) ≡ all = s.lower ∙ ap (λ ws. all && list_all is_lower ws) none ∙ all_or all in
    let at_last : last_word (words_of text) ≡ words_of last = s.for_last.words ∙ ap (last_or (words_of last)) none in
    let at_name : words_behind_lower (words_of text) ≡ words_of name = s.for_name.words ∙ ap (behind_or (words_of name)) none in
    ap (λ b. cond b (last_word (words_of text)) (words_behind_lower (words_of text))) known ∙ ap (λ ws. cond all ws (words_behind_lower (words_of text))) at_last ∙ ap (λ ws. cond all (words_of last) ws) at_name

-- a family part may be cut before its name
pub IsCharBoundary-name : (family name : List ℕ) → IsUtf8 name → IsEnd family name → IsCharBoundary family (length family - length name)
IsCharBoundary-name family name u (front, e) =
    let place : length family - length name ≡ length front = omega (arith, ap length e, length-append front name) in
    rw place (IsCharBoundary-at_seam family front name e u)
