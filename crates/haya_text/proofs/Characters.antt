-- A text by its characters, and its length by them.
use Rattle.std.proofs.Common.{◌≡◌, ℕ, ◌-◌, ◌≤◌, List, [], ◌∷◌, ◌++◌, All, take, drop, length, refl, ap, sym, ◌∙◌, arith}
use Rattle.std.proofs.lemmas.Str.{encodes-chars, chars_from_encodes, chars-nil, IsUtf8-past_char, IsUtf8-take, IsCharBoundary-at_seam, chars-append, chars_past_char}
use Rattle.std.proofs.lemmas.List.Elements.{All-nil, All-push}
use Rattle.std.proofs.lemmas.List.{append-nil, length-append, take-append-drop}
use Rattle.std.proofs.Math.Seq.{take-append_seam}
use Rattle.std.proofs.Common.{append_assoc}
use Rattle.std.specs.Char.{encode_utf8}
use Rattle.haya_text.specs.Cursor.{IsBehind, Left, text_len}
use Rattle.std.specs.Str.{IsUtf8, IsCharBoundary, chars, encode_utf8_all, skip_leading_whitespace, trim_start}

-- the characters of a text take as many bytes as the text has
pub length-chars : (text : List ℕ) → IsUtf8 text → length (encode_utf8_all (chars text)) ≡ length text
length-chars text u = ap length (encodes-chars text u)

-- the same where the characters have another name
pub length_by_chars : (text cs : List ℕ) → IsUtf8 text → chars text ≡ cs → length (encode_utf8_all cs) ≡ length text
length_by_chars text cs u e = ap (λ v. length (encode_utf8_all v)) (sym e) ∙ length-chars text u

-- the characters of a trimmed text
pub chars-trim_start : (text left : List ℕ) → IsUtf8 left → left ≡ trim_start text → chars left ≡ skip_leading_whitespace (chars text)
unfolding trim_start
chars-trim_start text left u e = sym (chars_from_encodes (skip_leading_whitespace (chars text)) left u (sym e))

-- what stands before a text, within a text, is one
front_valid : (text front left : List ℕ) → IsUtf8 text → IsUtf8 left → text ≡ front ++ left → IsUtf8 front
front_valid text front left u v e =
    rw (ap (take (length front)) e ∙ take-append_seam front left) at (IsUtf8-take text (length front) u (IsCharBoundary-at_seam text front left e v))

-- the characters of one character's bytes
chars-encode : (c : ℕ) (text behind : List ℕ) → IsUtf8 text → IsUtf8 behind → text ≡ encode_utf8 c ++ behind → chars (encode_utf8 c) ≡ c ∷ []
chars-encode c text behind u v e =
    rw (chars_past_char (encode_utf8 c) [] c (front_valid text (encode_utf8 c) behind u v e) (sym (append-nil (encode_utf8 c))), chars-nil)

-- the text is cut before left, and the characters of its front meet P
pub record Accepted (P : ℕ → Type 0) (text left : List ℕ) : Type 0 where
  pub front : List ℕ
  pub cut : text ≡ front ++ left
  pub valid : IsUtf8 left
  pub meets : All P (chars front)

pub accepted_none : (P : ℕ → Type 0) (text : List ℕ) → IsUtf8 text → Accepted P text text
accepted_none P text u = record { front = []; cut = refl; valid = u; meets = rw chars-nil (All-nil P) }

pub accepted_more : (P : ℕ → Type 0) (text left behind : List ℕ) → IsUtf8 text → Accepted P text left → IsBehind P left behind → Accepted P text behind
accepted_more P text left behind u a b =
    let rest : IsUtf8 behind = IsUtf8-past_char left behind b.first a.valid b.bytes in
    let one = chars-encode b.first left behind a.valid rest b.bytes in
    let both = chars-append a.front (encode_utf8 b.first) (front_valid text a.front left u a.valid a.cut) in
    record {
      front = a.front ++ encode_utf8 b.first;
      cut = a.cut ∙ ap (λ v. a.front ++ v) b.bytes ∙ sym (append_assoc a.front (encode_utf8 b.first) behind);
      valid = rest;
      meets = rw (both, one) (All-push P (chars a.front) b.first a.meets b.meets);
    }

-- the text may be cut there
pub accepted_boundary : {P : ℕ → Type 0} {text left : List ℕ} → Accepted P text left → IsCharBoundary text (length text - length left)
accepted_boundary {P} {text} {left} a =
    let place : length text - length left ≡ length a.front = omega (arith, ap length a.cut, length-append a.front left) in
    rw place (IsCharBoundary-at_seam text a.front left a.cut a.valid)

-- the characters of both parts of a text
pub chars-parts : (text : List ℕ) (i : ℕ) → IsUtf8 text → IsCharBoundary text i → chars text ≡ chars (take i text) ++ chars (drop i text)
chars-parts text i u b = ap chars (sym (take-append-drop i text)) ∙ chars-append (take i text) (drop i text) (IsUtf8-take text i u b)

-- what is behind some characters of a text takes no more bytes than the text
pub length-behind : (front behind : List ℕ) → length (encode_utf8_all behind) ≤ length (encode_utf8_all (front ++ behind))
length-behind [] behind = omega arith
length-behind (c ∷ front) behind =
    omega (arith, length-behind front behind, length-append (encode_utf8 c) (encode_utf8_all (front ++ behind)))

-- so a place goes forward where the text's length stays
pub place-forward : (old new : Left) (front : List ℕ) → old.rest ≡ front ++ new.rest → text_len new ≡ text_len old → old.place ≤ new.place
place-forward old new front e t = omega (arith, t, length-behind front new.rest, ap (λ cs. length (encode_utf8_all cs)) e)
