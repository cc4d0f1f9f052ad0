-- A text divided at a place that is known by the characters before and behind it.
use Rattle.std.proofs.Common.{◌≡◌, ℕ, ◌+◌, true, List, [], ◌∷◌, ◌++◌, length, take, drop, refl, ap, sym, ◌∙◌, arith}
use Rattle.std.proofs.lemmas.Str.{encodes-chars, encodes-append, chars-encodes, scalars-chars, IsCharBoundary-at_seam}
use Rattle.std.proofs.lemmas.List.{length-append}
use Rattle.std.proofs.Math.Seq.{take-append_seam, drop-append_seam}
use Rattle.std.proofs.Math.Utf8.{scalars}
use Rattle.std.specs.Str.{IsUtf8, IsCharBoundary, chars, encode_utf8_all}
use Rattle.haya_text.proofs.Tells.{and-both}
use lib.Utf8.{scalar}

-- the text is cut into these characters
pub record IsCutAt (text before behind : List ℕ) (place : ℕ) : Type 0 where
  pub boundary : IsCharBoundary text place
  pub front : chars (take place text) ≡ before
  pub back : chars (drop place text) ≡ behind

pub scalars-parts : (xs ys : List ℕ) → scalars (xs ++ ys) ≡ true → (scalars xs ≡ true) × (scalars ys ≡ true)
scalars-parts [] ys h = (refl, h)
scalars-parts (x ∷ xs) ys h =
    let both = and-both (scalar x) (scalars (xs ++ ys)) h in
    let rest = scalars-parts xs ys both.1 in
    (rw both.0 rest.0, rest.1)

pub cut_at : (text before behind : List ℕ) (place : ℕ) → IsUtf8 text → chars text ≡ before ++ behind → place + length (encode_utf8_all behind) ≡ length (encode_utf8_all (chars text)) → IsCutAt text before behind place
cut_at text before behind place u cut len =
    let bytes : text ≡ encode_utf8_all before ++ encode_utf8_all behind = sym (encodes-chars text u) ∙ ap encode_utf8_all cut ∙ encodes-append before behind in
    let both = scalars-parts before behind (rw cut at (scalars-chars text u)) in
    let whole : length (encode_utf8_all (chars text)) ≡ length (encode_utf8_all before) + length (encode_utf8_all behind) = ap (λ v. length (encode_utf8_all v)) cut ∙ ap length (encodes-append before behind) ∙ length-append (encode_utf8_all before) (encode_utf8_all behind) in
    let here : place ≡ length (encode_utf8_all before) = omega arith in
    record {
      boundary = rw here (IsCharBoundary-at_seam text (encode_utf8_all before) (encode_utf8_all behind) bytes (behind, (both.1, refl)));
      front = ap (λ v. chars (take v text)) here ∙ ap (λ v. chars (take (length (encode_utf8_all before)) v)) bytes ∙ ap chars (take-append_seam (encode_utf8_all before) (encode_utf8_all behind)) ∙ chars-encodes before both.0;
      back = ap (λ v. chars (drop v text)) here ∙ ap (λ v. chars (drop (length (encode_utf8_all before)) v)) bytes ∙ ap chars (drop-append_seam (encode_utf8_all before) (encode_utf8_all behind)) ∙ chars-encodes behind both.1;
    }
