-- What is seen of a first part is seen of the whole.
use Rattle.std.proofs.Common.{◌≡◌, ℕ, zero, suc, ◌<◌, ◌≤◌, List, [], ◌∷◌, ◌++◌, Option, None, Some, length, take, refl, ap, arith, lit≤, nat_eq}
use Rattle.std.specs.Prelude.{slice_get}
use Rattle.std.specs.List.{starts_with}
use Rattle.std.specs.Option.{option_eq}
use Rattle.std.specs.Str.{bytes_eq}
use Rattle.std.proofs.lemmas.List.{take-append-le}
use Rattle.haya_formats.specs.Block.{valid_front}
use Rattle.haya_formats.specs.Foreign.{Signature, archives, documents, foreign_of, marks, signed_in, wide_text, zero_at}
use Rattle.haya_formats.specs.declared.block.TheConstants.{FIRST_BLOCK}
use Rattle.haya_formats.specs.FirstLine.{first_line}
use Rattle.haya_formats.specs.Formats.{file_format_in_text, format_for, format_in_text}
use Rattle.haya_formats.specs.Likeness.{foreign_for, like_text_from, likeness_for}
use Rattle.haya_formats.specs.declared.format.Format.{Format}
use Rattle.haya_formats.specs.declared.format.Format.TheVariants.{Bibtex, CslJson, Hayagriva, JsonLines, Lines, Yaml}

get_same : (xs ys : List ℕ) (i : ℕ) → i < length xs → slice_get (xs ++ ys) i ≡ slice_get xs i
get_same [] ys i within = absurd (omega arith)
get_same (x ∷ xs) ys zero within = refl
get_same (x ∷ xs) ys (suc i) within = get_same xs ys i (omega arith)

module _ (first rest : List ℕ) where
  pub same_text : (n : ℕ) → n ≤ length first → valid_front (take n (first ++ rest)) ≡ valid_front (take n first)
  same_text n long = ap valid_front (take-append-le n first rest long)

  begins_same : (sign : List ℕ) → length sign ≤ length first → starts_with nat_eq (first ++ rest) sign ≡ starts_with nat_eq first sign
  begins_same sign long = ap (bytes_eq sign) (take-append-le (length sign) first rest long)

  abbrev Short : ℕ → List Signature → Type 0
  Short n [] = Unit {0}
  Short n (s ∷ more) = (length s.0 ≤ n) × Short n more

  signed_same : (n : ℕ) (table : List Signature) → Short n table → n ≤ length first → signed_in table (first ++ rest) ≡ signed_in table first
  signed_same n [] short long = refl
  signed_same n (s ∷ more) short long =
      let fits : length s.0 ≤ length first = omega (arith, short.0) in
      rw (begins_same s.0 fits, signed_same n more short.1 long) refl

  zero_same : (i : ℕ) → i < length first → zero_at (first ++ rest) i ≡ zero_at first i
  zero_same i within = ap (λ b. option_eq nat_eq b (Some 0)) (get_same first rest i within)

  wide_same : 4 ≤ length first → wide_text (first ++ rest) ≡ wide_text first
  wide_same long =
      rw (zero_same 0 (omega arith), zero_same 1 (omega arith), zero_same 2 (omega arith), zero_same 3 (omega arith)) refl

  foreign_same : 16 ≤ length first → foreign_of (first ++ rest) ≡ foreign_of first
  foreign_same long =
      let all_marks : Short 16 marks = (lit≤ tt, (lit≤ tt, (lit≤ tt, (lit≤ tt, tt)))) in
      let all_archives : Short 16 archives = (lit≤ tt, (lit≤ tt, (lit≤ tt, (lit≤ tt, (lit≤ tt, (lit≤ tt, tt)))))) in
      let all_documents : Short 16 documents = (lit≤ tt, (lit≤ tt, tt)) in
      rw (signed_same 16 marks all_marks long, signed_same 16 archives all_archives long, signed_same 16 documents all_documents long, wide_same (omega arith)) refl

  pub format_same : (given : Option Format) → FIRST_BLOCK ≤ length first → format_for given (first ++ rest) ≡ format_for given first
  format_same None long = ap format_in_text (same_text FIRST_BLOCK long)
  format_same (Some Hayagriva) long = ap file_format_in_text (same_text FIRST_BLOCK long)
  format_same (Some Yaml) long = refl
  format_same (Some Bibtex) long = refl
  format_same (Some (CslJson key)) long = refl
  format_same (Some JsonLines) long = refl
  format_same (Some Lines) long = refl

  likeness_same : (given : Option Format) → FIRST_BLOCK ≤ length first → likeness_for given (first ++ rest) ≡ likeness_for given first
  likeness_same None long = ap (λ text. like_text_from text (first_line text)) (same_text FIRST_BLOCK long)
  likeness_same (Some format) long = refl

  pub all_same : (given : Option Format) → FIRST_BLOCK ≤ length first → foreign_for given (first ++ rest) ≡ foreign_for given first
  all_same given long = rw (foreign_same (omega arith), likeness_same given long) refl
