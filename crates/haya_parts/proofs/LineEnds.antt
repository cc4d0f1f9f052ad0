-- Where a line ends.
use Rattle.std.proofs.Common.{◌≡◌, ℕ, zero, suc, ◌+◌, ◌-◌, ◌<◌, ◌≤◌, ◌==◌, true, false, cond, List, [], ◌∷◌, ◌++◌, length, length-append, take, drop, get_or, refl, sym, ap, ◌∙◌, subst, append_assoc, append-nil, take-append-drop, arith}
use Rattle.std.specs.Str.Lines.{lines, lines_of_parts, strip_carriage_return}
use Rattle.std.proofs.Math.Seq.{drop-cons, take-append_seam, take-length}
use Rattle.std.proofs.lemmas.Bool.{eqb-true, false_from_ne_true}
use Rattle.std.proofs.lemmas.Bool.Decides.{nat_tests}
use Rattle.std.proofs.lemmas.List.{get_or-drop, get_or-take, get_or_default, length-drop, length-take, nil_from_length}
use Rattle.std.proofs.lemmas.List.Splits.{slice_split_none}
use Rattle.haya_line_stream.specs.Turns.{HasNoFeed}
use Rattle.haya_line_stream.proofs.Taken.{held_more, line_first}
use Rattle.haya_parts.specs.Divided.{Begins}
use Rattle.haya_parts.specs.LineParts.{IsLineEnd, LinesDivide}
use Rattle.haya_parts.specs.declared.line_parts.LineParts.{LineParts}

no_bytes : (k : ℕ) → take k (let none : List ℕ = [] in none) ≡ []
no_bytes zero = refl
no_bytes (suc k) = refl

take_plus : (i n : ℕ) (xs : List ℕ) → take (i + n) xs ≡ take i xs ++ take n (drop i xs)
take_plus zero n xs = ap (λ k. take k xs) (omega arith)
take_plus (suc i) n [] = no_bytes (suc i + n) ∙ sym (no_bytes n)
take_plus (suc i) n (x ∷ xs) =
    let more : suc i + n ≡ suc (i + n) = omega arith in
    ap (λ k. take k (x ∷ xs)) more ∙ ap (λ l. x ∷ l) (take_plus i n xs)

-- no byte in front of a place is a line feed
none_to : (rest : List ℕ) (at : ℕ) → at ≤ length rest
    → ((k : ℕ) → k < at → (get_or rest k 0 == 10) ≡ true → ⊥) → HasNoFeed (take at rest)
none_to rest at l none = λ k d within.
    let long = length-take at rest in
    let below : k < at = omega arith in
    ap (λ b. b == 10) (get_or-take at rest k d below ∙ get_or_default rest k d 0 (omega arith))
    ∙ false_from_ne_true (get_or rest k 0 == 10) (none k below)

module _ (held rest : List ℕ) (looked : ℕ) (within : looked ≤ length held)
    (none : HasNoFeed (take looked held)) (back : rest ≡ drop looked held) (long : length rest + looked ≡ length held) where
  pub end_there : (at : ℕ) → at < length rest → (get_or rest at 0 == 10) ≡ true
      → ((k : ℕ) → k < at → (get_or rest k 0 == 10) ≡ true → ⊥) → IsLineEnd held (looked + at)
  end_there at l feed before = record {
    within = omega arith;
    feed =
        sym (get_or-drop looked held at 0) ∙ ap (λ t. get_or t at 0) (sym back)
        ∙ eqb-true (get_or rest at 0) 10 feed;
    none =
        subst HasNoFeed (sym (take_plus looked at held))
        (held_more (take looked held) (take at (drop looked held)) none
        (subst (λ t. HasNoFeed (take at t)) back (none_to rest at (omega arith) before)));
  }

  pub no_end : ((k : ℕ) → k < length rest → (get_or rest k 0 == 10) ≡ true → ⊥) → HasNoFeed held
  no_end before =
      subst HasNoFeed (take-append-drop looked held)
      (held_more (take looked held) (drop looked held) none
      (subst HasNoFeed back (λ k d within.
      ap (λ b. b == 10) (get_or_default rest k d 0 within)
      ∙ false_from_ne_true (get_or rest k 0 == 10) (before k within))))

-- ---- lines that are taken

suc_is : (n : ℕ) → suc n ≡ n + 1
suc_is n = omega arith

-- all bytes behind a front
pub all_behind : (n : ℕ) (bytes : List ℕ) → take (length bytes - n) (drop n bytes) ≡ drop n bytes
all_behind n bytes =
    ap (λ k. take k (drop n bytes)) (sym (length-drop n bytes)) ∙ take-length (drop n bytes)

none_taken : (bytes : List ℕ) → HasNoFeed (take 0 bytes)
none_taken bytes = λ k d within. absurd (omega arith)

-- bytes without a line feed are a line
pub held_line : (piece : List ℕ) → HasNoFeed piece → 0 < length piece → lines piece ≡ piece ∷ []
held_line [] none some = absurd (omega arith)
held_line (b ∷ piece) none some =
    let long : (length (b ∷ piece) == 0) ≡ false = grind (arith, nat_tests) in
    ap lines_of_parts (slice_split_none (λ x. x == 10) (b ∷ piece) none)
    ∙ ap (λ c. cond c [] ((b ∷ piece) ∷ [])) long

module _ (d : LineParts) (taken held : List ℕ) (parts : List (List ℕ))
    (begins : Begins LinesDivide d taken parts held) where
  pub looked_within : d.looked ≤ length held
  looked_within = subst (λ t. d.looked ≤ length t) (append-nil held) (begins []).within

  pub looked_none : HasNoFeed (take d.looked held)
  looked_none = subst (λ t. HasNoFeed (take d.looked t)) (append-nil held) (begins []).none

  all_held : lines (taken ++ held) ≡ parts ++ lines held
  all_held = subst (λ t. lines (taken ++ t) ≡ parts ++ lines t) (append-nil held) (begins []).all

  -- a line that ends is taken
  pub line_taken : (at : ℕ) → IsLineEnd held at
      → Begins LinesDivide (record { looked = 0 }) (taken ++ take (at + 1) held)
      (parts ++ strip_carriage_return (take at held) ∷ []) (drop (at + 1) held)
  line_taken at end more =
      let piece = take at held in
      let behind = drop (at + 1) held in
      let line = strip_carriage_return piece in
      let split : held ≡ piece ++ 10 ∷ behind =
      sym (take-append-drop at held)
      ∙ ap (λ l. piece ++ l)
      (drop-cons held at 0 end.within ∙ ap (λ y. y ∷ drop (suc at) held) end.feed
      ∙ ap (λ k. 10 ∷ drop k held) (suc_is at)) in
      let next : lines (held ++ more) ≡ line ∷ lines (behind ++ more) =
      ap (λ l. lines (l ++ more)) split ∙ ap lines (append_assoc piece (10 ∷ behind) more)
      ∙ line_first piece (behind ++ more) end.none in
      let moved : (taken ++ take (at + 1) held) ++ (behind ++ more) ≡ taken ++ (held ++ more) =
      append_assoc taken (take (at + 1) held) (behind ++ more)
      ∙ ap (λ l. taken ++ l) (sym (append_assoc (take (at + 1) held) behind more))
      ∙ ap (λ l. taken ++ (l ++ more)) (take-append-drop (at + 1) held) in
      record {
        all =
            ap lines moved ∙ (begins more).all ∙ ap (λ l. parts ++ l) next
            ∙ sym (append_assoc parts (line ∷ []) (lines (behind ++ more)));
        within = omega arith;
        none = none_taken (behind ++ more);
      }

  -- all that is held is looked at
  pub all_looked : HasNoFeed held → Begins LinesDivide (record { looked = length held }) taken parts held
  all_looked none more = record {
    all = (begins more).all;
    within = omega (arith, length-append held more);
    none = subst HasNoFeed (sym (take-append_seam held more)) none;
  }

  -- the last line, or none
  pub last_none : length held ≡ 0 → parts ≡ lines (taken ++ held)
  last_none none =
      sym (append-nil parts) ∙ ap (λ l. parts ++ lines l) (sym (nil_from_length held none))
      ∙ sym all_held

  pub last_line : HasNoFeed held → 0 < length held → parts ++ held ∷ [] ≡ lines (taken ++ held)
  last_line none some = ap (λ l. parts ++ l) (sym (held_line held none some)) ∙ sym all_held
