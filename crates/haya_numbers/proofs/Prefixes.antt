-- Where a text is cut behind its prefix.
use Rattle.std.proofs.Common.{◌≡◌, ℕ, ◌+◌, ◌-◌, ◌≤◌, Bool, true, false, ◌&&◌, nat_eq, List, [], ◌∷◌, ◌++◌, length, refl, ap, sym, ◌∙◌, append_assoc, length-append, arith, cond, subst, take, drop}
use Rattle.std.specs.List.{list_all}
use Rattle.std.specs.Char.{encode_utf8}
use Rattle.std.specs.Str.{IsCharBoundary, IsUtf8, chars, encode_utf8_all}
use Rattle.std.proofs.lemmas.Bool.Decides.{nat_tests}
use Rattle.std.proofs.lemmas.Str.{chars-nil, encodes-append, encodes-chars, IsUtf8-take}
use Rattle.haya_text.specs.Cursor.{Left, text_len}
use Rattle.haya_text.specs.Characters.{is_numeric, run, behind_run, begins_with}
use Rattle.haya_numbers.specs.Characters.{zero_digit}
use Rattle.haya_numbers.specs.Classes.{own_zeros}
use Rattle.haya_numbers.specs.NumericReading.{is_affix, spare_zeros, past_zeros, prefix_run, past_prefix}
use Rattle.haya_numbers.proofs.Grammars.{is_zero, is-run, zeros-all, zeros-last, zeros-none, zeros-turned}
use Rattle.haya_numbers.proofs.Places.{cut_at}

-- the zeros of a prefix, and then what stands behind them
zeros-joined : (cs : List ℕ) → cs ≡ spare_zeros cs ++ past_zeros cs
zeros-joined [] = refl
zeros-joined (c ∷ cs) = by (nat_eq c zero_digit && begins_with is_numeric cs) (zeros-joined cs)
  where
    by : (b : Bool) → cs ≡ spare_zeros cs ++ past_zeros cs → c ∷ cs ≡ cond b (c ∷ spare_zeros cs) [] ++ cond b (past_zeros cs) (c ∷ cs)
    by true more = ap (λ l. c ∷ l) more
    by false more = refl

-- the prefix, and then what stands behind it
prefix-joined : (cs : List ℕ) → cs ≡ prefix_run cs ++ past_prefix cs
prefix-joined cs =
    (is-run is_affix cs).joined ∙ ap (λ l. run is_affix cs ++ l) (zeros-joined (behind_run is_affix cs))
    ∙ sym (append_assoc (run is_affix cs) (spare_zeros (behind_run is_affix cs)) (past_prefix cs))

-- behind the zeros of a prefix are the number's own, and what follows all of them
zeros-own : (zs r : List ℕ) → list_all is_zero zs ≡ true → begins_with is_zero r ≡ false → length (encode_utf8_all (past_zeros (zs ++ r))) ≡ own_zeros zs r + length (encode_utf8_all r)
unfolding encode_utf8
zeros-own zs r m s = by (begins_with is_numeric r) refl zs m
  where
    by : (b : Bool) → begins_with is_numeric r ≡ b → (zs : List ℕ) → list_all is_zero zs ≡ true → length (encode_utf8_all (past_zeros (zs ++ r))) ≡ own_zeros zs r + length (encode_utf8_all r)
    by b h [] m = let e : length (encode_utf8_all (past_zeros r)) ≡ length (encode_utf8_all r) = ap (λ l. length (encode_utf8_all l)) (zeros-none r s).1 in omega arith
    by true h (z ∷ zs) m =
        let e : length (encode_utf8_all (past_zeros ((z ∷ zs) ++ r))) ≡ length (encode_utf8_all r) = ap (λ l. length (encode_utf8_all l)) (zeros-all (z ∷ zs) r m s h).1 in
        let none : own_zeros (z ∷ zs) r ≡ 0 = rw h refl in
        omega arith
    by false h (z ∷ zs) m =
        let t = zeros-turned z zs m in
        let ms : list_all is_zero (zs ++ 48 ∷ []) ≡ true = subst (λ (w : List ℕ). list_all is_zero w ≡ true) t m in
        let e : length (encode_utf8_all (past_zeros ((z ∷ zs) ++ r))) ≡ length (encode_utf8_all (48 ∷ r)) = ap (λ v. length (encode_utf8_all (past_zeros (v ++ r)))) t ∙ ap (λ l. length (encode_utf8_all l)) (zeros-last zs r ms h).1 in
        let one : own_zeros (z ∷ zs) r ≡ 1 = rw h refl in
        let more : length (encode_utf8_all (48 ∷ r)) ≡ 1 + length (encode_utf8_all r) = length-append (encode_utf8 48) (encode_utf8_all r) in
        omega arith

-- a number has zeros of its own only where there are zeros
pub own_zeros-none : (zeros behind : List ℕ) → nat_eq (length zeros) 0 ≡ true → 0 ≡ own_zeros (chars zeros) behind
own_zeros-none [] behind e = rw chars-nil refl
own_zeros-none (z ∷ zeros) behind e = absurd (grind (arith, nat_tests))

pub own_zeros-some : (zeros behind : List ℕ) → IsUtf8 zeros → nat_eq (length zeros) 0 ≡ false → own_zeros (chars zeros) behind ≡ cond (begins_with is_numeric behind) 0 1
own_zeros-some zeros behind u some = by (chars zeros) refl
  where
    by : (cs : List ℕ) → chars zeros ≡ cs → own_zeros cs behind ≡ cond (begins_with is_numeric behind) 0 1
    by [] e = let none : zeros ≡ [] = sym (encodes-chars zeros u) ∙ ap encode_utf8_all e in cc (rw none at some)
    by (c ∷ cs) e = refl

-- the place of a cursor that is past all zeros, less the number's own, is behind the prefix
pub record IsPastZeros (cs : List ℕ) (place own : ℕ) : Type 0 where
  pub within : own ≤ place
  pub left : (place - own) + length (encode_utf8_all (past_prefix cs)) ≡ length (encode_utf8_all cs)

past-zeros : (cs zs r : List ℕ) (place own : ℕ) → zs ≡ run is_zero (behind_run is_affix cs) → r ≡ behind_run is_zero (behind_run is_affix cs) → own ≡ own_zeros zs r
    → place + length (encode_utf8_all r) ≡ length (encode_utf8_all cs) → IsPastZeros cs place own
past-zeros cs zs r place own z q o at =
    let cut = is-run is_zero (behind_run is_affix cs) in
    let joined = prefix-joined cs in
    let members : list_all is_zero zs ≡ true = rw z cut.members in
    let longest : begins_with is_zero r ≡ false = rw q cut.longest in
    let both : behind_run is_affix cs ≡ zs ++ r = cut.joined ∙ rw (z, q) refl in
    let behind : length (encode_utf8_all (past_prefix cs)) ≡ own_zeros zs r + length (encode_utf8_all r) = ap (λ l. length (encode_utf8_all (past_zeros l))) both ∙ zeros-own zs r members longest in
    let whole : length (encode_utf8_all cs) ≡ length (encode_utf8_all (prefix_run cs)) + length (encode_utf8_all (past_prefix cs)) = ap (λ l. length (encode_utf8_all l)) joined ∙ ap length (encodes-append (prefix_run cs) (past_prefix cs)) ∙ length-append (encode_utf8_all (prefix_run cs)) (encode_utf8_all (past_prefix cs)) in
    let within : own ≤ place = omega arith in
    record { within = within; left = omega arith }

-- a text is cut behind its prefix there
pub record IsPrefixCut (text : List ℕ) (place own : ℕ) : Type 0 where
  pub within : own ≤ place
  pub boundary : IsCharBoundary text (place - own)
  pub front : take (place - own) text ≡ encode_utf8_all (prefix_run (chars text))
  pub back : chars (drop (place - own) text) ≡ past_prefix (chars text)

pub prefix-cut : (text zs : List ℕ) (start first ahead : Left) (place own : ℕ) → IsUtf8 text → start ≡ record { place = 0; rest = chars text }
    → first.rest ≡ behind_run is_affix start.rest → text_len first ≡ text_len start → zs ≡ run is_zero first.rest → ahead.rest ≡ behind_run is_zero first.rest → text_len ahead ≡ text_len first
    → place ≡ ahead.place → own ≡ own_zeros zs ahead.rest → IsPrefixCut text place own
prefix-cut text zs start first ahead place own u at f fl z a al p o =
    let cs = chars text in
    let here : first.rest ≡ behind_run is_affix cs = f ∙ ap (λ l. behind_run is_affix l.rest) at in
    let len : place + length (encode_utf8_all ahead.rest) ≡ length (encode_utf8_all cs) = omega (arith, al, fl, ap text_len at) in
    let past = past-zeros cs zs ahead.rest place own (z ∙ ap (run is_zero) here) (a ∙ ap (behind_run is_zero) here) o len in
    let cut = cut_at text (prefix_run cs) (past_prefix cs) (place - own) u (prefix-joined cs) past.left in
    record {
      within = past.within;
      boundary = cut.boundary;
      front = sym (encodes-chars (take (place - own) text) (IsUtf8-take text (place - own) u cut.boundary)) ∙ ap encode_utf8_all cut.front;
      back = cut.back;
    }
