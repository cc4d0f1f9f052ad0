-- Steps of the reading of a scalar.
use Rattle.std.proofs.Common.{◌≡◌, ℕ, zero, suc, ◌+◌, ◌<◌, List, [], ◌∷◌, ◌++◌, length, take, drop, get_or, Bool, true, false, cond, not, ◌==◌, ◌||◌, ◌&&◌, Some, None, refl, sym, ap, subst, ◌∙◌, append_assoc, append-nil, arith}
use Rattle.std.specs.Prelude.{encode_utf8, ⊤}
use Rattle.std.proofs.lemmas.List.{drop_all, take_all}
use Rattle.haya_yaml_text.specs.Signs.{begins_with, is_flow_sign, is_white, is_gap, blanks, skip}
use Rattle.haya_yaml_text.specs.Scalars.{Scalar, at_end, behind, gap_text, is_apart, may_end, plain_sign, scalar, scalar_at, sign_of, more_feeds, without_comment}
use Rattle.haya_yaml_text.specs.Turns.{goes_on, is_ordinary, is_space, is_special, plain_length, run, stops}
use Rattle.haya_yaml_text.specs.declared.scalar.Style.{Style}
use Rattle.haya_yaml_text.specs.declared.scalar.Style.TheVariants.{Plain, PlainInBrackets, SingleQuoted, DoubleQuoted}
use Rattle.haya_yaml_text.specs.declared.scalar.Fold.{Fold}
use Rattle.haya_yaml_text.specs.declared.scalar.Fold.TheVariants.{Inside, Joined}
use Rattle.haya_yaml_text.specs.declared.sign.Sign.{Sign}
use Rattle.haya_yaml_text.specs.declared.sign.Sign.TheVariants.{Ends, Closes, Wrong, Stands, Joins, Means}

pub behind_behind : (a b : List ℕ) (found : Scalar) → behind a (behind b found) ≡ behind (a ++ b) found
behind_behind a b None = refl
behind_behind a b (Some p) = ap (λ t. Some (t, p.1)) (sym (append_assoc a b p.0))

pub behind_none : (found : Scalar) → behind [] found ≡ found
behind_none None = refl
behind_none (Some p) = refl

take_one : (n c : ℕ) (cs : List ℕ) → take (1 + n) (c ∷ cs) ≡ c ∷ take n cs
take_one n c cs = let one : 1 + n ≡ suc n = omega arith in ap (λ k. take k (c ∷ cs)) one

pub drop_one : (n c : ℕ) (cs : List ℕ) → drop (1 + n) (c ∷ cs) ≡ drop n cs
drop_one n c cs = let one : 1 + n ≡ suc n = omega arith in ap (λ k. drop k (c ∷ cs)) one

-- white space that comes before is gathered
whites_if : (lines : Bool) (style : Style) (fold : Fold) (white : List ℕ) (c : ℕ) (cs : List ℕ) (b : Bool) → is_white c ≡ b
    → scalar lines style 0 fold (white ++ c ∷ []) cs ≡ scalar lines style 0 fold ((white ++ c ∷ []) ++ take (blanks true cs) cs) (skip true cs)
    → scalar lines style 0 fold white (c ∷ cs) ≡ scalar lines style 0 fold (white ++ take (cond b (1 + blanks true cs) 0) (c ∷ cs)) (drop (cond b (1 + blanks true cs) 0) (c ∷ cs))
unfolding scalar
whites_if lines style fold white c cs true is more =
    let n = blanks true cs in
    rw is (more ∙ ap (λ w. scalar lines style 0 fold w (drop n cs)) (append_assoc white (c ∷ []) (take n cs))
    ∙ ap (λ w. scalar lines style 0 fold (white ++ w) (drop n cs)) (sym (take_one n c cs))
    ∙ ap (λ t. scalar lines style 0 fold (white ++ take (1 + n) (c ∷ cs)) t) (sym (drop_one n c cs)))
whites_if lines style fold white c cs false is more = ap (λ w. scalar lines style 0 fold w (c ∷ cs)) (sym (append-nil white))

pub whites : (lines : Bool) (style : Style) (fold : Fold) (white text : List ℕ)
    → scalar lines style 0 fold white text ≡ scalar lines style 0 fold (white ++ take (blanks true text) text) (skip true text)
whites lines style fold white [] = ap (λ w. scalar lines style 0 fold w []) (sym (append-nil white))
whites lines style fold white (c ∷ cs) = whites_if lines style fold white c cs (is_white c) refl (whites lines style fold (white ++ c ∷ []) cs)

-- nothing more can belong to it
pub at_stop : (lines : Bool) (style : Style) (fold : Fold) (white text : List ℕ) → stops lines text ≡ true → scalar lines style 0 fold white text ≡ at_end style text
unfolding scalar
at_stop lines style fold white [] e = refl
at_stop true style fold white (c ∷ cs) e = absurd (grind (arith, e))
at_stop false style fold white (c ∷ cs) e = let is : c ≡ 10 = grind (arith, e) in rw is refl

-- a line ends
pub at_feed : (lines : Bool) (style : Style) (fold : Fold) (white text : List ℕ) → begins_with 10 text ≡ true → stops lines text ≡ false
    → scalar lines style 0 fold white text ≡ scalar lines style 0 (more_feeds fold) [] (drop 1 text)
unfolding scalar
at_feed lines style fold white [] e on = absurd (grind (arith, e))
at_feed true style fold white (c ∷ cs) e on = let is : c ≡ 10 = grind (arith, e) in rw is refl
at_feed false style fold white (c ∷ cs) e on = absurd (grind (arith, e, on))

-- a sign
sign_if : (lines : Bool) (style : Style) (fold : Fold) (white : List ℕ) (c : ℕ) (cs : List ℕ) → is_white c ≡ false → (c == 10) ≡ false
    → scalar lines style 0 fold white (c ∷ cs)
    ≡ scalar_at (sign_of lines style (is_apart fold white) (c ∷ cs)) (gap_text fold white) c cs (λ next n. scalar lines style n next [] cs)
unfolding scalar
sign_if lines style fold white c cs solid inside = rw (solid, inside) refl

pub or_left : (a b : Bool) → (a || b) ≡ false → a ≡ false
or_left true b e = e
or_left false b e = refl

and_right : (a b : Bool) → (a && b) ≡ true → b ≡ true
and_right true b e = e
and_right false b e = absurd (grind (arith, e))

or_right : (a b : Bool) → (a || b) ≡ false → b ≡ false
or_right true true e = e
or_right true false e = refl
or_right false b e = e

pub a_sign : (lines : Bool) (style : Style) (fold : Fold) (white : List ℕ) (c : ℕ) (cs : List ℕ) → is_gap (c ∷ cs) ≡ false
    → scalar lines style 0 fold white (c ∷ cs)
    ≡ scalar_at (sign_of lines style (is_apart fold white) (c ∷ cs)) (gap_text fold white) c cs (λ next n. scalar lines style n next [] cs)
a_sign lines style fold white c cs solid = sign_if lines style fold white c cs (or_left (is_white c) (c == 10) solid) (or_right (is_white c) (c == 10) solid)

-- signs that are passed over
pub passing : (lines : Bool) (style : Style) (n : ℕ) (fold : Fold) (white text : List ℕ) → scalar lines style n fold white text ≡ scalar lines style 0 fold white (drop n text)
unfolding scalar
passing lines style zero fold white text = refl
passing lines style (suc n) fold white [] = refl
passing lines style (suc n) fold white (c ∷ cs) = passing lines style n fold white cs

-- signs that stand for themselves
not_special : (b : Bool) → not b ≡ true → b ≡ false
not_special true e = sym e
not_special false e = refl

plain_stands : (flow apart : Bool) (c : ℕ) (cs : List ℕ) → (flow && is_flow_sign c) ≡ false → (c == 35) ≡ false → (c == 58) ≡ false → plain_sign flow apart (c ∷ cs) ≡ Stands
plain_stands true apart c cs bracket hash colon = rw (hash, colon, bracket) refl
plain_stands false apart c cs bracket hash colon = rw (hash, colon) refl

pub ordinary_stands : (lines : Bool) (style : Style) (apart : Bool) (c : ℕ) (cs : List ℕ) → is_ordinary style c ≡ true
    → ((is_white c || (c == 10)) ≡ false) × (sign_of lines style apart (c ∷ cs) ≡ Stands)
ordinary_stands lines Plain apart c cs e =
    let all = not_special (is_special Plain c) e in
    let signs = or_right (is_space c) _ all in
    (or_left _ _ all, plain_stands false apart c cs refl (or_left _ _ signs) (or_right (c == 35) _ signs))
ordinary_stands lines PlainInBrackets apart c cs e =
    let all = not_special (is_special PlainInBrackets c) e in
    let signs = or_right (is_space c) _ all in
    let more = or_right (c == 35) _ signs in
    (or_left _ _ all, plain_stands true apart c cs (or_right (c == 58) _ more) (or_left _ _ signs) (or_left _ _ more))
ordinary_stands lines SingleQuoted apart c cs e =
    let all = not_special (is_special SingleQuoted c) e in
    let quote : (c == 39) ≡ false = or_right (is_space c) (c == 39) all in
    (or_left _ _ all, rw quote refl)
ordinary_stands lines DoubleQuoted apart c cs e =
    let all = not_special (is_special DoubleQuoted c) e in
    let signs = or_right (is_space c) _ all in
    let quote : (c == 34) ≡ false = or_left (c == 34) (c == 92) signs in
    let slash : (c == 92) ≡ false = or_right (c == 34) (c == 92) signs in
    (or_left _ _ all, rw (quote, slash) refl)

one_run : (lines : Bool) (style : Style) (white : List ℕ) (c : ℕ) (cs : List ℕ) → is_ordinary style c ≡ true
    → scalar lines style 0 Inside white (c ∷ cs) ≡ behind (white ++ c ∷ []) (scalar lines style 0 Inside [] cs)
one_run lines style white c cs is =
    let facts = ordinary_stands lines style (is_apart Inside white) c cs is in
    a_sign lines style Inside white c cs facts.0
    ∙ ap (λ s. scalar_at s white c cs (λ next n. scalar lines style n next [] cs)) facts.1

space_run : (lines : Bool) (style : Style) (d : ℕ) (cs : List ℕ) → is_ordinary style d ≡ true
    → scalar lines style 0 Inside [] (32 ∷ d ∷ cs) ≡ behind (32 ∷ []) (scalar lines style 0 Inside [] (d ∷ cs))
unfolding scalar
space_run lines style d cs is =
    one_run lines style (32 ∷ []) d cs is
    ∙ sym (behind_behind (32 ∷ []) (d ∷ []) (scalar lines style 0 Inside [] cs))
    ∙ ap (behind (32 ∷ [])) (sym (one_run lines style [] d cs is))

next_run : (lines : Bool) (style : Style) (c : ℕ) (cs : List ℕ) → goes_on style (c ∷ cs) ≡ true
    → scalar lines style 0 Inside [] (c ∷ cs) ≡ behind (c ∷ []) (scalar lines style 0 Inside [] cs)
next_run lines style c [] is = one_run lines style [] c [] is
next_run lines style c (d ∷ cs) is = next_by (is_ordinary style c) refl
  where
    next_by : (b : Bool) → is_ordinary style c ≡ b → scalar lines style 0 Inside [] (c ∷ d ∷ cs) ≡ behind (c ∷ []) (scalar lines style 0 Inside [] (d ∷ cs))
    next_by true o = one_run lines style [] c (d ∷ cs) o
    next_by false o =
        let both : ((c == 32) && is_ordinary style d) ≡ true = ap (λ b. b || ((c == 32) && is_ordinary style d)) (sym o) ∙ is in
        let blank : c ≡ 32 = grind (arith, both) in
        let plain : is_ordinary style d ≡ true = and_right (c == 32) (is_ordinary style d) both in
        rw blank (space_run lines style d cs plain)

run_if : (lines : Bool) (style : Style) (c : ℕ) (cs : List ℕ) (b : Bool) → goes_on style (c ∷ cs) ≡ b
    → scalar lines style 0 Inside [] cs ≡ behind (take (plain_length style cs) cs) (scalar lines style 0 Inside [] (drop (plain_length style cs) cs))
    → scalar lines style 0 Inside [] (c ∷ cs)
    ≡ behind (take (cond b (suc (plain_length style cs)) 0) (c ∷ cs)) (scalar lines style 0 Inside [] (drop (cond b (suc (plain_length style cs)) 0) (c ∷ cs)))
run_if lines style c cs true is more =
    let n = plain_length style cs in
    next_run lines style c cs is
    ∙ ap (behind (c ∷ [])) more
    ∙ behind_behind (c ∷ []) (take n cs) (scalar lines style 0 Inside [] (drop n cs))
run_if lines style c cs false is more = sym (behind_none (scalar lines style 0 Inside [] (c ∷ cs)))

pub runs : (lines : Bool) (style : Style) (text : List ℕ)
    → scalar lines style 0 Inside [] text ≡ behind (take (plain_length style text) text) (scalar lines style 0 Inside [] (drop (plain_length style text) text))
unfolding plain_length
runs lines style [] = sym (behind_none (scalar lines style 0 Inside [] []))
runs lines style (c ∷ cs) = run_if lines style c cs (goes_on style (c ∷ cs)) refl (runs lines style cs)

-- a text of such signs alone is a scalar
pub alone : (lines : Bool) (style : Style) (text : List ℕ) → may_end style ≡ true → plain_length style text ≡ length text → scalar lines style 0 Inside [] text ≡ Some (text, [])
unfolding scalar
alone lines style text ends all =
    let whole : scalar lines style 0 Inside [] [] ≡ Some ([], []) = ap (λ b. cond b (Some ([], [])) None) ends in
    runs lines style text
    ∙ ap (λ n. behind (take n text) (scalar lines style 0 Inside [] (drop n text))) all
    ∙ ap (λ t. behind t (scalar lines style 0 Inside [] (drop (length text) text))) (take_all (length text) text (omega arith))
    ∙ ap (λ t. behind text (scalar lines style 0 Inside [] t)) (drop_all (length text) text (omega arith))
    ∙ ap (behind text) whole
    ∙ ap (λ t. Some (t, [])) (append-nil text)

-- the sign that begins a text, and each kind of it
at_sign : (lines : Bool) (style : Style) (fold : Fold) (white text : List ℕ) (s : Sign) → 0 < length text → is_gap text ≡ false
    → sign_of lines style (is_apart fold white) text ≡ s
    → scalar lines style 0 fold white text ≡ scalar_at s (gap_text fold white) (get_or text 0 0) (drop 1 text) (λ next n. scalar lines style n next [] (drop 1 text))
at_sign lines style fold white [] s some solid e = absurd (grind (arith, some))
at_sign lines style fold white (c ∷ cs) s some solid e =
    a_sign lines style fold white c cs solid ∙ ap (λ s. scalar_at s (gap_text fold white) c cs (λ next n. scalar lines style n next [] cs)) e

pub at_ends : (lines : Bool) (style : Style) (fold : Fold) (white text : List ℕ) → 0 < length text → is_gap text ≡ false
    → sign_of lines style (is_apart fold white) text ≡ Ends → scalar lines style 0 fold white text ≡ Some ([], without_comment text)
at_ends lines style fold white [] some solid e = absurd (grind (arith, some))
at_ends lines style fold white (c ∷ cs) some solid e = at_sign lines style fold white (c ∷ cs) Ends some solid e

pub at_closes : (lines : Bool) (style : Style) (fold : Fold) (white text : List ℕ) → 0 < length text → is_gap text ≡ false
    → sign_of lines style (is_apart fold white) text ≡ Closes → scalar lines style 0 fold white text ≡ Some (gap_text fold white, drop 1 text)
at_closes lines style fold white text some solid e = at_sign lines style fold white text Closes some solid e

pub at_wrong : (lines : Bool) (style : Style) (fold : Fold) (white text : List ℕ) → 0 < length text → is_gap text ≡ false
    → sign_of lines style (is_apart fold white) text ≡ Wrong → scalar lines style 0 fold white text ≡ None
at_wrong lines style fold white text some solid e = at_sign lines style fold white text Wrong some solid e

pub at_stands : (lines : Bool) (style : Style) (fold : Fold) (white text : List ℕ) → 0 < length text → is_gap text ≡ false
    → sign_of lines style (is_apart fold white) text ≡ Stands
    → scalar lines style 0 fold white text ≡ behind (gap_text fold white ++ take (run style text) text) (scalar lines style 0 Inside [] (drop (run style text) text))
at_stands lines style fold white [] some solid e = absurd (grind (arith, some))
at_stands lines style fold white (c ∷ cs) some solid e =
    let n = plain_length style cs in
    at_sign lines style fold white (c ∷ cs) Stands some solid e
    ∙ ap (behind (gap_text fold white ++ c ∷ [])) (runs lines style cs)
    ∙ behind_behind (gap_text fold white ++ c ∷ []) (take n cs) (scalar lines style 0 Inside [] (drop n cs))
    ∙ ap (λ t. behind t (scalar lines style 0 Inside [] (drop n cs))) (append_assoc (gap_text fold white) (c ∷ []) (take n cs))

pub at_joins : (lines : Bool) (style : Style) (fold : Fold) (white text : List ℕ) → 0 < length text → is_gap text ≡ false
    → sign_of lines style (is_apart fold white) text ≡ Joins
    → scalar lines style 0 fold white text ≡ behind (gap_text fold white) (scalar lines style 0 (Joined 0) [] (drop 2 text))
at_joins lines style fold white [] some solid e = absurd (grind (arith, some))
at_joins lines style fold white (c ∷ cs) some solid e =
    at_sign lines style fold white (c ∷ cs) Joins some solid e ∙ ap (behind (gap_text fold white)) (passing lines style 1 (Joined 0) [] cs)

drop_next : (n c : ℕ) (cs : List ℕ) → drop n cs ≡ drop (n + 1) (c ∷ cs)
drop_next n c cs = let one : n + 1 ≡ suc n = omega arith in sym (ap (λ k. drop k (c ∷ cs)) one)

pub at_means : (lines : Bool) (style : Style) (fold : Fold) (white text : List ℕ) (x n : ℕ) → 0 < length text → is_gap text ≡ false
    → sign_of lines style (is_apart fold white) text ≡ Means x n
    → scalar lines style 0 fold white text ≡ behind (gap_text fold white ++ encode_utf8 x) (scalar lines style 0 Inside [] (drop (n + 1) text))
at_means lines style fold white [] x n some solid e = absurd (grind (arith, some))
at_means lines style fold white (c ∷ cs) x n some solid e =
    at_sign lines style fold white (c ∷ cs) (Means x n) some solid e
    ∙ ap (behind (gap_text fold white ++ encode_utf8 x)) (passing lines style n Inside [] cs ∙ ap (scalar lines style 0 Inside []) (drop_next n c cs))

-- a part is added
pub added : (old new part : List ℕ) (whole rest : Scalar) → whole ≡ behind part rest → new ≡ old ++ part → behind old whole ≡ behind new rest
added old new part whole rest is grown = ap (behind old) is ∙ behind_behind old part rest ∙ ap (λ t. behind t rest) (sym grown)

pub added_two : (old mid new a b : List ℕ) (whole rest : Scalar) → whole ≡ behind (a ++ b) rest → mid ≡ old ++ a → new ≡ mid ++ b → behind old whole ≡ behind new rest
added_two old mid new a b whole rest is first second =
    added old new (a ++ b) whole rest is (second ∙ ap (λ t. t ++ b) first ∙ append_assoc old a b)

-- no white space stands here
abbrev IsSolid : List ℕ → Type 0
IsSolid [] = ⊤
IsSolid (c ∷ cs) = is_white c ≡ false

-- white space doesn't follow the white space at the front
solid_first : (c : ℕ) (cs : List ℕ) (b : Bool) → is_white c ≡ b → IsSolid (skip true cs) → IsSolid (drop (cond b (1 + blanks true cs) 0) (c ∷ cs))
solid_first c cs true is more = subst IsSolid (sym (drop_one (blanks true cs) c cs)) more
solid_first c cs false is more = is

pub first_solid : (text : List ℕ) → IsSolid (skip true text)
first_solid [] = tt
first_solid (c ∷ cs) = solid_first c cs (is_white c) refl (first_solid cs)

solid_if : (lines : Bool) (text : List ℕ) → begins_with 10 text ≡ false → stops lines text ≡ false → IsSolid text → is_gap text ≡ false
solid_if lines [] feed some solid = absurd (grind (arith, some))
solid_if lines (c ∷ cs) feed some solid = rw (solid, feed) refl

pub skip_solid : (lines : Bool) (text : List ℕ) → begins_with 10 (skip true text) ≡ false → stops lines (skip true text) ≡ false → is_gap (skip true text) ≡ false
skip_solid lines text feed some = solid_if lines (skip true text) feed some (first_solid text)

pub some_left : (lines : Bool) (text : List ℕ) → stops lines text ≡ false → 0 < length text
some_left lines [] some = absurd (grind (arith, some))
some_left lines (c ∷ cs) some = grind arith

-- the sign that begins a text
pub begins_some : (sign : ℕ) (text : List ℕ) → begins_with sign text ≡ true → 0 < length text
begins_some sign [] e = absurd (grind (arith, e))
begins_some sign (c ∷ cs) e = grind arith

pub begins_is : (sign : ℕ) (text : List ℕ) → begins_with sign text ≡ true → get_or text 0 0 ≡ sign
begins_is sign [] e = absurd (grind (arith, e))
begins_is sign (c ∷ cs) e = grind (arith, e)
