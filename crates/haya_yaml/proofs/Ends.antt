-- The lines between line feeds.
use Rattle.std.proofs.Common.{◌≡◌, ℕ, zero, suc, ◌+◌, ◌<◌, ◌≤◌, Bool, true, false, not, cond, eqb, ◌==◌, List, [], ◌∷◌, map, length, length-drop, take, drop, get_or, take_all, refl, sym, ap, ◌∙◌, arith}
use Rattle.std.proofs.lemmas.Simd.{length-chunk, first_set_mask_l}
use Rattle.std.proofs.lemmas.List.Splits.{slice_split_none, slice_split_first, length-slice_split}
use Rattle.std.proofs.lemmas.List.{drop_more}
use Rattle.std.proofs.lemmas.List.Sums.{fails_before_first, passes_at_first, prefix_len-le-length}
use Rattle.std.proofs.lemmas.Str.{IsCharBoundary-before_ascii, IsCharBoundary-end}
use Rattle.std.specs.Prelude.{nat_lt}
use Rattle.std.specs.Str.{IsCharBoundary}
use Rattle.std.specs.List.{prefix_len, position_or_len, slice_split}
use Rattle.std.specs.Str.Lines.{lines, lines_of_parts, strip_carriage_return}
use lib.Lanes.{mask_l}
use lib.Count.{count_trailing_zeros}
use Rattle.haya_yaml.specs.Documents.{ended}
use Rattle.haya_yaml.specs.Line.{is_feed}

abbrev before : List ℕ → ℕ
before d = position_or_len is_feed d

abbrev inside : ℕ → Bool
inside c = not (is_feed c)

step : (c : ℕ) (cs : List ℕ) (k : ℕ) (b : Bool) → is_feed c ≡ b → before cs ≡ k + before (drop k cs)
    → before (c ∷ cs) ≡ cond (not b) (1 + k) 0 + before (drop (cond (not b) (1 + k) 0) (c ∷ cs))
step c cs k true e same = omega arith
step c cs k false e same =
    let one : 1 + k ≡ suc k = omega arith in
    let more : before (c ∷ cs) ≡ 1 + before cs = ap (λ b. cond (not b) (1 + before cs) 0) e in
    let back : before (drop (1 + k) (c ∷ cs)) ≡ before (drop k cs) = ap (λ n. before (drop n (c ∷ cs))) one in
    omega (arith, more, same, back)

ahead : (n : ℕ) (d : List ℕ) → before d ≡ prefix_len inside (take n d) + before (drop (prefix_len inside (take n d)) d)
ahead zero d = omega arith
ahead (suc n) [] = omega arith
ahead (suc n) (c ∷ cs) = step c cs (prefix_len inside (take n cs)) (is_feed c) refl (ahead n cs)

-- the bytes before the first line feed of the lanes
pub before_mark : (d : List ℕ) (m r : ℕ) → 32 ≤ length d → m ≡ mask_l (map is_feed (take 32 d)) → r ≡ cond (eqb m 0) 32 (count_trailing_zeros 64 m)
    → (r ≤ 32) × (before d ≡ r + before (drop r d))
before_mark d m r room marks first =
    let v = take 32 d in
    let long : length v ≡ 32 = length-chunk 0 32 d room in
    let counted : r ≡ prefix_len inside v = first ∙ ap (λ k. cond (eqb k 0) 32 (count_trailing_zeros 64 k)) marks ∙ first_set_mask_l is_feed v 32 long (omega arith) in
    (omega (arith, counted, long, prefix_len-le-length inside v), ahead 32 d ∙ sym (ap (λ k. k + before (drop k d)) counted))

feed_there : (w : List ℕ) → before w < length w → get_or w (before w) 0 ≡ 10
feed_there w within =
    let is : is_feed (get_or w (before w) 0) ≡ true = passes_at_first is_feed w 0 within in
    grind (arith, is)

cut_if : (w : List ℕ) (b : Bool) → nat_lt (before w) (length w) ≡ b → IsCharBoundary w (before w)
cut_if w true e =
    let within : before w < length w = grind (arith, e) in
    let feed = feed_there w within in
    IsCharBoundary-before_ascii w (before w) within (omega (arith, feed))
cut_if w false e =
    let least : length w ≤ before w = grind (arith, e) in
    let most = prefix_len-le-length inside w in
    let all : before w ≡ length w = omega (arith, least, most) in
    rw all (IsCharBoundary-end w)

-- a text may be cut before its first line feed
pub cut : (w : List ℕ) (n : ℕ) → n ≡ before w → IsCharBoundary w n
cut w n is = rw is (cut_if w (nat_lt (before w) (length w)) refl)

-- it isn't the last line
pub goes_on : (w rest : List ℕ) (n : ℕ) → n ≡ before w → rest ≡ drop n w → 0 < length rest → before w < length w
goes_on w rest n is back some =
    let left : length rest ≡ length (drop n w) = ap length back in
    omega (arith, is, left, some, length-drop n w)

-- and what is left begins with the line feed
pub feed_first : (w rest : List ℕ) (n : ℕ) → n ≡ before w → rest ≡ drop n w → 0 < length rest → get_or rest 0 0 ≡ 10
feed_first w rest n is back some =
    let within = goes_on w rest n is back some in
    ap (λ r. get_or r 0 0) (back ∙ ap (λ k. drop k w) is ∙ drop_more w (before w) 0 within) ∙ feed_there w within

parts_cons : (x : List ℕ) (parts : List (List ℕ)) → 0 < length parts → lines_of_parts (x ∷ parts) ≡ strip_carriage_return x ∷ lines_of_parts parts
parts_cons x [] l = absurd (omega arith)
parts_cons x (y ∷ more) l = refl

-- a line that a line feed ends
pub line_ended : (w line rest : List ℕ) → before w < length w → line ≡ ended (take (before w) w) → rest ≡ drop (before w + 1) w → lines w ≡ line ∷ lines rest
line_ended w line rest within first behind =
    ap lines_of_parts (slice_split_first is_feed w 0 within)
    ∙ parts_cons (take (before w) w) (slice_split is_feed (drop (before w + 1) w)) (omega (arith, length-slice_split is_feed (drop (before w + 1) w)))
    ∙ ap (λ l. l ∷ lines (drop (before w + 1) w)) (sym first) ∙ ap (λ r. line ∷ lines r) (sym behind)

only : (w : List ℕ) → 0 < length w → lines_of_parts (w ∷ []) ≡ w ∷ []
only w some =
    let filled : (length w == 0) ≡ false = grind (arith, some) in
    ap (λ b. cond b [] (w ∷ [])) filled

-- the last line, which ends where the text does
pub line_left : (w line rest : List ℕ) → 0 < length w → length w ≤ before w → line ≡ take (before w) w → rest ≡ [] → lines w ≡ line ∷ lines rest
line_left w line rest some all first behind =
    ap lines_of_parts (slice_split_none is_feed w (λ k d l. fails_before_first is_feed w k d (omega (arith, l, all)))) ∙ only w some
    ∙ ap (λ l. l ∷ []) (sym (first ∙ take_all (before w) w all)) ∙ ap (λ r. line ∷ lines r) (sym behind)
