-- How deep lines are, and which belong to an entry for that.
use Rattle.std.proofs.Common.{◌≡◌, ℕ, zero, suc, ◌+◌, ◌-◌, ◌<◌, ◌≤◌, ◌==◌, ◌&&◌, ◌||◌, not, List, [], ◌∷◌, ◌++◌, map, length, take, drop, set, get_or, Bool, true, false, if◌then◌else◌, Option, Some, None, refl, sym, ap, ◌∙◌, append_assoc, take-add, drop-drop, arith}
use Rattle.std.specs.Borrow.{Bor}
use Rattle.std.specs.Prelude.{nat_lt}
use Rattle.std.proofs.lemmas.List.{drop_more, length-map, map-append, take_more}
use Rattle.haya_yaml.specs.Line.{Lines, begins_letter, belongs, indent, is_closer, is_dash_at, is_skipped, rest_of, texts}
use Rattle.haya_yaml.specs.Block.{cut}
use Rattle.haya_yaml.specs.Spans.{are_as_deep, are_spans, depth_of, have_spans, is_as_deep, is_depth_of, is_inside}
use Rattle.haya_yaml.specs.declared.spans.Span.{Span}
use Rattle.haya_yaml.proofs.Cuts.{cut_own, with_front}
use Rattle.haya_yaml.proofs.Letters.{letter_line}
use Rattle.haya_yaml.proofs.Options.{both}

and_true : (a b : Bool) → a ≡ true → b ≡ true → (a && b) ≡ true
and_true true b is more = more
and_true false b is more = absurd (grind (arith, is))

-- ---- how deep a line is

abbrev depth_if : Bool → ℕ → Option ℕ
depth_if free n = if free then None else Some n

abbrev is_depth_if : Option ℕ → Bool → ℕ → Bool
is_depth_if None free n = free
is_depth_if (Some m) free n = not free && (n == m)

depth_known : (depth : Option ℕ) (free : Bool) (n : ℕ) → is_depth_if depth free n ≡ true → depth ≡ depth_if free n
depth_known None true n is = refl
depth_known None false n is = absurd (grind (arith, is))
depth_known (Some m) true n is = absurd (grind (arith, is))
depth_known (Some m) false n is = let same : m ≡ n = grind (arith, is) in ap Some same

pub depth_is : (depth : Option ℕ) (line : List ℕ) → is_depth_of depth line ≡ true → depth ≡ depth_of line
depth_is None line is = depth_known None (is_skipped line || is_closer line) (indent line) is
depth_is (Some n) line is = depth_known (Some n) (is_skipped line || is_closer line) (indent line) is

depth_held : (free : Bool) (n : ℕ) → is_depth_if (depth_if free n) free n ≡ true
depth_held true n = refl
depth_held false n = grind arith

depth_kept : (depth : Option ℕ) (line : List ℕ) → is_depth_if depth (is_skipped line || is_closer line) (indent line) ≡ is_depth_of depth line
depth_kept None line = refl
depth_kept (Some n) line = refl

pub depth_here : (depth : Option ℕ) (line : List ℕ) → depth ≡ depth_of line → is_depth_of depth line ≡ true
depth_here depth line is =
    let free = is_skipped line || is_closer line in
    sym (depth_kept depth line) ∙ ap (λ d. is_depth_if d free (indent line)) is ∙ depth_held free (indent line)

dash_less : (skipped closer deeper : Bool) → (skipped || closer || deeper || false) ≡ false → (skipped || closer || deeper) ≡ false
dash_less true closer deeper e = e
dash_less false true deeper e = e
dash_less false false true e = e
dash_less false false false e = refl

letter_if : (skipped closer more : Bool) (n : ℕ) → (skipped || closer || more) ≡ false → depth_if (skipped || closer) n ≡ Some n
letter_if true closer more n e = absurd (grind (arith, e))
letter_if false true more n e = absurd (grind (arith, e))
letter_if false false more n e = refl

-- a line that begins with a small letter
pub letter_depth : (line : List ℕ) → begins_letter (rest_of line) ≡ true → depth_of line ≡ Some (indent line)
letter_depth line letter =
    letter_if (is_skipped line) (is_closer line) (nat_lt (indent line) (indent line)) (indent line)
    (dash_less (is_skipped line) (is_closer line) (nat_lt (indent line) (indent line)) (letter_line false (indent line) line letter (omega arith)))

-- ---- lines as deep as one

same_deep : (depth : Option ℕ) → is_as_deep depth depth ≡ true
same_deep None = refl
same_deep (Some n) = grind arith

as_deep_too : (a b c : Option ℕ) → is_as_deep a b ≡ true → is_as_deep b c ≡ true → is_as_deep a c ≡ true
as_deep_too a b None first second = refl
as_deep_too a None (Some n) first second = absurd (grind (arith, second))
as_deep_too None (Some m) (Some n) first second = absurd (grind (arith, first))
as_deep_too (Some k) (Some m) (Some n) first second = grind (arith, first, second)

all_as_deep : (a b : Option ℕ) (n : ℕ) (lines : Lines) → is_as_deep a b ≡ true → are_as_deep b n lines ≡ true → are_as_deep a n lines ≡ true
all_as_deep a b zero lines first all = refl
all_as_deep a b (suc n) [] first all = refl
all_as_deep a b (suc n) (line ∷ lines) first all =
    let parts = both (is_as_deep b (depth_of line)) (are_as_deep b n lines) all in
    and_true (is_as_deep a (depth_of line)) (are_as_deep a n lines) (as_deep_too a b (depth_of line) first parts.0) (all_as_deep a b n lines first parts.1)

pub fewer : (depth : Option ℕ) (m n : ℕ) (lines : Lines) → m ≤ n → are_as_deep depth n lines ≡ true → are_as_deep depth m lines ≡ true
fewer depth zero n lines less all = refl
fewer depth (suc m) n [] less all = refl
fewer depth (suc m) zero (line ∷ lines) less all = absurd (omega (arith, less))
fewer depth (suc m) (suc n) (line ∷ lines) less all =
    let parts = both (is_as_deep depth (depth_of line)) (are_as_deep depth n lines) all in
    and_true (is_as_deep depth (depth_of line)) (are_as_deep depth m lines) parts.0 (fewer depth m n lines (omega (arith, less)) parts.1)

longer : (depth : Option ℕ) (k m : ℕ) (lines : Lines) → are_as_deep depth k lines ≡ true → are_as_deep depth m (drop k lines) ≡ true → are_as_deep depth (k + m) lines ≡ true
longer depth zero m lines first second = let none : 0 + m ≡ m = omega arith in ap (λ n. are_as_deep depth n lines) none ∙ second
longer depth (suc k) m [] first second = let next : suc k + m ≡ suc (k + m) = omega arith in ap (λ n. are_as_deep depth n []) next
longer depth (suc k) m (line ∷ lines) first second =
    let next : suc k + m ≡ suc (k + m) = omega arith in
    let parts = both (is_as_deep depth (depth_of line)) (are_as_deep depth k lines) first in
    ap (λ n. are_as_deep depth n (line ∷ lines)) next
    ∙ and_true (is_as_deep depth (depth_of line)) (are_as_deep depth (k + m) lines) parts.0 (longer depth k m lines parts.1 second)

fewer_lines : (depth : Option ℕ) (m n : ℕ) (lines : Lines) → are_as_deep depth m lines ≡ true → are_as_deep depth m (take n lines) ≡ true
fewer_lines depth zero n lines all = refl
fewer_lines depth (suc m) zero lines all = refl
fewer_lines depth (suc m) (suc n) [] all = refl
fewer_lines depth (suc m) (suc n) (line ∷ lines) all =
    let parts = both (is_as_deep depth (depth_of line)) (are_as_deep depth m lines) all in
    and_true (is_as_deep depth (depth_of line)) (are_as_deep depth m (take n lines)) parts.0 (fewer_lines depth m n lines parts.1)

-- ---- lines with their spans

pub spans_length : (spans : List Span) (lines : Lines) → are_spans spans lines ≡ true → length spans ≡ length lines
spans_length [] [] is = refl
spans_length [] (line ∷ lines) is = absurd (grind (arith, is))
spans_length (s ∷ ss) [] is = absurd (grind (arith, is))
spans_length (s ∷ ss) (line ∷ lines) is =
    let parts = both (is_depth_of s.depth line) (are_as_deep s.depth s.more lines && are_spans ss lines) is in
    ap suc (spans_length ss lines (both (are_as_deep s.depth s.more lines) (are_spans ss lines) parts.1).1)

-- what a line's span says
pub span_at : (spans : List Span) (lines : Lines) (n : ℕ) (none : Span) (empty : List ℕ) → are_spans spans lines ≡ true → n < length spans
    → (is_depth_of (get_or spans n none).depth (get_or lines n empty) ≡ true) × (are_as_deep (get_or spans n none).depth (get_or spans n none).more (drop (suc n) lines) ≡ true)
span_at [] lines n none empty is within = absurd (omega (arith, within))
span_at (s ∷ ss) [] n none empty is within = absurd (grind (arith, is))
span_at (s ∷ ss) (line ∷ lines) zero none empty is within =
    let parts = both (is_depth_of s.depth line) (are_as_deep s.depth s.more lines && are_spans ss lines) is in
    (parts.0, (both (are_as_deep s.depth s.more lines) (are_spans ss lines) parts.1).0)
span_at (s ∷ ss) (line ∷ lines) (suc n) none empty is within =
    let parts = both (is_depth_of s.depth line) (are_as_deep s.depth s.more lines && are_spans ss lines) is in
    span_at ss lines n none empty (both (are_as_deep s.depth s.more lines) (are_spans ss lines) parts.1).1 (omega (arith, within))

take_spans : (n : ℕ) (spans : List Span) (lines : Lines) → are_spans spans lines ≡ true → are_spans (take n spans) (take n lines) ≡ true
take_spans zero spans lines is = refl
take_spans (suc n) [] [] is = refl
take_spans (suc n) [] (line ∷ lines) is = absurd (grind (arith, is))
take_spans (suc n) (s ∷ ss) [] is = absurd (grind (arith, is))
take_spans (suc n) (s ∷ ss) (line ∷ lines) is =
    let parts = both (is_depth_of s.depth line) (are_as_deep s.depth s.more lines && are_spans ss lines) is in
    let more = both (are_as_deep s.depth s.more lines) (are_spans ss lines) parts.1 in
    and_true (is_depth_of s.depth line) (are_as_deep s.depth s.more (take n lines) && are_spans (take n ss) (take n lines)) parts.0
    (and_true (are_as_deep s.depth s.more (take n lines)) (are_spans (take n ss) (take n lines)) (fewer_lines s.depth s.more n lines more.0) (take_spans n ss lines more.1))

drop_spans : (n : ℕ) (spans : List Span) (lines : Lines) → are_spans spans lines ≡ true → are_spans (drop n spans) (drop n lines) ≡ true
drop_spans zero spans lines is = is
drop_spans (suc n) [] [] is = refl
drop_spans (suc n) [] (line ∷ lines) is = absurd (grind (arith, is))
drop_spans (suc n) (s ∷ ss) [] is = absurd (grind (arith, is))
drop_spans (suc n) (s ∷ ss) (line ∷ lines) is =
    let parts = both (is_depth_of s.depth line) (are_as_deep s.depth s.more lines && are_spans ss lines) is in
    drop_spans n ss lines (both (are_as_deep s.depth s.more lines) (are_spans ss lines) parts.1).1

set_span : (spans : List Span) (lines : Lines) (n m : ℕ) (none : Span) → are_spans spans lines ≡ true → n < length spans
    → are_as_deep (get_or spans n none).depth m (drop (suc n) lines) ≡ true
    → are_spans (set spans n (record { depth = (get_or spans n none).depth; more = m })) lines ≡ true
set_span [] lines n m none is within all = absurd (omega (arith, within))
set_span (s ∷ ss) [] n m none is within all = absurd (grind (arith, is))
set_span (s ∷ ss) (line ∷ lines) zero m none is within all =
    let parts = both (is_depth_of s.depth line) (are_as_deep s.depth s.more lines && are_spans ss lines) is in
    let more = both (are_as_deep s.depth s.more lines) (are_spans ss lines) parts.1 in
    and_true (is_depth_of s.depth line) (are_as_deep s.depth m lines && are_spans ss lines) parts.0 (and_true (are_as_deep s.depth m lines) (are_spans ss lines) all more.1)
set_span (s ∷ ss) (line ∷ lines) (suc n) m none is within all =
    let parts = both (is_depth_of s.depth line) (are_as_deep s.depth s.more lines && are_spans ss lines) is in
    let more = both (are_as_deep s.depth s.more lines) (are_spans ss lines) parts.1 in
    let rest = are_spans (set ss n (record { depth = (get_or ss n none).depth; more = m })) lines in
    and_true (is_depth_of s.depth line) (are_as_deep s.depth s.more lines && rest) parts.0
    (and_true (are_as_deep s.depth s.more lines) rest more.0 (set_span ss lines n m none more.1 (omega (arith, within)) all))

-- the spans of lines that are known alone
abbrev pub fresh : List ℕ → Span
fresh line = record { depth = depth_of line; more = 0 }

pub fresh_spans : (lines : Lines) → are_spans (map fresh lines) lines ≡ true
fresh_spans [] = refl
fresh_spans (line ∷ lines) =
    and_true (is_depth_of (depth_of line) line) (true && are_spans (map fresh lines) lines) (depth_here (depth_of line) line refl) (fresh_spans lines)

-- one more line
pub fresh_more : (ls : List (Bor (List ℕ))) (n : ℕ) (d : Bor (List ℕ)) → n < length ls
    → map fresh (texts (take (n + 1) ls)) ≡ map fresh (texts (take n ls)) ++ fresh (get_or ls n d).now ∷ []
fresh_more ls n d within =
    ap (λ xs. map fresh (texts xs)) (take_more ls n d within) ∙ ap (map fresh) (map-append (λ t. t.now) (take n ls) (get_or ls n d ∷ []))
    ∙ map-append fresh (texts (take n ls)) ((get_or ls n d).now ∷ [])

-- ---- the same of texts that are lent

pub texts_take : (n : ℕ) (ls : List (Bor (List ℕ))) → texts (take n ls) ≡ take n (texts ls)
texts_take zero ls = refl
texts_take (suc n) [] = refl
texts_take (suc n) (x ∷ xs) = ap (λ ts. x.now ∷ ts) (texts_take n xs)

pub texts_drop : (n : ℕ) (ls : List (Bor (List ℕ))) → texts (drop n ls) ≡ drop n (texts ls)
texts_drop zero ls = refl
texts_drop (suc n) [] = refl
texts_drop (suc n) (x ∷ xs) = texts_drop n xs

text_at : (ls : List (Bor (List ℕ))) (n : ℕ) (d : Bor (List ℕ)) → get_or (texts ls) n d.now ≡ (get_or ls n d).now
text_at [] n d = refl
text_at (x ∷ xs) zero d = refl
text_at (x ∷ xs) (suc n) d = text_at xs n d

pub have_length : (spans : List Span) (ls : List (Bor (List ℕ))) → have_spans spans ls ≡ true → length spans ≡ length ls
have_length spans ls is = spans_length spans (texts ls) is ∙ length-map ls (λ t. t.now)

pub have_front : (n : ℕ) (spans front_spans : List Span) (ls front : List (Bor (List ℕ))) → have_spans spans ls ≡ true → front_spans ≡ take n spans → front ≡ take n ls
    → have_spans front_spans front ≡ true
have_front n spans front_spans ls front is first second =
    ap (λ ss. have_spans ss front) first ∙ ap (λ xs. have_spans (take n spans) xs) second ∙ ap (are_spans (take n spans)) (texts_take n ls) ∙ take_spans n spans (texts ls) is

pub have_back : (n : ℕ) (spans back_spans : List Span) (ls back : List (Bor (List ℕ))) → have_spans spans ls ≡ true → back_spans ≡ drop n spans → back ≡ drop n ls
    → have_spans back_spans back ≡ true
have_back n spans back_spans ls back is first second =
    ap (λ ss. have_spans ss back) first ∙ ap (λ xs. have_spans (drop n spans) xs) second ∙ ap (are_spans (drop n spans)) (texts_drop n ls) ∙ drop_spans n spans (texts ls) is

-- a line's depth and the lines behind it that are as deep, in the lines that are lent
depth_there : (spans : List Span) (ls : List (Bor (List ℕ))) (n : ℕ) (none : Span) (d : Bor (List ℕ)) → have_spans spans ls ≡ true → n < length spans
    → (get_or spans n none).depth ≡ depth_of (get_or ls n d).now
depth_there spans ls n none d is within =
    depth_is (get_or spans n none).depth (get_or (texts ls) n d.now) (span_at spans (texts ls) n none d.now is within).0 ∙ ap depth_of (text_at ls n d)

behind_there : (spans : List Span) (ls : List (Bor (List ℕ))) (n : ℕ) (none : Span) → have_spans spans ls ≡ true → n < length spans
    → are_as_deep (get_or spans n none).depth (get_or spans n none).more (texts (drop (n + 1) ls)) ≡ true
behind_there spans ls n none is within =
    let next : n + 1 ≡ suc n = omega arith in
    ap (λ k. are_as_deep (get_or spans n none).depth (get_or spans n none).more (texts (drop k ls))) next
    ∙ ap (are_as_deep (get_or spans n none).depth (get_or spans n none).more) (texts_drop (suc n) ls) ∙ (span_at spans (texts ls) n none [] is within).1

-- a line as deep as another, and those that are as deep behind it
pub from_there : (depth : Option ℕ) (spans : List Span) (ls : List (Bor (List ℕ))) (n : ℕ) (none : Span) (d : Bor (List ℕ)) → have_spans spans ls ≡ true → n < length spans
    → is_as_deep depth (get_or spans n none).depth ≡ true → are_as_deep depth (suc (get_or spans n none).more) (texts (drop n ls)) ≡ true
from_there depth spans ls n none d is within deep =
    let s = get_or spans n none in
    let inside : n < length ls = omega (arith, within, have_length spans ls is) in
    let first : is_as_deep depth (depth_of (get_or ls n d).now) ≡ true = ap (is_as_deep depth) (sym (depth_there spans ls n none d is within)) ∙ deep in
    ap (λ xs. are_as_deep depth (suc s.more) (texts xs)) (drop_more ls n d inside)
    ∙ and_true (is_as_deep depth (depth_of (get_or ls n d).now)) (are_as_deep depth s.more (texts (drop (n + 1) ls))) first
    (all_as_deep depth s.depth s.more (texts (drop (n + 1) ls)) deep (behind_there spans ls n none is within))

-- lines that are passed: those up to one, that one, and some of those behind it
pub passed : (depth : Option ℕ) (spans : List Span) (ls : List (Bor (List ℕ))) (from at to : ℕ) (none : Span) (d : Bor (List ℕ)) → have_spans spans ls ≡ true → at < length spans
    → from ≤ at → at ≤ to → to ≤ at + (get_or spans at none).more + 1 → is_as_deep depth (get_or spans at none).depth ≡ true
    → are_as_deep depth (at - from) (texts (drop from ls)) ≡ true → are_as_deep depth (to - from) (texts (drop from ls)) ≡ true
passed depth spans ls from at to none d is within low high last deep so_far =
    let s = get_or spans at none in
    let back : from + (at - from) ≡ at = omega (arith, low) in
    let same : drop (at - from) (texts (drop from ls)) ≡ texts (drop at ls) =
    sym (texts_drop (at - from) (drop from ls)) ∙ ap texts (drop-drop (at - from) from ls ∙ ap (λ k. drop k ls) back) in
    let all = longer depth (at - from) (suc s.more) (texts (drop from ls)) so_far (ap (are_as_deep depth (suc s.more)) same ∙ from_there depth spans ls at none d is within deep) in
    fewer depth (to - from) (at - from + suc s.more) (texts (drop from ls)) (omega (arith, low, high, last)) all

-- a line's span with another number of lines
pub set_more : (spans : List Span) (ls : List (Bor (List ℕ))) (n m : ℕ) (none : Span) → have_spans spans ls ≡ true → n < length spans
    → are_as_deep (get_or spans n none).depth m (texts (drop (n + 1) ls)) ≡ true
    → have_spans (set spans n (record { depth = (get_or spans n none).depth; more = m })) ls ≡ true
set_more spans ls n m none is within all =
    let next : n + 1 ≡ suc n = omega arith in
    set_span spans (texts ls) n m none is within
    (sym (ap (λ k. are_as_deep (get_or spans n none).depth m (texts (drop k ls))) next ∙ ap (are_as_deep (get_or spans n none).depth m) (texts_drop (suc n) ls)) ∙ all)

-- ---- lines that belong to an entry

own_if : (skipped closer dash : Bool) (column n : ℕ) → is_inside column (depth_if (skipped || closer) n) ≡ true → (skipped || closer || nat_lt column n || dash) ≡ true
own_if true closer dash column n inside = refl
own_if false true dash column n inside = refl
own_if false false dash column n inside = ap (λ b. b || dash) inside

other_if : (skipped closer dash : Bool) (column n : ℕ) → is_inside column (depth_if (skipped || closer) n) ≡ false → (skipped || closer || nat_lt column n || dash) ≡ dash
other_if true closer dash column n outside = absurd (grind (arith, outside))
other_if false true dash column n outside = absurd (grind (arith, outside))
other_if false false dash column n outside = ap (λ b. b || dash) outside

own_inside : (dashes : Bool) (column : ℕ) (line : List ℕ) → is_inside column (depth_of line) ≡ true → belongs dashes column line ≡ true
own_inside dashes column line inside = own_if (is_skipped line) (is_closer line) (dashes && is_dash_at column line) column (indent line) inside

other_outside : (dashes : Bool) (column : ℕ) (line : List ℕ) → is_inside column (depth_of line) ≡ false → belongs dashes column line ≡ (dashes && is_dash_at column line)
other_outside dashes column line outside = other_if (is_skipped line) (is_closer line) (dashes && is_dash_at column line) column (indent line) outside

-- what is as deep as a line that belongs to an entry belongs to it
inside_too : (column : ℕ) (a b : Option ℕ) → is_inside column a ≡ true → is_as_deep a b ≡ true → is_inside column b ≡ true
inside_too column a None inside deep = refl
inside_too column None (Some n) inside deep = absurd (grind (arith, deep))
inside_too column (Some m) (Some n) inside deep = grind (arith, inside, deep)

cut_run : (map dashes : Bool) (column : ℕ) (depth : Option ℕ) (n : ℕ) (lines : Lines) → is_inside column depth ≡ true → are_as_deep depth n lines ≡ true
    → cut map dashes column lines ≡ with_front (take n lines) (cut map dashes column (drop n lines))
cut_run map dashes column depth zero lines inside all = refl
cut_run map dashes column depth (suc n) [] inside all = refl
cut_run map dashes column depth (suc n) (line ∷ lines) inside all =
    let parts = both (is_as_deep depth (depth_of line)) (are_as_deep depth n lines) all in
    cut_own map dashes column line lines (own_inside dashes column line (inside_too column depth (depth_of line) inside parts.0))
    ∙ ap (with_front (line ∷ [])) (cut_run map dashes column depth n lines inside parts.1)

-- a line that isn't deep enough belongs to the entry only as a dash
pub own_dash : (dashes : Bool) (column : ℕ) (spans : List Span) (ls : List (Bor (List ℕ))) (n : ℕ) (none : Span) (d : Bor (List ℕ)) → have_spans spans ls ≡ true → n < length spans
    → is_inside column (get_or spans n none).depth ≡ false → belongs dashes column (get_or ls n d).now ≡ (dashes && is_dash_at column (get_or ls n d).now)
own_dash dashes column spans ls n none d is within outside =
    other_outside dashes column (get_or ls n d).now (ap (is_inside column) (sym (depth_there spans ls n none d is within)) ∙ outside)

-- one that is belongs to it, and so do the lines behind it that are as deep
pub own_run : (map dashes : Bool) (column : ℕ) (spans : List Span) (ls : List (Bor (List ℕ))) (n to : ℕ) (none : Span) (d : Bor (List ℕ)) → have_spans spans ls ≡ true → n < length spans
    → n ≤ to → to ≤ n + (get_or spans n none).more + 1 → is_inside column (get_or spans n none).depth ≡ true
    → cut map dashes column (texts ls) ≡ with_front (texts (take n ls)) (cut map dashes column (texts (drop n ls)))
    → cut map dashes column (texts ls) ≡ with_front (texts (take to ls)) (cut map dashes column (texts (drop to ls)))
own_run map dashes column spans ls n to none d is within low high inside so_far =
    let s = get_or spans n none in
    let k = to - n in
    let all = fewer s.depth k (suc s.more) (texts (drop n ls)) (omega (arith, low, high)) (from_there s.depth spans ls n none d is within (same_deep s.depth)) in
    let run = cut_run map dashes column s.depth k (texts (drop n ls)) inside all in
    let up : n + k ≡ to = omega (arith, low) in
    let front : take k (texts (drop n ls)) ≡ texts (take k (drop n ls)) = sym (texts_take k (drop n ls)) in
    let back : drop k (texts (drop n ls)) ≡ texts (drop to ls) = sym (texts_drop k (drop n ls)) ∙ ap texts (drop-drop k n ls ∙ ap (λ i. drop i ls) up) in
    let rest = cut map dashes column (texts (drop to ls)) in
    let longer_front : texts (take n ls) ++ texts (take k (drop n ls)) ≡ texts (take to ls) =
    sym (map-append (λ t. t.now) (take n ls) (take k (drop n ls))) ∙ ap texts (sym (take-add n k ls) ∙ ap (λ i. take i ls) up) in
    so_far ∙ ap (with_front (texts (take n ls))) (run ∙ ap (λ ts. with_front ts (cut map dashes column (drop k (texts (drop n ls))))) front ∙ ap (λ ts. with_front (texts (take k (drop n ls))) (cut map dashes column ts)) back)
    ∙ ap (λ ts. record { front = ts; entries = rest.entries }) (sym (append_assoc (texts (take n ls)) (texts (take k (drop n ls))) rest.front))
    ∙ ap (λ ts. with_front ts rest) longer_front
