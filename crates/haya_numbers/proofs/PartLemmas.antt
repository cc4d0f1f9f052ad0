-- The parts of a list of pages up to a place.
use Rattle.std.proofs.Common.{◌≡◌, ℕ, ◌+◌, ◌<◌, ◌↔◌, Bool, true, false, not, IsTrue, cond, List, [], ◌∷◌, ◌++◌, length, get_or, map, take, drop, refl, ap, sym, ◌∙◌, append_assoc, Option, None, Some, is_some}
use Rattle.std.proofs.lemmas.List.{length-append, map-append, take_more, take-append-drop}
use Rattle.std.proofs.lemmas.List.Elements.{filter_map-append}
use Rattle.std.specs.List.{cons_option, filter_map}
use Rattle.std.specs.Prelude.{option_map, slice_get}
use Rattle.haya_numbers.specs.Numeric.{NumericView}
use Rattle.haya_text.proofs.Tells.{Same}
use Rattle.haya_numbers.specs.Pages.{PartView, HasTwoEnds, part_end, part_start, part_view}
use Rattle.haya_numbers.specs.declared.page.PageRangesPart.{PageRangesPart}

-- one part more
pub parts_more : (xs : List PageRangesPart) (i : ℕ) (x : PageRangesPart) → i < length xs → x ≡ get_or xs i x → map part_view (take (i + 1) xs) ≡ map part_view (take i xs) ++ part_view x ∷ []
parts_more xs i x lt is =
    ap (map part_view) (take_more xs i x lt) ∙ map-append part_view (take i xs) (get_or xs i x ∷ []) ∙ ap (λ y. map part_view (take i xs) ++ part_view y ∷ []) (sym is)

pub starts_more : (xs : List PageRangesPart) (i : ℕ) (x : PageRangesPart) → i < length xs → x ≡ get_or xs i x → filter_map part_start (map part_view (take (i + 1) xs)) ≡ filter_map part_start (map part_view (take i xs)) ++ cons_option (part_start (part_view x)) []
starts_more xs i x lt is =
    ap (filter_map part_start) (parts_more xs i x lt is) ∙ filter_map-append part_start (map part_view (take i xs)) (part_view x ∷ [])

-- all parts, round one of them
pub parts_at : (xs : List PageRangesPart) (i : ℕ) (x : PageRangesPart) → i < length xs → x ≡ get_or xs i x → map part_view xs ≡ map part_view (take i xs) ++ part_view x ∷ map part_view (drop (i + 1) xs)
parts_at xs i x lt is =
    ap (map part_view) (sym (take-append-drop (i + 1) xs)) ∙ map-append part_view (take (i + 1) xs) (drop (i + 1) xs) ∙ ap (λ l. l ++ map part_view (drop (i + 1) xs)) (parts_more xs i x lt is)
    ∙ append_assoc (map part_view (take i xs)) (part_view x ∷ []) (map part_view (drop (i + 1) xs))

-- the first start
first_of : (o : Option NumericView) (rest : List NumericView) → is_some o ≡ true → o ≡ slice_get (cons_option o rest) 0
first_of None rest h = cc
first_of (Some v) rest h = refl

pub starts_first : (xs : List PageRangesPart) (i : ℕ) (x : PageRangesPart) → i < length xs → x ≡ get_or xs i x → filter_map part_start (map part_view (take i xs)) ≡ [] → is_some (part_start (part_view x)) ≡ true → part_start (part_view x) ≡ slice_get (filter_map part_start (map part_view xs)) 0
starts_first xs i x lt is none some =
    first_of (part_start (part_view x)) (filter_map part_start (map part_view (drop (i + 1) xs))) some
    ∙ ap (λ l. slice_get l 0)
    (sym (ap (filter_map part_start) (parts_at xs i x lt is) ∙ filter_map-append part_start (map part_view (take i xs)) (part_view x ∷ map part_view (drop (i + 1) xs)) ∙ ap (λ l. l ++ cons_option (part_start (part_view x)) (filter_map part_start (map part_view (drop (i + 1) xs)))) none))

-- whether there is a start
pub is_some-start : {A : Type 0} (f : A → NumericView) (o : Option A) (s : Option NumericView) → option_map f o ≡ s → is_some s ≡ is_some o
is_some-start f None s e = rw (← e) refl
is_some-start f (Some a) s e = rw (← e) refl

none_of : (o : Option NumericView) → is_some o ≡ false → cons_option o [] ≡ []
none_of None h = refl
none_of (Some v) h = cc

pub starts_none : (xs : List PageRangesPart) (i : ℕ) (x : PageRangesPart) → i < length xs → x ≡ get_or xs i x → filter_map part_start (map part_view (take i xs)) ≡ [] → is_some (part_start (part_view x)) ≡ false → filter_map part_start (map part_view (take (i + 1) xs)) ≡ []
starts_none xs i x lt is none no_start = starts_more xs i x lt is ∙ ap (λ l. l ++ cons_option (part_start (part_view x)) []) none ∙ none_of (part_start (part_view x)) no_start

-- a range whose ends are told apart
pub two_ends : (p : PartView) (start end : NumericView) (test other : Bool) → Some start ≡ part_start p → Some end ≡ part_end p → other ≡ not test → Same test start end → IsTrue other ↔ HasTwoEnds p
two_ends p start end true other s e o same = rw (← s, ← e) (λ h. cc, λ apart. absurd (apart (ap (λ v. Some v) (same.0 refl))))
two_ends p start end false other s e o same = rw (← s, ← e) (λ _. λ h. let both : start ≡ end = cc in let t = same.1 both in cc, λ _. o)

-- how many starts there are
counted : (o : Option NumericView) → length (cons_option o []) ≡ cond (is_some o) 1 0
counted None = refl
counted (Some v) = refl

pub length-starts_more : (xs : List PageRangesPart) (i : ℕ) (x : PageRangesPart) → i < length xs → x ≡ get_or xs i x → length (filter_map part_start (map part_view (take (i + 1) xs))) ≡ length (filter_map part_start (map part_view (take i xs))) + cond (is_some (part_start (part_view x))) 1 0
length-starts_more xs i x lt is =
    ap length (starts_more xs i x lt is) ∙ length-append (filter_map part_start (map part_view (take i xs))) (cons_option (part_start (part_view x)) []) ∙ ap (λ n. length (filter_map part_start (map part_view (take i xs))) + n) (counted (part_start (part_view x)))
