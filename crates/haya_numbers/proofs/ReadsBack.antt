-- Pages that are printed, and read again.
use Rattle.std.proofs.Common.{◌≡◌, ℕ, zero, suc, ◌+◌, ◌^◌, ◌<◌, ◌≤◌, Bool, true, false, not, ◌&&◌, eqb, nat_lt, List, [], ◌∷◌, ◌++◌, map, drop, get_or, length, refl, ap, sym, subst, ◌∙◌, add-one, drop-cons, arith, lit<, Option, None, Some, Ok, pos, negsuc}
use Rattle.std.proofs.lemmas.Bool.Decides.{nat_tests}
use Rattle.std.proofs.lemmas.Fmt.{decimal_is_IsNumeral}
use Rattle.std.proofs.lemmas.List.{append-nil, length-append}
use Rattle.std.proofs.lemmas.List.Elements.{All-from_recursion}
use Rattle.std.proofs.lemmas.List.Splits.{slice_split_at, slice_split_none}
use Rattle.std.proofs.lemmas.Str.{chars-IsAscii}
use Rattle.std.proofs.lemmas.Str.Parse.{digit_from_value}
use Rattle.std.specs.Char.{is_whitespace}
use Rattle.std.specs.Fmt.{decimal}
use Rattle.std.specs.Int.{IsInRange}
use Rattle.std.specs.List.{AllByRecursion}
use Rattle.std.specs.Prelude.{slice_get, IfSome}
use Rattle.std.specs.Result.{result_map_both}
use Rattle.std.specs.Str.{IsAscii, chars, skip_leading_whitespace, drop_trailing_whitespace}
use Rattle.std.specs.Str.Parse.{AllDigits}
use Rattle.haya_text.proofs.Tells.{and-both}
use Rattle.haya_numbers.proofs.Digits.{number_front-signed, prefix-signed, skip-signed}
use Rattle.haya_numbers.proofs.PieceLemmas.{pieces-run, pieces-separator}
use Rattle.haya_numbers.proofs.ReadLemmas.{inner-cut}
use Rattle.haya_numbers.specs.Cuts.{dash_split, escaped_split, is_dash}
use Rattle.haya_numbers.specs.Numeric.{Single, SetOf, ValueView, without_affixes}
use Rattle.haya_numbers.specs.NumericReading.{read_from}
use Rattle.haya_numbers.specs.Pages.{PartView, Ampersand, Comma, EscapedRange, SinglePage, Range, page_of, part_view}
use Rattle.haya_numbers.specs.declared.page.PageRangesPart.{PageRangesPart}
use Rattle.haya_numbers.specs.PagesBack.{are_readable, fits, is_plain_number, is_plain_part, is_separator_part}
use Rattle.haya_numbers.specs.PagesPrinted.{shown_pages, shown_part}
use Rattle.haya_numbers.specs.PagesReading.{collect, cut_read, half_read, halves_read, inner_read, pages_read, part_read, trim_chars}
use Rattle.haya_numbers.specs.Pieces.{is_separator, pieces}

-- what is left of readable pages, where a page or a range is wanted next, or a separator
abbrev pub goes_on : Bool → List PartView → Bool
goes_on wants_page [] = not wants_page
goes_on wants_page (p ∷ ps) = fits wants_page p && goes_on (not wants_page) ps

and-true : (b : Bool) → (b && true) ≡ b
and-true true = refl
and-true false = refl

and-nested : (a b c : Bool) → (a && (b && c)) ≡ (a && b && c)
and-nested true b c = refl
and-nested false b c = refl

pub goes_on-readable : (ps : List PartView) → goes_on true ps ≡ are_readable ps
goes_on-readable [] = refl
goes_on-readable (p ∷ []) = and-true (is_plain_part p)
goes_on-readable (p ∷ s ∷ ps) =
    ap (λ b. is_plain_part p && (is_separator_part s && b)) (goes_on-readable ps) ∙ and-nested (is_plain_part p) (is_separator_part s) (are_readable ps)

-- one part more
pub goes_on-more : (wants_page : Bool) (xs : List PageRangesPart) (i : ℕ) (x : PageRangesPart) → i < length xs → x ≡ get_or xs i x → goes_on wants_page (map part_view (drop i xs)) ≡ (fits wants_page (part_view x) && goes_on (not wants_page) (map part_view (drop (i + 1) xs)))
goes_on-more wants_page xs i x lt is =
    ap (λ l. goes_on wants_page (map part_view l)) (drop-cons xs i x lt) ∙ ap (λ l. fits wants_page (part_view (get_or xs i x)) && goes_on (not wants_page) (map part_view l)) (ap (λ n. drop n xs) (sym (add-one i))) ∙ ap (λ y. fits wants_page (part_view y) && goes_on (not wants_page) (map part_view (drop (i + 1) xs))) (sym is)

pub goes_on-end : (wants_page : Bool) (xs : List PageRangesPart) (i : ℕ) → length xs ≤ i → goes_on wants_page (map part_view (drop i xs)) ≡ not wants_page
goes_on-end wants_page [] zero h = refl
goes_on-end wants_page [] (suc i) h = refl
goes_on-end wants_page (x ∷ xs) zero h = absurd (omega arith)
goes_on-end wants_page (x ∷ xs) (suc i) h = goes_on-end wants_page xs i (omega arith)

-- a digit or a hyphen, or a dot or a slash between them
abbrev Plain : ℕ → Type 0
Plain c = (45 ≤ c) × (c ≤ 57)

abbrev AllPlain : List ℕ → Type 0
AllPlain cs = AllByRecursion Plain cs

not_white : (c : ℕ) → Plain c → is_whitespace c ≡ false
not_white c h = let a : 45 ≤ c = h.0 in let b : c ≤ 57 = h.1 in grind (arith, nat_tests)

not_backslash : (c : ℕ) → Plain c → eqb c 92 ≡ false
not_backslash c h = let b : c ≤ 57 = h.1 in grind (arith, nat_tests)

not_separator : (c : ℕ) → Plain c → is_separator c ≡ false
not_separator c h = let a : 45 ≤ c = h.0 in grind (arith, nat_tests)

-- nothing is trimmed
kept : (cs : List ℕ) → AllPlain cs → drop_trailing_whitespace cs ≡ cs
kept [] all = refl
kept (c ∷ cs) all = rw (not_white c all.0, kept cs all.1) refl

trimmed : (cs : List ℕ) → AllPlain cs → trim_chars cs ≡ cs
trimmed [] all = refl
trimmed (c ∷ cs) all = rw (not_white c all.0) (kept (c ∷ cs) all)

trimmed-blank : (cs : List ℕ) → AllPlain cs → trim_chars (32 ∷ cs) ≡ cs
trimmed-blank cs all = trimmed cs all

-- no hyphen is escaped
unescaped : (cs : List ℕ) → AllPlain cs → escaped_split cs ≡ cs ∷ []
unescaped [] all = refl
unescaped (c ∷ []) all = refl
unescaped (c ∷ d ∷ cs) all = rw (not_backslash c all.0, unescaped (d ∷ cs) all.1) refl

cut-plain : (cs : List ℕ) → AllPlain cs → cut_read cs ≡ halves_read Range (dash_split cs)
cut-plain cs all = rw (unescaped cs all) refl

inner-plain : (c : ℕ) (cs : List ℕ) → AllPlain (c ∷ cs) → inner_read (c ∷ cs) ≡ cut_read (c ∷ cs)
inner-plain c cs all = inner-cut (c ∷ cs) (λ e. cc) (λ e. let h : c ≡ 38 = cc in absurd (omega (arith, all.0.0))) (λ e. let h : c ≡ 44 = cc in absurd (omega (arith, all.0.0)))

-- the digits of a number
digits_plain : (ds : List ℕ) → AllDigits 10 ds → AllPlain ds
digits_plain [] h = tt
digits_plain (d ∷ ds) h = let r : IsInRange 48 57 d = digit_from_value d h.0 in ((omega (arith, r.0), r.1), digits_plain ds h.1)

digits_undashed : (ds : List ℕ) → AllDigits 10 ds → AllByRecursion (λ c. is_dash c ≡ false) ds
digits_undashed [] h = tt
digits_undashed (d ∷ ds) h = let r : IsInRange 48 57 d = digit_from_value d h.0 in let a : 48 ≤ d = r.0 in let b : d ≤ 57 = r.1 in (grind (arith, nat_tests), digits_undashed ds h.1)

module _ (k : ℕ) (small : k < 2 ^ 31) where
  numeral : AllDigits 10 (decimal k)
  numeral = (decimal_is_IsNumeral k (omega arith)).0.1

  readable : nat_lt k (2 ^ 31) ≡ true
  readable = grind (arith, nat_tests)

  number_back : read_from (skip_leading_whitespace (decimal k)) ≡ Ok (without_affixes (Single (pos k)))
  number_back =
      let e : decimal k ++ [] ≡ decimal k = append-nil (decimal k) in
      let s = rw e at (skip-signed (pos k) [] readable) in
      let p = rw e at (prefix-signed (pos k) [] readable refl) in
      let f = rw e at (number_front-signed (pos k) [] readable refl) in
      rw (s, p.0, p.1, f) refl

  half_back : half_read (decimal k) ≡ Ok (without_affixes (Single (pos k)))
  half_back = rw (trimmed (decimal k) (digits_plain (decimal k) numeral), number_back) refl

-- the text of a part, and what it reads as without the white space at its ends
record HasText (p : PartView) (text : List ℕ) : Type 0 where
  shown : shown_part p ≡ text
  some : 0 < length text
  plain : AllPlain text
  read : inner_read text ≡ Ok p

AllPlain-append : (xs ys : List ℕ) → AllPlain xs → AllPlain ys → AllPlain (xs ++ ys)
AllPlain-append [] ys h k = k
AllPlain-append (x ∷ xs) ys h k = (h.0, AllPlain-append xs ys h.1 k)

inner-text : (text : List ℕ) → 0 < length text → AllPlain text → inner_read text ≡ halves_read Range (dash_split text)
inner-text [] some all = absurd (omega arith)
inner-text (c ∷ cs) some all = inner-plain c cs all ∙ cut-plain (c ∷ cs) all

undashed : (k : ℕ) → k < 2 ^ 31 → dash_split (decimal k) ≡ decimal k ∷ []
undashed k small = slice_split_none is_dash (decimal k) (All-from_recursion (λ c. is_dash c ≡ false) (decimal k) (digits_undashed (decimal k) (numeral k small)))

page_text : (k : ℕ) → k < 2 ^ 31 → HasText (page_of (pos k)) (decimal k)
page_text k small =
    let some : 0 < length (decimal k) = (decimal_is_IsNumeral k (omega arith)).0.0 in
    let plain : AllPlain (decimal k) = digits_plain (decimal k) (numeral k small) in
    record {
      shown = append-nil (decimal k);
      some = some;
      plain = plain;
      read = inner-text (decimal k) some plain ∙ rw (undashed k small, half_back k small) refl;
    }

range_text : (j k : ℕ) → j < 2 ^ 31 → k < 2 ^ 31 → HasText (Range (without_affixes (Single (pos j))) (without_affixes (Single (pos k)))) (decimal j ++ 45 ∷ decimal k)
range_text j k h i =
    let plain : AllPlain (decimal j ++ 45 ∷ decimal k) = AllPlain-append (decimal j) (45 ∷ decimal k) (digits_plain (decimal j) (numeral j h)) ((omega arith, omega arith), digits_plain (decimal k) (numeral k i)) in
    let some : 0 < length (decimal j ++ 45 ∷ decimal k) = omega (arith, length-append (decimal j) (45 ∷ decimal k)) in
    let cut : dash_split (decimal j ++ 45 ∷ decimal k) ≡ decimal j ∷ decimal k ∷ [] =
    slice_split_at is_dash (decimal j) 45 (decimal k) (All-from_recursion (λ c. is_dash c ≡ false) (decimal j) (digits_undashed (decimal j) (numeral j h))) refl ∙ ap (λ l. decimal j ∷ l) (undashed k i) in
    record {
      shown = ap (λ l. l ++ 45 ∷ (decimal k ++ [])) (append-nil (decimal j)) ∙ ap (λ l. decimal j ++ 45 ∷ l) (append-nil (decimal k));
      some = some;
      plain = plain;
      read = inner-text (decimal j ++ 45 ∷ decimal k) some plain ∙ rw (cut, half_back j h, half_back k i) refl;
    }

-- a plain number
plain_number : (v : ValueView) (a b : Option (List ℕ)) → is_plain_number (record { value = v; prefix = a; suffix = b }) ≡ true → (k : ℕ) × (k < 2 ^ 31) × (record { value = v; prefix = a; suffix = b } ≡ without_affixes (Single (pos k)))
plain_number (Single (pos k)) None None h = (k, grind (arith, nat_tests), refl)
plain_number (Single (negsuc k)) None None h = cc
plain_number (SetOf items) None None h = cc
plain_number (Single n) None (Some b) h = cc
plain_number (Single n) (Some a) None h = cc
plain_number (Single n) (Some a) (Some b) h = cc
plain_number (SetOf items) None (Some b) h = cc
plain_number (SetOf items) (Some a) None h = cc
plain_number (SetOf items) (Some a) (Some b) h = cc

text_of : (p : PartView) → is_plain_part p ≡ true → (text : List ℕ) × HasText p text
text_of Ampersand h = cc
text_of Comma h = cc
text_of (EscapedRange start end) h = cc
text_of (SinglePage page) h =
    let n = plain_number page.value page.prefix page.suffix h in
    (decimal n.0, subst (λ q. HasText (SinglePage q) (decimal n.0)) (sym n.2) (page_text n.0 n.1))
text_of (Range start end) h =
    let both = and-both (is_plain_number start) (is_plain_number end) h in
    let m = plain_number start.value start.prefix start.suffix both.0 in
    let n = plain_number end.value end.prefix end.suffix both.1 in
    let text : List ℕ = decimal m.0 ++ 45 ∷ decimal n.0 in
    (text, subst (λ q. HasText (Range q end) text) (sym m.2) (subst (λ q. HasText (Range (without_affixes (Single (pos m.0))) q) text) (sym n.2) (range_text m.0 n.0 m.1 n.1)))

-- a part that is read, perhaps behind a blank
plain_apart : (cs : List ℕ) → AllPlain cs → AllByRecursion (λ c. is_separator c ≡ false) cs
plain_apart [] all = tt
plain_apart (c ∷ cs) all = (not_separator c all.0, plain_apart cs all.1)

part_back : (p : PartView) (text : List ℕ) → HasText p text → part_read text ≡ Ok p
part_back p text t = ap inner_read (trimmed text t.plain) ∙ t.read

part_back-blank : (p : PartView) (text : List ℕ) → HasText p text → part_read (32 ∷ text) ≡ Ok p
part_back-blank p text t = ap inner_read (trimmed-blank text t.plain) ∙ t.read

first_read : (p : PartView) (text rest : List ℕ) → HasText p text → IfSome (slice_get rest 0) (λ d. is_separator d ≡ true)
    → (collect (map part_read (pieces (text ++ rest))) ≡ result_map_both (λ vs. p ∷ vs) (λ e. e) (collect (map part_read (pieces rest))))
    × (collect (map part_read (pieces (32 ∷ (text ++ rest)))) ≡ result_map_both (λ vs. p ∷ vs) (λ e. e) (collect (map part_read (pieces rest))))
first_read p [] rest t stops = absurd (omega (arith, t.some))
first_read p (c ∷ cs) rest t stops =
    let apart = plain_apart (c ∷ cs) t.plain in
    (rw (pieces-run c cs rest apart.0 apart.1 stops, part_back p (c ∷ cs) t) refl, rw (pieces-run 32 (c ∷ cs) rest refl apart stops, part_back-blank p (c ∷ cs) t) refl)

no_separator : (a b : Bool) → (a && false && b) ≡ true → ⊥
no_separator true b h = cc
no_separator false b h = cc

-- all parts, perhaps behind a blank
parts_back : (ps : List PartView) → are_readable ps ≡ true → (collect (map part_read (pieces (shown_pages ps))) ≡ Ok ps) × (collect (map part_read (pieces (32 ∷ shown_pages ps))) ≡ Ok ps)
parts_back [] h = cc
parts_back (p ∷ []) h =
    let t = text_of p h in
    let r = first_read p t.0 [] t.1 tt in
    rw t.1.shown r
parts_back (p ∷ Ampersand ∷ ps) h =
    let both = and-both (is_plain_part p && true) (are_readable ps) h in
    let t = text_of p (and-both (is_plain_part p) true both.0).0 in
    let r = first_read p t.0 (38 ∷ shown_pages ps) t.1 refl in
    let more = parts_back ps both.1 in
    let s = pieces-separator 38 (shown_pages ps) refl in
    rw t.1.shown (r.0 ∙ rw (s, more.0) refl, r.1 ∙ rw (s, more.0) refl)
parts_back (p ∷ Comma ∷ ps) h =
    let both = and-both (is_plain_part p && true) (are_readable ps) h in
    let t = text_of p (and-both (is_plain_part p) true both.0).0 in
    let r = first_read p t.0 (44 ∷ 32 ∷ shown_pages ps) t.1 refl in
    let more = parts_back ps both.1 in
    let s = pieces-separator 44 (32 ∷ shown_pages ps) refl in
    rw t.1.shown (r.0 ∙ rw (s, more.1) refl, r.1 ∙ rw (s, more.1) refl)
parts_back (p ∷ EscapedRange a b ∷ ps) h = absurd (no_separator (is_plain_part p) (are_readable ps) h)
parts_back (p ∷ SinglePage a ∷ ps) h = absurd (no_separator (is_plain_part p) (are_readable ps) h)
parts_back (p ∷ Range a b ∷ ps) h = absurd (no_separator (is_plain_part p) (are_readable ps) h)

-- all bytes are ASCII
abbrev AllSmall : List ℕ → Type 0
AllSmall cs = AllByRecursion (λ c. c < 128) cs

plain_small : (cs : List ℕ) → AllPlain cs → AllSmall cs
plain_small [] all = tt
plain_small (c ∷ cs) all = (omega (arith, all.0.1), plain_small cs all.1)

AllSmall-append : (xs ys : List ℕ) → AllSmall xs → AllSmall ys → AllSmall (xs ++ ys)
AllSmall-append [] ys h k = k
AllSmall-append (x ∷ xs) ys h k = (h.0, AllSmall-append xs ys h.1 k)

part_small : (p : PartView) → is_plain_part p ≡ true → AllSmall (shown_part p)
part_small p h = let t = text_of p h in rw t.1.shown (plain_small t.0 t.1.plain)

pages_small : (ps : List PartView) → are_readable ps ≡ true → AllSmall (shown_pages ps)
pages_small [] h = tt
pages_small (p ∷ []) h = AllSmall-append (shown_part p) [] (part_small p h) tt
pages_small (p ∷ Ampersand ∷ ps) h =
    let both = and-both (is_plain_part p && true) (are_readable ps) h in
    AllSmall-append (shown_part p) (38 ∷ shown_pages ps) (part_small p (and-both (is_plain_part p) true both.0).0) (omega arith, pages_small ps both.1)
pages_small (p ∷ Comma ∷ ps) h =
    let both = and-both (is_plain_part p && true) (are_readable ps) h in
    AllSmall-append (shown_part p) (44 ∷ 32 ∷ shown_pages ps) (part_small p (and-both (is_plain_part p) true both.0).0) (omega arith, (omega arith, pages_small ps both.1))
pages_small (p ∷ EscapedRange a b ∷ ps) h = absurd (no_separator (is_plain_part p) (are_readable ps) h)
pages_small (p ∷ SinglePage a ∷ ps) h = absurd (no_separator (is_plain_part p) (are_readable ps) h)
pages_small (p ∷ Range a b ∷ ps) h = absurd (no_separator (is_plain_part p) (are_readable ps) h)

ascii : (bs : List ℕ) → AllSmall bs → IsAscii bs
ascii [] h i = lit< tt
ascii (b ∷ bs) h zero = h.0
ascii (b ∷ bs) h (suc i) = ascii bs h.1 i

pub pages_back : (ps : List PartView) → are_readable ps ≡ true → pages_read (chars (shown_pages ps)) ≡ Ok ps
pages_back ps h = ap pages_read (chars-IsAscii (shown_pages ps) (ascii (shown_pages ps) (pages_small ps h))) ∙ (parts_back ps h).0
