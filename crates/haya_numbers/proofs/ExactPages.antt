-- Pages that were read from a text, and are read again from their exact text.
use Rattle.std.proofs.Common.{◌≡◌, ◌≢◌, ℕ, ◌<◌, ◌^◌, pos, Bool, true, false, ◌⊎◌, inl, inr, not, nat_eq, nat_lt, cond, List, [], ◌∷◌, ◌++◌, map, length, refl, ap, sym, ◌∙◌, subst, Result, Ok, Err, arith}
use Rattle.std.proofs.lemmas.Bool.Decides.{nat_tests}
use Rattle.std.proofs.lemmas.List.Elements.{All-from_recursion, recursion_from_All}
use Rattle.std.proofs.lemmas.List.Splits.{slice_split_at}
use Rattle.std.proofs.lemmas.Str.{scalars-chars}
use Rattle.std.specs.Char.{encode_utf8, is_whitespace}
use Rattle.std.specs.List.{AllByRecursion, concat, list_all}
use Rattle.std.specs.Result.{result_and, result_map_both}
use Rattle.std.specs.Str.{IsUtf8, chars}
use lib.Utf8.{scalar}
use Rattle.haya_text.proofs.Tells.{and-both}
use Rattle.haya_text.specs.Characters.{begins_with}
use Rattle.haya_numbers.specs.Cuts.{dash_split, escaped_split, is_dash}
use Rattle.haya_numbers.specs.Halves.{AreHalves, IsEscapedHyphen}
use Rattle.haya_numbers.specs.Numeric.{NumericView, single_number}
use Rattle.haya_numbers.specs.NumericRoundTrip.{exact_text}
use Rattle.haya_numbers.specs.Pages.{PartView, Ampersand, Comma, EscapedRange, SinglePage, Range, page_of}
use Rattle.haya_numbers.specs.PagesBack.{is_from_zero}
use Rattle.haya_numbers.specs.PagesReading.{trim_chars, half_read, both_read, halves_read, cut_read, inner_read, part_read, collect, pages_read, result_zip}
use Rattle.haya_numbers.specs.PagesRoundTrip.{exact_pages, exact_part}
use Rattle.haya_numbers.specs.Pieces.{is_separator, pieces, AreApart, IsRun, IsSeparator}
use Rattle.haya_numbers.specs.declared.page.PageRangesPartErr.{PageRangesPartErr}
use Rattle.haya_numbers.specs.declared.page.PageRangesPartErr.TheVariants.{Malformed}
use Rattle.haya_numbers.proofs.CutLemmas.{escaped_split-at, escaped_split-none}
use Rattle.haya_numbers.proofs.ExactHalves.{HasExactHalf, exact_half, none_from}
use Rattle.haya_numbers.proofs.ExactNumbers.{IsText, en_dash_text, join, no_text}
use Rattle.haya_numbers.proofs.HalfLaws.{escaped-halves}
use Rattle.haya_numbers.proofs.KeptNumbers.{all-append, all-parts, all-scalars}
use Rattle.haya_numbers.proofs.KeptPages.{NumberText, apart, good, half_text, joined_some, last-append, last_passes, no_dashes, no_separators, plain, plain-apart, plain_all, solid, trim-all, trim-kept}
use Rattle.haya_numbers.proofs.KeptParts.{cut_once, halves_good, heads, inner_apart, inside, inside_apart, joined_scalars, page_part, run_inside, run_only, separator_part, undashed}
use Rattle.haya_numbers.proofs.PieceLaws.{AreItsPieces-pieces, pieces-concat}
use Rattle.haya_numbers.proofs.ReadLaws.{all-collected}
use Rattle.haya_numbers.proofs.ReadsBack.{pages_back}

-- ---- a part with the characters of its exact text

record HasExactPart (p : PartView) : Type 0 where
  text : List ℕ
  is : IsText (exact_part p) text
  read : part_read text ≡ Ok p
  apart_text : list_all apart text ≡ true
  some : 0 < length text
  page : (n : NumericView) → p ≡ SinglePage n → is_from_zero (single_number n) ≡ true

trimmed_read : (p : PartView) (text : List ℕ) → begins_with is_whitespace text ≡ false → last_passes solid text ≡ true → inner_read text ≡ Ok p → part_read text ≡ Ok p
trimmed_read p text f l h = ap inner_read (trim-kept text f l) ∙ h

front_of : (p : ℕ → Bool) (xs ys : List ℕ) → 0 < length xs → begins_with p xs ≡ false → begins_with p (xs ++ ys) ≡ false
front_of p [] ys some h = absurd (omega arith)
front_of p (x ∷ xs) ys some h = h

back_of : (p : ℕ → Bool) (xs ys : List ℕ) → 0 < length ys → last_passes p ys ≡ true → last_passes p (xs ++ ys) ≡ true
back_of p xs [] some h = absurd (omega arith)
back_of p xs (y ∷ ys) some h = last-append p xs y ys ∙ h

exact_page : (n : NumericView) (text : List ℕ) → NumberText n text → HasExactPart (SinglePage n)
exact_page n text t =
    let page = page_part n text t in
    record { text = text; is = rw t.exact (record { utf8 = t.utf8; shown = t.shown }); read = page.read; apart_text = page.apart_text; some = t.some; page = λ m e. let same : n ≡ m = cc in rw (← same) t.from_zero }

no_hyphens : (cs : List ℕ) → list_all plain cs ≡ true → list_all (λ c. not (nat_eq c 45)) cs ≡ true
no_hyphens [] h = refl
no_hyphens (c ∷ cs) h =
    let both = and-both (plain c) (list_all plain cs) h in
    let no : nat_eq c 45 ≡ false = none c (plain-apart c both.0).1 in
    rw (no, no_hyphens cs both.1) refl
  where
    none : (c : ℕ) → is_dash c ≡ false → nat_eq c 45 ≡ false
    none c d = grind (arith, nat_tests)

-- a text without hyphens escapes none
unhyphened : (cs : List ℕ) → list_all (λ c. not (nat_eq c 45)) cs ≡ true → escaped_split cs ≡ cs ∷ []
unhyphened cs all = escaped_split-none cs (λ xs ys e. by xs ys (subst (λ (l : List ℕ). list_all (λ c. not (nat_eq c 45)) l ≡ true) e all))
  where
    by : (xs ys : List ℕ) → list_all (λ c. not (nat_eq c 45)) (xs ++ 92 ∷ 45 ∷ ys) ≡ true → ⊥
    by xs ys h = let both = all-parts (λ c. not (nat_eq c 45)) xs (92 ∷ 45 ∷ ys) h in let no = both.1 in absurd (let f : ⊥ = cc in f)

exact_range : (s e : NumericView) (ts te : List ℕ) → NumberText s ts → NumberText e te → HasExactPart (Range s e)
exact_range s e ts te start end =
    let behind : List ℕ = 8211 ∷ te in
    let text : List ℕ = ts ++ behind in
    let apart_text : list_all apart text ≡ true = all-append apart ts behind (plain_all ts start.plain_text) (plain_all te end.plain_text) in
    let some : 0 < length text = joined_some ts behind (omega arith) in
    let none : list_all (λ c. not (nat_eq c 45)) text ≡ true = all-append (λ c. not (nat_eq c 45)) ts behind (no_hyphens ts start.plain_text) (no_hyphens te end.plain_text) in
    let cut : dash_split text ≡ ts ∷ te ∷ [] = slice_split_at is_dash ts 8211 te (All-from_recursion (λ c. is_dash c ≡ false) ts (no_dashes ts start.plain_text)) refl ∙ ap (λ l. ts ∷ l) (undashed te end.plain_text) in
    let read : inner_read text ≡ Ok (Range s e) = inner_apart text apart_text some ∙ cut_once text (unhyphened text none) ∙ rw (cut, start.read, end.read) refl in
    let first : IsText (exact_text s) ts = rw start.exact (record { utf8 = start.utf8; shown = start.shown }) in
    let second : IsText (exact_text e) te = rw end.exact (record { utf8 = end.utf8; shown = end.shown }) in
    record {
      text = text;
      is = join first (join en_dash_text second);
      read = trimmed_read (Range s e) text (front_of is_whitespace ts behind start.some start.front) (back_of solid ts behind (omega arith) (back_of solid (8211 ∷ []) te end.some end.back)) read;
      apart_text = apart_text;
      some = some;
      page = λ n e. cc;
    }

escape_text : IsText (92 ∷ 45 ∷ []) (92 ∷ 45 ∷ [])
unfolding chars encode_utf8
escape_text = record { utf8 = (92 ∷ 45 ∷ [], (refl, refl)); shown = refl }

two_halves : (cs x y : List ℕ) → escaped_split cs ≡ x ∷ y ∷ [] → cut_read cs ≡ halves_read EscapedRange (x ∷ y ∷ [])
two_halves cs x y h = rw h refl

exact_escaped : (s e : NumericView) → HasExactHalf s → HasExactHalf e → HasExactPart (EscapedRange s e)
exact_escaped s e start end =
    let ts : List ℕ = start.text in
    let te : List ℕ = end.text in
    let behind : List ℕ = 92 ∷ 45 ∷ te in
    let text : List ℕ = ts ++ behind in
    let apart_text : list_all apart text ≡ true = all-append apart ts behind start.half.apart_text end.half.apart_text in
    let some : 0 < length text = joined_some ts behind (omega arith) in
    let cut : escaped_split text ≡ ts ∷ te ∷ [] = escaped_split-at ts te (none_from ts start.half.escape) ∙ ap (λ l. ts ∷ l) (escaped_split-none te (none_from te end.half.escape)) in
    let read : inner_read text ≡ Ok (EscapedRange s e) = inner_apart text apart_text some ∙ two_halves text ts te cut ∙ rw (start.read, end.read) refl in
    record {
      text = text;
      is = join start.is (join escape_text end.is);
      read = trimmed_read (EscapedRange s e) text (front_of is_whitespace ts behind start.half.some start.half.front) (back_of solid ts behind (omega arith) (back_of solid (92 ∷ 45 ∷ []) te end.half.some end.half.back)) read;
      apart_text = apart_text;
      some = some;
      page = λ n e. cc;
    }

-- ---- the part that a run is

plain_part : (hs : List (List ℕ)) (p : PartView) → AllByRecursion (λ h. list_all good h ≡ true) hs → halves_read Range hs ≡ Ok p → HasExactPart p
plain_part [] p all h = cc
plain_part (x ∷ []) p all h = by (half_read x) refl h
  where
    by : (r : Result NumericView PageRangesPartErr) → half_read x ≡ r → result_map_both SinglePage (λ e. e) r ≡ Ok p → HasExactPart p
    by (Ok n) e g =
        let same : SinglePage n ≡ p = cc in
        let t = half_text x n all.0 e in
        subst HasExactPart same (exact_page n t.0 t.1)
    by (Err f) e g = cc
plain_part (x ∷ y ∷ []) p all h = by (half_read x) refl (half_read y) refl h
  where
    by : (r : Result NumericView PageRangesPartErr) → half_read x ≡ r → (s : Result NumericView PageRangesPartErr) → half_read y ≡ s → result_map_both (λ q. Range q.0 q.1) (λ e. e) (result_zip r s) ≡ Ok p → HasExactPart p
    by (Ok n) e (Ok m) f g =
        let same : Range n m ≡ p = cc in
        let start = half_text x n all.0 e in
        let end = half_text y m all.1.0 f in
        subst HasExactPart same (exact_range n m start.0 end.0 start.1 end.1)
    by (Ok n) e (Err m) f g = cc
    by (Err n) e s f g = cc
plain_part (x ∷ y ∷ z ∷ hs) p all h = by (both_read x y) h
  where
    by : (r : Result (NumericView × NumericView) PageRangesPartErr) → result_and r (Err Malformed) ≡ Ok p → HasExactPart p
    by (Ok q) g = cc
    by (Err e) g = cc

escaped_part : (cs : List ℕ) (hs : List (List ℕ)) (p : PartView) → list_all inside cs ≡ true → AreHalves IsEscapedHyphen cs hs → nat_lt 1 (length hs) ≡ true → halves_read EscapedRange hs ≡ Ok p → HasExactPart p
escaped_part cs [] p all halves l h = absurd halves
escaped_part cs (x ∷ []) p all halves l h = cc
escaped_part cs (x ∷ y ∷ []) p all (rest, cut, end) l h = by (half_read x) refl (half_read y) refl h
  where
    parts : (list_all inside x ≡ true) × (list_all inside y ≡ true)
    parts =
        let one = all-parts inside x (cut.mark ++ rest) (subst (λ (t : List ℕ). list_all inside t ≡ true) cut.joined all) in
        let two = all-parts inside cut.mark rest one.1 in
        (one.0, subst (λ (t : List ℕ). list_all inside t ≡ true) end.0 two.1)

    by : (r : Result NumericView PageRangesPartErr) → half_read x ≡ r → (s : Result NumericView PageRangesPartErr) → half_read y ≡ s → result_map_both (λ q. EscapedRange q.0 q.1) (λ e. e) (result_zip r s) ≡ Ok p → HasExactPart p
    by (Ok n) e (Ok m) f g =
        let same : EscapedRange n m ≡ p = cc in
        let start = exact_half x n parts.0 (λ xs ys q. cut.none xs (92 ∷ 45 ∷ []) ys refl q) e in
        let last = exact_half y m parts.1 (λ xs ys q. end.1 xs (92 ∷ 45 ∷ []) ys refl q) f in
        subst HasExactPart same (exact_escaped n m start last)
    by (Ok n) e (Err m) f g = cc
    by (Err n) e s f g = cc
escaped_part cs (x ∷ y ∷ z ∷ hs) p all halves l h = by (both_read x y) h
  where
    by : (r : Result (NumericView × NumericView) PageRangesPartErr) → result_and r (Err Malformed) ≡ Ok p → HasExactPart p
    by (Ok q) g = cc
    by (Err e) g = cc

run_exact : (q : List ℕ) (p : PartView) → list_all inside q ≡ true → part_read q ≡ Ok p → HasExactPart p
run_exact q p all h = by (trim_chars q) (trim-all inside q all) h
  where
    by : (cs : List ℕ) → list_all inside cs ≡ true → inner_read cs ≡ Ok p → HasExactPart p
    by [] a g = cc
    by (c ∷ cs) a g = cut (nat_lt 1 (length (escaped_split (c ∷ cs)))) refl (sym (inner_apart (c ∷ cs) (inside_apart (c ∷ cs) a) (omega arith)) ∙ g)
      where
        cut : (b : Bool) → nat_lt 1 (length (escaped_split (c ∷ cs))) ≡ b → cond b (halves_read EscapedRange (escaped_split (c ∷ cs))) (halves_read Range (dash_split (c ∷ cs))) ≡ Ok p → HasExactPart p
        cut true l f = escaped_part (c ∷ cs) (escaped_split (c ∷ cs)) p a ((escaped-halves (c ∷ cs) (escaped_split (c ∷ cs))).1 refl) l f
        cut false l f = plain_part (dash_split (c ∷ cs)) p (halves_good (c ∷ cs) a) f

-- ---- parts in order

abbrev part_chars : PartView → List ℕ
part_chars p = chars (exact_part p)

record PartIsBack (q : List ℕ) (p : PartView) : Type 0 where
  utf8 : IsUtf8 (exact_part p)
  read : part_read (part_chars p) ≡ Ok p
  separator : IsSeparator q → IsSeparator (part_chars p)
  kind : IsSeparator (part_chars p) ⊎ IsRun (part_chars p)
  page : (n : NumericView) → p ≡ SinglePage n → is_from_zero (single_number n) ≡ true

ampersand_text : IsText (38 ∷ []) (38 ∷ [])
unfolding chars encode_utf8
ampersand_text = record { utf8 = (38 ∷ [], (refl, refl)); shown = refl }

comma_text : IsText (44 ∷ []) (44 ∷ [])
unfolding chars encode_utf8
comma_text = record { utf8 = (44 ∷ [], (refl, refl)); shown = refl }

separator_back : (q : List ℕ) (p : PartView) (c : ℕ) → is_separator c ≡ true → IsText (exact_part p) (c ∷ []) → part_read (c ∷ []) ≡ Ok p → ((n : NumericView) → p ≢ SinglePage n) → PartIsBack q p
separator_back q p c s t read other =
    let is : IsSeparator (part_chars p) = (c, s, t.shown) in
    record { utf8 = t.utf8; read = ap part_read t.shown ∙ read; separator = λ _. is; kind = inl is; page = λ n e. absurd (other n e) }

run_back : (q : List ℕ) (p : PartView) → IsRun q → HasExactPart p → PartIsBack q p
run_back q p run t = record {
  utf8 = t.is.utf8;
  read = ap part_read t.is.shown ∙ t.read;
  page = t.page;
  separator = λ s. absurd (run_only q run s);
  kind = inr (rw t.is.shown (some_text t.text t.some, All-from_recursion (λ d. is_separator d ≡ false) t.text (no_separators t.text t.apart_text)));
}
  where
    some_text : (cs : List ℕ) → 0 < length cs → cs ≡ [] → ⊥
    some_text [] some e = absurd (omega arith)
    some_text (c ∷ cs) some e = cc

piece_back : (q : List ℕ) (p : PartView) → IsSeparator q ⊎ IsRun q → list_all scalar q ≡ true → part_read q ≡ Ok p → PartIsBack q p
piece_back q p (inl s) u h = by (separator_part q p s h)
  where
    by : (p ≡ Ampersand) ⊎ (p ≡ Comma) → PartIsBack q p
    by (inl same) = subst (PartIsBack q) (sym same) (separator_back q Ampersand 38 refl ampersand_text refl (λ n e. cc))
    by (inr same) = subst (PartIsBack q) (sym same) (separator_back q Comma 44 refl comma_text refl (λ n e. cc))
piece_back q p (inr run) u h = run_back q p run (run_exact q p (run_inside q run u) h)

abbrev AllBack : List (List ℕ) → List PartView → Type 0
AllBack [] [] = Unit {0}
AllBack (q ∷ qs) (p ∷ ps) = PartIsBack q p × AllBack qs ps
AllBack [] (p ∷ ps) = ⊥
AllBack (q ∷ qs) [] = ⊥

all_back : (qs : List (List ℕ)) (ps : List PartView) → AllByRecursion (λ q. IsSeparator q ⊎ IsRun q) qs → AllByRecursion (λ q. list_all scalar q ≡ true) qs → map part_read qs ≡ map (λ p. Ok p) ps → AllBack qs ps
all_back [] [] each u h = tt
all_back [] (p ∷ ps) each u h = absurd (let f : ⊥ = cc in f)
all_back (q ∷ qs) [] each u h = absurd (let f : ⊥ = cc in f)
all_back (q ∷ qs) (p ∷ ps) each u h =
    let two = heads q qs p ps h in
    (piece_back q p each.0 u.0 two.0, all_back qs ps each.1 u.1 two.1)

each_kind : (qs : List (List ℕ)) (ps : List PartView) → AllBack qs ps → AllByRecursion (λ q. IsSeparator q ⊎ IsRun q) (map part_chars ps)
each_kind [] [] b = tt
each_kind [] (p ∷ ps) b = absurd b
each_kind (q ∷ qs) [] b = tt
each_kind (q ∷ qs) (p ∷ ps) b = (b.0.kind, each_kind qs ps b.1)

still_apart : (qs : List (List ℕ)) (ps : List PartView) → AllBack qs ps → AreApart qs → AreApart (map part_chars ps)
still_apart [] [] b a = tt
still_apart [] (p ∷ ps) b a = absurd b
still_apart (q ∷ qs) [] b a = tt
still_apart (q ∷ []) (p ∷ []) b a = tt
still_apart (q ∷ []) (p ∷ s ∷ ps) b a = absurd b.1
still_apart (q ∷ r ∷ qs) (p ∷ []) b a = absurd b.1
still_apart (q ∷ r ∷ qs) (p ∷ s ∷ ps) b a = (by a.0, still_apart (r ∷ qs) (s ∷ ps) b.1 a.1)
  where
    by : IsSeparator q ⊎ IsSeparator r → IsSeparator (part_chars p) ⊎ IsSeparator (part_chars s)
    by (inl x) = inl (b.0.separator x)
    by (inr x) = inr (b.1.0.separator x)

joined_text : (qs : List (List ℕ)) (ps : List PartView) → AllBack qs ps → IsText (exact_pages ps) (concat (map part_chars ps))
joined_text [] [] b = no_text
joined_text [] (p ∷ ps) b = absurd b
joined_text (q ∷ qs) [] b = no_text
joined_text (q ∷ qs) (p ∷ ps) b = join (record { utf8 = b.0.utf8; shown = refl }) (joined_text qs ps b.1)

all_read : (qs : List (List ℕ)) (ps : List PartView) → AllBack qs ps → collect (map part_read (map part_chars ps)) ≡ Ok ps
all_read [] [] b = refl
all_read [] (p ∷ ps) b = absurd b
all_read (q ∷ qs) [] b = refl
all_read (q ∷ qs) (p ∷ ps) b = rw (b.0.read, all_read qs ps b.1) refl

were_read : (text : List ℕ) (ps : List PartView) → IsUtf8 text → pages_read (chars text) ≡ Ok ps → AllBack (pieces (chars text)) ps
were_read text ps u h =
    let cs : List ℕ = chars text in
    let qs : List (List ℕ) = pieces cs in
    let of = AreItsPieces-pieces cs in
    let each = recursion_from_All (λ q. IsSeparator q ⊎ IsRun q) qs of.each in
    let scalars = joined_scalars qs (subst (λ (l : List ℕ). list_all scalar l ≡ true) (sym of.joined) (sym (all-scalars cs) ∙ scalars-chars text u)) in
    all_back qs ps each scalars (all-collected (map part_read qs) ps h)

pub exact_pages_back : (text : List ℕ) (ps : List PartView) → IsUtf8 text → pages_read (chars text) ≡ Ok ps → pages_read (chars (exact_pages ps)) ≡ Ok ps
exact_pages_back text ps u h =
    let qs : List (List ℕ) = pieces (chars text) in
    let b = were_read text ps u h in
    let longest = (AreItsPieces-pieces (chars text)).longest in
    let again = pieces-concat (map part_chars ps) (each_kind qs ps b) (still_apart qs ps b longest) in
    ap pages_read (joined_text qs ps b).shown ∙ ap (λ l. collect (map part_read l)) again ∙ all_read qs ps b

-- one page alone that was read is from 0 on
pub page_from_zero : (text : List ℕ) (n : NumericView) → IsUtf8 text → pages_read (chars text) ≡ Ok (SinglePage n ∷ []) → is_from_zero (single_number n) ≡ true
page_from_zero text n u h = by (pieces (chars text)) (were_read text (SinglePage n ∷ []) u h)
  where
    by : (qs : List (List ℕ)) → AllBack qs (SinglePage n ∷ []) → is_from_zero (single_number n) ≡ true
    by [] b = absurd b
    by (q ∷ qs) b = b.0.page n refl

-- the page of a number from 0 on
pub exact_page_back : (k : ℕ) → k < 2 ^ 31 → pages_read (chars (exact_pages (page_of (pos k) ∷ []))) ≡ Ok (page_of (pos k) ∷ [])
exact_page_back k small = let less : nat_lt k (2 ^ 31) ≡ true = grind (arith, nat_tests) in pages_back (page_of (pos k) ∷ []) less
