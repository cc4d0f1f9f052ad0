-- Pages that were read from a text, and are read again from their print.
use Rattle.std.proofs.Common.{◌≡◌, ℕ, ◌<◌, Bool, true, false, ◌&&◌, not, nat_eq, nat_lt, cond, inl, inr, List, [], ◌∷◌, ◌++◌, map, length, refl, ap, sym, ◌∙◌, subst, Result, Ok, Err, arith, ℤ, pos, negsuc}
use Rattle.std.proofs.lemmas.Bool.Decides.{nat_tests}
use Rattle.std.proofs.lemmas.List.Elements.{All-from_recursion, recursion_from_All}
use Rattle.std.proofs.lemmas.List.Splits.{slice_split_at, slice_split_none}
use Rattle.std.proofs.lemmas.Str.{IsUtf8-append, IsUtf8-nil, chars-append, chars-nil, scalars-chars}
use Rattle.std.specs.Char.{is_whitespace}
use Rattle.std.specs.List.{AllByRecursion, concat, list_all, onto_first}
use Rattle.std.specs.Prelude.{◌⊎◌, slice_get, IfSome}
use Rattle.std.specs.Result.{result_and, result_map_both}
use Rattle.std.specs.Str.{IsUtf8, chars}
use Rattle.std.specs.Char.{encode_utf8}
use lib.Utf8.{scalar}
use Rattle.haya_text.proofs.Tells.{and-both, both-and}
use Rattle.haya_text.specs.Characters.{begins_with}
use Rattle.haya_numbers.specs.Cuts.{dash_split, escaped_split, is_dash}
use Rattle.haya_numbers.specs.Numeric.{NumericView}
use Rattle.haya_numbers.specs.NumericBack.{is_readable}
use Rattle.haya_numbers.specs.NumericPrinted.{shown_numeric}
use Rattle.haya_numbers.specs.Pages.{PartView, Ampersand, Comma, EscapedRange, SinglePage, Range, page_of}
use Rattle.haya_numbers.specs.PagesBack.{suffix_ends_in, part_is_kept, commas_are_kept, are_kept, is_separator_part}
use Rattle.haya_numbers.specs.PagesPrinted.{shown_pages, shown_part}
use Rattle.haya_numbers.specs.PagesReading.{trim_chars, half_read, both_read, halves_read, cut_read, inner_read, part_read, collect, pages_read, result_zip}
use Rattle.haya_numbers.specs.Pieces.{is_separator, pieces, AreApart, IsRun, IsSeparator}
use Rattle.haya_numbers.specs.declared.page.PageRangesPartErr.{PageRangesPartErr}
use Rattle.haya_numbers.specs.declared.page.PageRangesPartErr.TheVariants.{Malformed}
use Rattle.haya_numbers.proofs.KeptNumbers.{all-append, all-scalars, all-parts}
use Rattle.haya_numbers.proofs.KeptPages.{NumberText, apart, good, half_text, joined_some, last-append, last_passes, no_dashes, no_separators, not_true, plain, plain-apart, plain_all, solid, trim-all, trim-kept}
use Rattle.haya_numbers.proofs.PieceLaws.{AreItsPieces-pieces}
use Rattle.haya_numbers.proofs.PieceLemmas.{pieces-run, pieces-separator}
use Rattle.haya_numbers.proofs.ReadLaws.{all-collected}
use Rattle.haya_numbers.proofs.ReadLemmas.{chars-ampersand, inner-cut}
use Rattle.haya_numbers.proofs.ReadsBack.{pages_back}

-- ---- a part with the characters of its print

pub record PartText (p : PartView) (text : List ℕ) : Type 0 where
  pub utf8 : IsUtf8 (shown_part p)
  pub shown : chars (shown_part p) ≡ text
  pub read : part_read text ≡ Ok p
  pub blank : part_read (32 ∷ text) ≡ Ok p
  pub apart_text : list_all apart text ≡ true
  pub some : 0 < length text

and_false : (b : Bool) → (b && false) ≡ false
and_false true = refl
and_false false = refl

not_hyphen : (c : ℕ) → is_dash c ≡ false → nat_eq c 45 ≡ false
not_hyphen c h = grind (arith, nat_tests)

-- no hyphen is escaped
unescaped : (cs : List ℕ) → list_all plain cs ≡ true → escaped_split cs ≡ cs ∷ []
unescaped [] h = refl
unescaped (c ∷ []) h = refl
unescaped (c ∷ d ∷ cs) h =
    let rest = (and-both (plain c) (list_all plain (d ∷ cs)) h).1 in
    let other = not_hyphen d (plain-apart d (and-both (plain d) (list_all plain cs) rest).0).1 in
    rw (other, and_false (nat_eq c 92), unescaped (d ∷ cs) rest) refl

unescaped_end : (ys : List ℕ) → list_all plain ys ≡ true → escaped_split (45 ∷ ys) ≡ (45 ∷ ys) ∷ []
unescaped_end [] h = refl
unescaped_end (d ∷ ys) h = rw (unescaped (d ∷ ys) h) refl

unescaped_range : (xs ys : List ℕ) → list_all plain xs ≡ true → last_passes (λ c. not (nat_eq c 92)) xs ≡ true → list_all plain ys ≡ true → escaped_split (xs ++ 45 ∷ ys) ≡ (xs ++ 45 ∷ ys) ∷ []
unescaped_range [] ys h last k = unescaped_end ys k
unescaped_range (c ∷ []) ys h last k = rw (not_true (nat_eq c 92) last, unescaped_end ys k) refl
unescaped_range (c ∷ d ∷ cs) ys h last k =
    let rest = (and-both (plain c) (list_all plain (d ∷ cs)) h).1 in
    let other = not_hyphen d (plain-apart d (and-both (plain d) (list_all plain cs) rest).0).1 in
    rw (other, and_false (nat_eq c 92), unescaped_range (d ∷ cs) ys rest last k) refl

pub cut_once : (cs : List ℕ) → escaped_split cs ≡ cs ∷ [] → cut_read cs ≡ halves_read Range (dash_split cs)
cut_once cs h = rw h refl

pub undashed : (cs : List ℕ) → list_all plain cs ≡ true → dash_split cs ≡ cs ∷ []
undashed cs h = slice_split_none is_dash cs (All-from_recursion (λ c. is_dash c ≡ false) cs (no_dashes cs h))

-- a text without separators that isn't empty is cut
pub inner_apart : (cs : List ℕ) → list_all apart cs ≡ true → 0 < length cs → inner_read cs ≡ cut_read cs
inner_apart [] h some = absurd (omega arith)
inner_apart (c ∷ cs) h some = let one = not_true (is_separator c) (and-both (apart c) (list_all apart cs) h).0 in inner-cut (c ∷ cs) (λ e. cc) (λ e. no 38 cs e one refl) (λ e. no 44 cs e one refl)
  where
    no : (d : ℕ) (ds : List ℕ) → c ∷ ds ≡ d ∷ [] → is_separator c ≡ false → is_separator d ≡ true → ⊥
    no d ds e h k = let same : c ≡ d = ap (λ l. starts_with l) e in let other : is_separator d ≡ false = rw same at h in cc
      where
        starts_with : List ℕ → ℕ
        starts_with [] = 0
        starts_with (x ∷ xs) = x

-- what is read of a text that isn't trimmed, perhaps behind a blank
part_of : (p : PartView) (text : List ℕ) → begins_with is_whitespace text ≡ false → last_passes solid text ≡ true → inner_read text ≡ Ok p → (part_read text ≡ Ok p) × (part_read (32 ∷ text) ≡ Ok p)
part_of p text f l h = let t = trim-kept text f l in (ap inner_read t ∙ h, ap inner_read t ∙ h)

pub page_part : (n : NumericView) (text : List ℕ) → NumberText n text → PartText (SinglePage n) text
page_part n text t =
    let apart_text = plain_all text t.plain_text in
    let read : inner_read text ≡ Ok (SinglePage n) = inner_apart text apart_text t.some ∙ cut_once text (unescaped text t.plain_text) ∙ rw (undashed text t.plain_text, t.read) refl in
    let both = part_of (SinglePage n) text t.front t.back read in
    record { utf8 = t.utf8; shown = t.shown; read = both.0; blank = both.1; apart_text = apart_text; some = t.some }

-- the front and the end of two texts joined by a hyphen
joined_front : (p : ℕ → Bool) (xs ys : List ℕ) → 0 < length xs → begins_with p xs ≡ false → begins_with p (xs ++ ys) ≡ false
joined_front p [] ys some h = absurd (omega arith)
joined_front p (x ∷ xs) ys some h = h

joined_back : (p : ℕ → Bool) (xs ys : List ℕ) → 0 < length ys → last_passes p ys ≡ true → last_passes p (xs ++ 45 ∷ ys) ≡ true
joined_back p xs [] some h = absurd (omega arith)
joined_back p xs (y ∷ ys) some h = last-append p xs 45 (y ∷ ys) ∙ h

hyphen_utf8 : IsUtf8 (45 ∷ [])
unfolding encode_utf8
hyphen_utf8 = (45 ∷ [], (refl, refl))

one_hyphen : chars (45 ∷ []) ≡ 45 ∷ []
unfolding chars
one_hyphen = refl

chars-hyphen : (bs : List ℕ) → IsUtf8 bs → chars (45 ∷ bs) ≡ 45 ∷ chars bs
chars-hyphen bs u = chars-append (45 ∷ []) bs hyphen_utf8 ∙ ap (λ l. l ++ chars bs) one_hyphen

range_part : (s e : NumericView) (ts te : List ℕ) → NumberText s ts → NumberText e te → suffix_ends_in 92 s.suffix ≡ false → PartText (Range s e) (ts ++ 45 ∷ te)
range_part s e ts te start end escape =
    let text : List ℕ = ts ++ 45 ∷ te in
    let apart_text : list_all apart text ≡ true = all-append apart ts (45 ∷ te) (plain_all ts start.plain_text) (plain_all te end.plain_text) in
    let some : 0 < length text = joined_some ts (45 ∷ te) (omega arith) in
    let cut : dash_split text ≡ ts ∷ te ∷ [] = slice_split_at is_dash ts 45 te (All-from_recursion (λ c. is_dash c ≡ false) ts (no_dashes ts start.plain_text)) refl ∙ ap (λ l. ts ∷ l) (undashed te end.plain_text) in
    let read : inner_read text ≡ Ok (Range s e) = inner_apart text apart_text some ∙ cut_once text (unescaped_range ts te start.plain_text (start.escape escape) end.plain_text) ∙ rw (cut, start.read, end.read) refl in
    let both = part_of (Range s e) text (joined_front is_whitespace ts (45 ∷ te) start.some start.front) (joined_back solid ts te end.some end.back) read in
    record {
      utf8 = IsUtf8-append (shown_numeric s) (45 ∷ shown_numeric e) start.utf8 (IsUtf8-append (45 ∷ []) (shown_numeric e) hyphen_utf8 end.utf8);
      shown = chars-append (shown_numeric s) (45 ∷ shown_numeric e) start.utf8 ∙ ap (λ l. l ++ chars (45 ∷ shown_numeric e)) start.shown ∙ ap (λ l. ts ++ l) (chars-hyphen (shown_numeric e) end.utf8 ∙ ap (λ l. 45 ∷ l) end.shown);
      read = both.0;
      blank = both.1;
      apart_text = apart_text;
      some = some;
    }

-- ---- the part that a piece is

abbrev pub inside : ℕ → Bool
inside c = apart c && scalar c

inside_good : (c : ℕ) → inside c ≡ true → is_dash c ≡ false → good c ≡ true
inside_good c h d =
    let both = and-both (apart c) (scalar c) h in
    let s : is_separator c ≡ false = not_true (is_separator c) both.0 in
    rw (s, d, both.1) refl

-- the halves round dashes have none
pub halves_good : (cs : List ℕ) → list_all inside cs ≡ true → AllByRecursion (λ h. list_all good h ≡ true) (dash_split cs)
halves_good [] h = (refl, tt)
halves_good (c ∷ cs) h = let both = and-both (inside c) (list_all inside cs) h in by (is_dash c) refl both.0 (dash_split cs) (halves_good cs both.1)
  where
    by : (b : Bool) → is_dash c ≡ b → inside c ≡ true → (hs : List (List ℕ)) → AllByRecursion (λ h. list_all good h ≡ true) hs → AllByRecursion (λ h. list_all good h ≡ true) (cond b ([] ∷ hs) (onto_first c hs))
    by true e one hs all = (refl, all)
    by false e one [] all = (both-and (good c) true (inside_good c one e) refl, tt)
    by false e one (x ∷ hs) all = (both-and (good c) (list_all good x) (inside_good c one e) all.0, all.1)

pub record HasPartText (p : PartView) : Type 0 where
  pub text : List ℕ
  pub is : PartText p text

-- halves round an escaped hyphen are not kept
not_escaped : (hs : List (List ℕ)) (p : PartView) → nat_lt 1 (length hs) ≡ true → halves_read EscapedRange hs ≡ Ok p → part_is_kept p ≡ true → ⊥
not_escaped [] p l h k = cc
not_escaped (x ∷ []) p l h k = cc
not_escaped (x ∷ y ∷ []) p l h k = by (both_read x y) h
  where
    by : (r : Result (NumericView × NumericView) PageRangesPartErr) → result_map_both (λ q. EscapedRange q.0 q.1) (λ e. e) r ≡ Ok p → ⊥
    by (Ok q) g = let same : EscapedRange q.0 q.1 ≡ p = cc in let no : false ≡ true = ap part_is_kept same ∙ k in cc
    by (Err e) g = cc
not_escaped (x ∷ y ∷ z ∷ hs) p l h k = by (both_read x y) h
  where
    by : (r : Result (NumericView × NumericView) PageRangesPartErr) → result_and r (Err Malformed) ≡ Ok p → ⊥
    by (Ok q) g = cc
    by (Err e) g = cc

halves_part : (hs : List (List ℕ)) (p : PartView) → AllByRecursion (λ h. list_all good h ≡ true) hs → halves_read Range hs ≡ Ok p → part_is_kept p ≡ true → HasPartText p
halves_part [] p all h k = cc
halves_part (x ∷ []) p all h k = by (half_read x) refl h
  where
    by : (r : Result NumericView PageRangesPartErr) → half_read x ≡ r → result_map_both SinglePage (λ e. e) r ≡ Ok p → HasPartText p
    by (Ok n) e g =
        let same : SinglePage n ≡ p = cc in
        let t = half_text x n all.0 e in
        subst HasPartText same (record { text = t.0; is = page_part n t.0 t.1 })
    by (Err f) e g = cc
halves_part (x ∷ y ∷ []) p all h k = by (half_read x) refl (half_read y) refl h
  where
    by : (r : Result NumericView PageRangesPartErr) → half_read x ≡ r → (s : Result NumericView PageRangesPartErr) → half_read y ≡ s → result_map_both (λ q. Range q.0 q.1) (λ e. e) (result_zip r s) ≡ Ok p → HasPartText p
    by (Ok n) e (Ok m) f g =
        let same : Range n m ≡ p = cc in
        let start = half_text x n all.0 e in
        let end = half_text y m all.1.0 f in
        let escape : not (suffix_ends_in 92 n.suffix) ≡ true = ap part_is_kept same ∙ k in
        subst HasPartText same (record { text = start.0 ++ 45 ∷ end.0; is = range_part n m start.0 end.0 start.1 end.1 (not_true (suffix_ends_in 92 n.suffix) escape) })
    by (Ok n) e (Err m) f g = cc
    by (Err n) e s f g = cc
halves_part (x ∷ y ∷ z ∷ hs) p all h k = by (both_read x y) h
  where
    by : (r : Result (NumericView × NumericView) PageRangesPartErr) → result_and r (Err Malformed) ≡ Ok p → HasPartText p
    by (Ok q) g = cc
    by (Err e) g = cc

pub inside_apart : (cs : List ℕ) → list_all inside cs ≡ true → list_all apart cs ≡ true
inside_apart [] h = refl
inside_apart (c ∷ cs) h =
    let both = and-both (inside c) (list_all inside cs) h in
    both-and (apart c) (list_all apart cs) (and-both (apart c) (scalar c) both.0).0 (inside_apart cs both.1)

pub run_part : (q : List ℕ) (p : PartView) → list_all inside q ≡ true → part_read q ≡ Ok p → part_is_kept p ≡ true → HasPartText p
run_part q p all h k = by (trim_chars q) (trim-all inside q all) h
  where
    by : (cs : List ℕ) → list_all inside cs ≡ true → inner_read cs ≡ Ok p → HasPartText p
    by [] a g = cc
    by (c ∷ cs) a g = cut (nat_lt 1 (length (escaped_split (c ∷ cs)))) refl (sym (inner_apart (c ∷ cs) (inside_apart (c ∷ cs) a) (omega arith)) ∙ g)
      where
        cut : (b : Bool) → nat_lt 1 (length (escaped_split (c ∷ cs))) ≡ b → cond b (halves_read EscapedRange (escaped_split (c ∷ cs))) (halves_read Range (dash_split (c ∷ cs))) ≡ Ok p → HasPartText p
        cut true l f = absurd (not_escaped (escaped_split (c ∷ cs)) p l f k)
        cut false l f = halves_part (dash_split (c ∷ cs)) p (halves_good (c ∷ cs) a) f k

-- ---- parts in order

-- Parts that can be printed and read: behind a comma comes a page or a range, and between two of
-- these a separator. The truths say whether a page or a range may come first, and whether a separator
-- or the end may.
data Shown : Bool → Bool → List PartView → Type 0 where
  ended : {page : Bool} → Shown page true []
  ampersand_first : {page : Bool} (ps : List PartView) → Shown true true ps → Shown page true (Ampersand ∷ ps)
  comma_first : {page : Bool} (ps : List PartView) → Shown true false ps → Shown page true (Comma ∷ ps)
  page_first : {other : Bool} (p : PartView) (ps : List PartView) → HasPartText p → Shown false true ps → Shown true other (p ∷ ps)

record Back (page other : Bool) (ps : List PartView) : Type 0 where
  utf8 : IsUtf8 (shown_pages ps)
  read : collect (map part_read (pieces (chars (shown_pages ps)))) ≡ Ok ps
  blank : other ≡ false → collect (map part_read (pieces (32 ∷ chars (shown_pages ps)))) ≡ Ok ps
  stops : page ≡ false → IfSome (slice_get (chars (shown_pages ps)) 0) (λ d. is_separator d ≡ true)

ampersand_utf8 : IsUtf8 (38 ∷ [])
unfolding encode_utf8
ampersand_utf8 = (38 ∷ [], (refl, refl))

comma_utf8 : IsUtf8 (44 ∷ 32 ∷ [])
unfolding encode_utf8
comma_utf8 = (44 ∷ 32 ∷ [], (refl, refl))

chars-comma_blank : chars (44 ∷ 32 ∷ []) ≡ 44 ∷ 32 ∷ []
unfolding chars
chars-comma_blank = refl

run_first : (c : ℕ) (p : PartView) (text rest : List ℕ) (ps : List PartView) → is_separator c ≡ false → AllByRecursion (λ d. is_separator d ≡ false) text → IfSome (slice_get rest 0) (λ d. is_separator d ≡ true)
    → part_read (c ∷ text) ≡ Ok p → collect (map part_read (pieces rest)) ≡ Ok ps → collect (map part_read (pieces (c ∷ (text ++ rest)))) ≡ Ok (p ∷ ps)
run_first c p text rest ps s all stops one more = rw (pieces-run c text rest s all stops, one, more) refl

page_back : (p : PartView) (text : List ℕ) (ps : List PartView) → PartText p text → Back false true ps → collect (map part_read (pieces (text ++ chars (shown_pages ps)))) ≡ Ok (p ∷ ps)
page_back p [] ps t b = absurd (omega (arith, t.some))
page_back p (c ∷ cs) ps t b =
    let all = no_separators (c ∷ cs) t.apart_text in
    run_first c p cs (chars (shown_pages ps)) ps all.0 all.1 (b.stops refl) t.read b.read

back : {page other : Bool} {ps : List PartView} → Shown page other ps → Back page other ps
back ended = record { utf8 = IsUtf8-nil; read = rw chars-nil refl; blank = λ e. cc; stops = λ e. rw chars-nil tt }
back (ampersand_first ps more) =
    let b = back more in
    let text : chars (38 ∷ shown_pages ps) ≡ 38 ∷ chars (shown_pages ps) = chars-append (38 ∷ []) (shown_pages ps) ampersand_utf8 ∙ ap (λ l. l ++ chars (shown_pages ps)) chars-ampersand in
    record {
      utf8 = IsUtf8-append (38 ∷ []) (shown_pages ps) ampersand_utf8 b.utf8;
      read = rw (text, pieces-separator 38 (chars (shown_pages ps)) refl, b.read) refl;
      blank = λ e. cc;
      stops = λ e. rw text refl;
    }
back (comma_first ps more) =
    let b = back more in
    let c : List ℕ = chars (shown_pages ps) in
    let text : chars (44 ∷ 32 ∷ shown_pages ps) ≡ 44 ∷ 32 ∷ c = chars-append (44 ∷ 32 ∷ []) (shown_pages ps) comma_utf8 ∙ ap (λ l. l ++ c) chars-comma_blank in
    record {
      utf8 = IsUtf8-append (44 ∷ 32 ∷ []) (shown_pages ps) comma_utf8 b.utf8;
      read = rw (text, pieces-separator 44 (32 ∷ c) refl, b.blank refl) refl;
      blank = λ e. cc;
      stops = λ e. rw text refl;
    }
back (page_first p ps t more) =
    let b = back more in
    let c : List ℕ = chars (shown_pages ps) in
    let text : chars (shown_part p ++ shown_pages ps) ≡ t.text ++ c = chars-append (shown_part p) (shown_pages ps) t.is.utf8 ∙ ap (λ l. l ++ c) t.is.shown in
    let run = run_first 32 p t.text c ps refl (no_separators t.text t.is.apart_text) (b.stops refl) t.is.blank b.read in
    record {
      utf8 = IsUtf8-append (shown_part p) (shown_pages ps) t.is.utf8 b.utf8;
      read = rw text (page_back p t.text ps t.is b);
      blank = λ e. rw text run;
      stops = λ e. cc;
    }

-- ---- parts that were read

pub separator_part : (q : List ℕ) (p : PartView) → IsSeparator q → part_read q ≡ Ok p → (p ≡ Ampersand) ⊎ (p ≡ Comma)
separator_part q p (c, s, is) h = by (nat_eq c 38) refl (nat_eq c 44) refl
  where
    by : (a : Bool) → nat_eq c 38 ≡ a → (b : Bool) → nat_eq c 44 ≡ b → (p ≡ Ampersand) ⊎ (p ≡ Comma)
    by true e b f =
        let same : c ≡ 38 = grind (arith, nat_tests) in
        let read : part_read (38 ∷ []) ≡ Ok p = rw (is, same) at h in
        inl (let one : Ampersand ≡ p = cc in sym one)
    by false e true f =
        let same : c ≡ 44 = grind (arith, nat_tests) in
        let read : part_read (44 ∷ []) ≡ Ok p = rw (is, same) at h in
        inr (let one : Comma ≡ p = cc in sym one)
    by false e false f = let none : is_separator c ≡ false = rw (f, e) refl in cc

-- a piece that is a run is no separator
pub run_only : (q : List ℕ) → IsRun q → IsSeparator q → ⊥
run_only q run (c, s, is) = let all = recursion_from_All (λ d. is_separator d ≡ false) q run.1 in by c s (rw is at all)
  where
    by : (c : ℕ) → is_separator c ≡ true → AllByRecursion (λ d. is_separator d ≡ false) (c ∷ []) → ⊥
    by c s all = let no = all.0 in cc

-- each piece has characters of a text
abbrev AllScalars : List (List ℕ) → Type 0
AllScalars qs = AllByRecursion (λ q. list_all scalar q ≡ true) qs

pub run_inside : (q : List ℕ) → IsRun q → list_all scalar q ≡ true → list_all inside q ≡ true
run_inside q run u = by q (recursion_from_All (λ d. is_separator d ≡ false) q run.1) u
  where
    by : (cs : List ℕ) → AllByRecursion (λ d. is_separator d ≡ false) cs → list_all scalar cs ≡ true → list_all inside cs ≡ true
    by [] a s = refl
    by (c ∷ cs) a s = let both = and-both (scalar c) (list_all scalar cs) s in rw (a.0, both.0) (by cs a.1 both.1)

-- a page or a range comes first
abbrev begins_with_page : List PartView → Bool
begins_with_page [] = false
begins_with_page (p ∷ ps) = not (is_separator_part p)

-- the pieces that are left, and the parts that they are
record AreLeft (page other : Bool) (qs : List (List ℕ)) (ps : List PartView) : Type 0 where
  each : AllByRecursion (λ q. IsSeparator q ⊎ IsRun q) qs
  apart_pieces : AreApart qs
  texts : AllScalars qs
  read : map part_read qs ≡ map (λ p. Ok p) ps
  kept : list_all part_is_kept ps ≡ true
  commas : commas_are_kept ps ≡ true
  no_page : page ≡ false → IfSome (slice_get qs 0) IsSeparator
  a_page : other ≡ false → begins_with_page ps ≡ true

apart_rest : (q : List ℕ) (qs : List (List ℕ)) → AreApart (q ∷ qs) → AreApart qs
apart_rest q [] a = tt
apart_rest q (r ∷ qs) a = a.1

behind_run : (q : List ℕ) (qs : List (List ℕ)) → IsRun q → AreApart (q ∷ qs) → IfSome (slice_get qs 0) IsSeparator
behind_run q [] run a = tt
behind_run q (r ∷ qs) run (inl s, more) = absurd (run_only q run s)
behind_run q (r ∷ qs) run (inr s, more) = s

pub heads : (q : List ℕ) (qs : List (List ℕ)) (p : PartView) (ps : List PartView) → map part_read (q ∷ qs) ≡ map (λ p. Ok p) (p ∷ ps) → (part_read q ≡ Ok p) × (map part_read qs ≡ map (λ p. Ok p) ps)
heads q qs p ps h = (let one : part_read q ≡ Ok p = cc in one, let more : map part_read qs ≡ map (λ p. Ok p) ps = cc in more)

commas_behind : (p : PartView) (ps : List PartView) → commas_are_kept (p ∷ ps) ≡ true → commas_are_kept ps ≡ true
commas_behind Ampersand ps h = h
commas_behind Comma [] h = refl
commas_behind Comma (q ∷ ps) h = (and-both (not (is_separator_part q)) (commas_are_kept (q ∷ ps)) h).1
commas_behind (EscapedRange s e) ps h = h
commas_behind (SinglePage n) ps h = h
commas_behind (Range s e) ps h = h

behind_comma : (ps : List PartView) → commas_are_kept (Comma ∷ ps) ≡ true → begins_with_page ps ≡ true
behind_comma [] h = cc
behind_comma (q ∷ ps) h = (and-both (not (is_separator_part q)) (commas_are_kept (q ∷ ps)) h).0

module _ (page other : Bool) (q : List ℕ) (qs : List (List ℕ)) (p : PartView) (ps : List PartView) (l : AreLeft page other (q ∷ qs) (p ∷ ps)) where
  next_left : (page other : Bool) → (page ≡ false → IfSome (slice_get qs 0) IsSeparator) → (other ≡ false → begins_with_page ps ≡ true) → AreLeft page other qs ps
  next_left page other stop a = record {
    each = l.each.1;
    apart_pieces = apart_rest q qs l.apart_pieces;
    texts = l.texts.1;
    read = (heads q qs p ps l.read).1;
    kept = (and-both (part_is_kept p) (list_all part_is_kept ps) l.kept).1;
    commas = commas_behind p ps l.commas;
    no_page = stop;
    a_page = a;
  }

  abbrev More : Type 0
  More = (page other : Bool) → AreLeft page other qs ps → Shown page other ps

  by_run : IsRun q → More → Shown page other (p ∷ ps)
  by_run run more = by page refl
    where
      by : (b : Bool) → page ≡ b → Shown b other (p ∷ ps)
      by false e = absurd (run_only q run (l.no_page e))
      by true e = page_first p ps (run_part q p (run_inside q run l.texts.0) (heads q qs p ps l.read).0 (and-both (part_is_kept p) (list_all part_is_kept ps) l.kept).0) (more false true (next_left false true (λ n. behind_run q qs run l.apart_pieces) (λ n. cc)))

  by_separator : (p ≡ Ampersand) ⊎ (p ≡ Comma) → More → Shown page other (p ∷ ps)
  by_separator sort more = by other refl sort
    where
      wanted : (r : PartView) → p ≡ r → other ≡ false → not (is_separator_part r) ≡ true
      wanted r e none = rw e at (l.a_page none)

      by : (b : Bool) → other ≡ b → (p ≡ Ampersand) ⊎ (p ≡ Comma) → Shown page b (p ∷ ps)
      by false e (inl s) = let no = wanted Ampersand s e in absurd (let f : ⊥ = cc in f)
      by false e (inr s) = let no = wanted Comma s e in absurd (let f : ⊥ = cc in f)
      by true e (inl s) = rw s (ampersand_first ps (more true true (next_left true true (λ n. cc) (λ n. cc))))
      by true e (inr s) = rw s (comma_first ps (more true false (next_left true false (λ n. cc) (λ n. behind_comma ps (rw s at l.commas)))))

were_read : (page other : Bool) (qs : List (List ℕ)) (ps : List PartView) → AreLeft page other qs ps → Shown page other ps
were_read page other [] [] l = by other refl
  where
    by : (b : Bool) → other ≡ b → Shown page b []
    by true e = ended
    by false e = let no = l.a_page e in absurd (let f : ⊥ = cc in f)
were_read page other [] (p ∷ ps) l = let h = l.read in absurd (let f : ⊥ = cc in f)
were_read page other (q ∷ qs) [] l = let h = l.read in absurd (let f : ⊥ = cc in f)
were_read page other (q ∷ qs) (p ∷ ps) l = by l.each.0 (λ a b m. were_read a b qs ps m)
  where
    by : IsSeparator q ⊎ IsRun q → ((a b : Bool) → AreLeft a b qs ps → Shown a b ps) → Shown page other (p ∷ ps)
    by (inl s) more = by_separator page other q qs p ps l (separator_part q p s (heads q qs p ps l.read).0) more
    by (inr run) more = by_run page other q qs p ps l run more

pub joined_scalars : (qs : List (List ℕ)) → list_all scalar (concat qs) ≡ true → AllScalars qs
joined_scalars [] h = tt
joined_scalars (q ∷ qs) h = let both = all-parts scalar q (concat qs) h in (both.0, joined_scalars qs both.1)

pub pages_kept : (text : List ℕ) (ps : List PartView) → IsUtf8 text → pages_read (chars text) ≡ Ok ps → are_kept ps ≡ true → pages_read (chars (shown_pages ps)) ≡ Ok ps
pages_kept text ps u h k =
    let cs : List ℕ = chars text in
    let p = AreItsPieces-pieces cs in
    let both = and-both (list_all part_is_kept ps) (commas_are_kept ps) k in
    let all : list_all scalar cs ≡ true = sym (all-scalars cs) ∙ scalars-chars text u in
    let left : AreLeft true true (pieces cs) ps = record {
      each = recursion_from_All (λ q. IsSeparator q ⊎ IsRun q) (pieces cs) p.each;
      apart_pieces = p.longest;
      texts = joined_scalars (pieces cs) (subst (λ (l : List ℕ). list_all scalar l ≡ true) (sym p.joined) all);
      read = all-collected (map part_read (pieces cs)) ps h;
      kept = both.0;
      commas = both.1;
      no_page = λ n. cc;
      a_page = λ n. cc;
    } in
    (back (were_read true true (pieces cs) ps left)).read

-- the page of a number from 0 on
pub page_kept : (z : ℤ) → is_readable z ≡ true → are_kept (page_of z ∷ []) ≡ true → pages_read (chars (shown_pages (page_of z ∷ []))) ≡ Ok (page_of z ∷ [])
page_kept (pos n) small k = pages_back (page_of (pos n) ∷ []) small
page_kept (negsuc n) small k = cc
