-- What a text reads as as pages.
use Rattle.std.specs.Prelude.{◌≡◌, ◌==◌, ◌++◌, ℕ, false, List, [], ◌∷◌, map, length, nat_lt, if◌then◌else◌, Result, Ok, Err, MatchResult}
use Rattle.std.specs.Result.{result_and, result_map_both}
use Rattle.std.specs.Str.{skip_leading_whitespace, drop_trailing_whitespace}
use Rattle.haya_text.specs.Characters.{comma}
use Rattle.haya_numbers.specs.Characters.{ampersand}
use Rattle.haya_numbers.specs.Cuts.{dash_split, escaped_split}
use Rattle.haya_numbers.specs.Numeric.{NumericView, is_memory}
use Rattle.haya_numbers.specs.NumericReading.{read_from}
use Rattle.haya_numbers.specs.Pages.{PartView, Ampersand, Comma, EscapedRange, SinglePage, Range, fault_of}
use Rattle.haya_numbers.specs.Pieces.{pieces}
use Rattle.haya_numbers.specs.declared.page.PageRangesPartErr.{PageRangesPartErr}
use Rattle.haya_numbers.specs.declared.page.PageRangesPartErr.TheVariants.{Empty, Malformed, NumericErr, OutOfMemory}

-- the characters without the white space at either end
abbrev pub trim_chars : List ℕ → List ℕ
trim_chars cs = drop_trailing_whitespace (skip_leading_whitespace cs)

-- both values, or the first fault
abbrev pub result_zip : {V W E : Type 0} → Result V E → Result W E → Result (V × W) E
result_zip (Err e) s = Err e
result_zip (Ok v) (Err e) = Err e
result_zip (Ok v) (Ok w) = Ok (v, w)

-- the number that a half of a range, or a whole page, is
abbrev pub half_read : List ℕ → Result NumericView PageRangesPartErr
half_read cs =
    result_map_both (λ n. n) fault_of (read_from (skip_leading_whitespace (trim_chars cs)))

-- both numbers, or the first fault
abbrev pub both_read : List ℕ → List ℕ → Result (NumericView × NumericView) PageRangesPartErr
both_read start end = result_zip (half_read start) (half_read end)

-- One half is a page, two are a range of that kind. More are malformed, where
-- the first two are numbers.
abbrev pub halves_read : (NumericView → NumericView → PartView) → List (List ℕ)
    → Result PartView PageRangesPartErr
halves_read range [] = Err Empty
halves_read range (page ∷ []) = result_map_both SinglePage (λ e. e) (half_read page)
halves_read range (start ∷ end ∷ []) =
    result_map_both (λ p. range p.0 p.1) (λ e. e) (both_read start end)
halves_read range (start ∷ end ∷ third ∷ more) = result_and (both_read start end) (Err Malformed)

-- the halves round escaped hyphens, where there is one, otherwise those round dashes
abbrev pub cut_read : List ℕ → Result PartView PageRangesPartErr
cut_read cs =
    if nat_lt 1 (length (escaped_split cs)) then halves_read EscapedRange (escaped_split cs)
    else halves_read Range (dash_split cs)

-- a part without white space at its ends
abbrev pub inner_read : List ℕ → Result PartView PageRangesPartErr
inner_read [] = Err Empty
inner_read (c ∷ []) =
    if c == ampersand then Ok Ampersand
    else if c == comma then Ok Comma
    else cut_read (c ∷ [])
inner_read (c ∷ d ∷ cs) = cut_read (c ∷ d ∷ cs)

-- what the characters of a part read as: a value, or the one fault
abbrev pub part_read : List ℕ → Result PartView PageRangesPartErr
part_read cs = inner_read (trim_chars cs)

-- all values in order, or the first fault
abbrev pub collect : {V E : Type 0} → List (Result V E) → Result (List V) E
collect [] = Ok []
collect (Err e ∷ rs) = Err e
collect (Ok v ∷ rs) = result_map_both (λ vs. v ∷ vs) (λ e. e) (collect rs)

-- what the characters of a text read as: a part for each piece, or the
-- fault of the first faulty one
abbrev pub pages_read : List ℕ → Result (List PartView) PageRangesPartErr
pages_read cs = collect (map part_read (pieces cs))

-- A fault other than out of memory is the text's. A number's fault is never out of memory.
abbrev pub IsFaultIn : {V : Type 0} → Result V PageRangesPartErr → PageRangesPartErr → Type 0
IsFaultIn read OutOfMemory = Unit {0}
IsFaultIn read (NumericErr e) = (is_memory e ≡ false) × (read ≡ Err (NumericErr e))
IsFaultIn read Malformed = read ≡ Err Malformed
IsFaultIn read Empty = read ≡ Err Empty

-- the results are values, then this fault, then any others
pub record IsFirstFault {V E : Type 0} (rs : List (Result V E)) (e : E) : Type 0 where
  pub before : List V
  pub behind : List (Result V E)
  pub is : rs ≡ map (λ v. Ok v) before ++ Err e ∷ behind

-- the value by this view, or the fault
abbrev pub Reads : {A V : Type 0} → (A → V) → Result V PageRangesPartErr
    → Result A PageRangesPartErr → Type 0
Reads view read result = MatchResult result (λ v. read ≡ Ok (view v)) (IsFaultIn read)
