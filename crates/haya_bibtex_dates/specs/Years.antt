-- Years in texts, as `c. 1850` and `1990/91`.
use Rattle.std.specs.Prelude.{ℕ, ◌==◌, ◌&&◌, ◌||◌, not, pos, Bool, true, false, List, [], ◌∷◌, codes, drop, option_map, reverse, Option, None, Some}
use Rattle.std.specs.Char.{is_ascii_digit, is_whitespace}
use Rattle.std.specs.List.{list_any, prefix_len, slice_split}
use Rattle.haya_time.specs.declared.date.Date.{Date}
use Rattle.haya_bibtex_dates.specs.Calendar.{marked, year_date}
use Rattle.haya_bibtex_dates.specs.Digits.{four_digits}

-- the first, and where there is none the second
abbrev pub first_of : {T : Type 0} → Option T → Option T → Option T
first_of None second = second
first_of (Some x) second = Some x

-- what the first of these tells that tells something
abbrev pub first_told : {X Y : Type 0} → (X → Option Y) → List X → Option Y
first_told tells [] = None
first_told tells (x ∷ xs) = first_of (tells x) (first_told tells xs)

abbrev pub is_no_digit : ℕ → Bool
is_no_digit c = not (is_ascii_digit c)

-- the number of the first run of digits that has four
abbrev pub year_number : List ℕ → Option ℕ
year_number text = first_told four_digits (slice_split is_no_digit text)

-- ---- whether the year is only about right

-- a tilde, or what it becomes in text
abbrev pub is_tilde : ℕ → Bool
is_tilde c = (c == 126) || (c == 160)

-- white and opening brackets are passed over
abbrev pub is_opening : ℕ → Bool
is_opening c = (c == 91) || (is_whitespace c && not (is_tilde c))

abbrev pub begins_with : List ℕ → List ℕ → Bool
begins_with [] text = true
begins_with (c ∷ cs) [] = false
begins_with (c ∷ cs) (x ∷ xs) = (x == c) && begins_with cs xs

abbrev pub about_words : List (List ℕ)
about_words = codes "c." ∷ codes "ca." ∷ codes "c " ∷ codes "ca " ∷ codes "circa" ∷ []

abbrev pub has_tilde_first : List ℕ → Bool
has_tilde_first [] = false
has_tilde_first (c ∷ cs) = is_tilde c

abbrev pub is_about_at : List ℕ → Bool
is_about_at text = has_tilde_first text || list_any (λ w. begins_with w text) about_words

abbrev pub is_about : List ℕ → Bool
is_about text =
    is_about_at (drop (prefix_len is_opening text) text) || has_tilde_first (reverse text)

-- the year that a text tells
abbrev pub year_in : List ℕ → Option Date
year_in text = option_map (λ n. marked (is_about text) (year_date (pos n))) (year_number text)
