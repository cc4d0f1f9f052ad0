-- Characters, and runs and groups at the front of a text.
use Rattle.std.specs.Prelude.{ℕ, zero, suc, ◌+◌, ◌-◌, ◌==◌, ◌||◌, Bool, false, List, [], ◌∷◌, drop, if◌then◌else◌}
use Rattle.std.specs.Char.{is_whitespace}

-- the signs that a backslash makes plain, braces aside: & % $ # _ |
abbrev pub is_escaped : ℕ → Bool
is_escaped x = (x == 38) || (x == 37) || (x == 36) || (x == 35) || (x == 95) || (x == 124)

-- the signs that are a blank behind a backslash: \ ; : >
abbrev pub is_blank_sign : ℕ → Bool
is_blank_sign x = (x == 92) || (x == 59) || (x == 58) || (x == 62)

-- the signs that are nothing behind a backslash: - / @ !
abbrev pub is_empty_sign : ℕ → Bool
is_empty_sign x = (x == 45) || (x == 47) || (x == 64) || (x == 33)

-- how many characters at the front pass a test
abbrev pub run_length : (ℕ → Bool) → List ℕ → ℕ
run_length p [] = 0
run_length p (x ∷ xs) = if p x then suc (run_length p xs) else 0

abbrev pub white_length : List ℕ → ℕ
white_length xs = run_length is_whitespace xs

abbrev pub begins : ℕ → List ℕ → Bool
begins c [] = false
begins c (x ∷ xs) = x == c

abbrev pub begins_white : List ℕ → Bool
begins_white [] = false
begins_white (x ∷ xs) = is_whitespace x

-- how much text is before the brace that closes the group around, where so many braces are open
-- that begin no group: all, where none does
abbrev pub inner_length : ℕ → List ℕ → ℕ
inner_length n [] = 0
inner_length n (x ∷ xs) =
    if x == 125 then (if n == 0 then 0 else suc (inner_length (n - 1) xs))
    else if x == 123 then suc (inner_length (suc n) xs)
    else suc (inner_length n xs)

-- how long a text is with the brace behind it, if there is one
abbrev pub with_brace : ℕ → List ℕ → ℕ
with_brace n xs = if begins 125 (drop n xs) then suc n else n

-- how long the group is that a text begins with, its braces too
abbrev pub group_length : List ℕ → ℕ
group_length [] = 0
group_length (x ∷ xs) = if x == 123 then suc (with_brace (inner_length 0 xs) xs) else 0

-- how long white and a group behind it are: nothing, where there is no group
abbrev pub argument_length : List ℕ → ℕ
argument_length xs =
    if begins 123 (drop (white_length xs) xs)
    then white_length xs + group_length (drop (white_length xs) xs)
    else 0

-- how long so many arguments are, or as many as there are
abbrev pub arguments_length : ℕ → List ℕ → ℕ
arguments_length zero xs = 0
arguments_length (suc n) xs = argument_length xs + arguments_length n (drop (argument_length xs) xs)
