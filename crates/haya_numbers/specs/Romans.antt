-- Roman numbers as the field defines them: written place by place, and read letter by letter.
use Rattle.std.specs.Prelude.{ℕ, ◌+◌, ◌-◌, ◌/◌, ◌%◌, ◌==◌, nat_lt, List, [], ◌∷◌, ◌++◌, codes, if◌then◌else◌}
use Rattle.haya_numbers.specs.NumericForms.{copies}

-- a digit of a place, by the letters for one, five and ten there
abbrev pub digit_letters : List ℕ → List ℕ → List ℕ → ℕ → List ℕ
digit_letters one five ten d =
    if nat_lt d 4 then copies d one
    else if d == 4 then one ++ five
    else if nat_lt d 9 then five ++ copies (d - 5) one
    else one ++ ten

-- thousands, hundreds, tens and ones, each place by its digit
abbrev pub letters_by_place : ℕ → List ℕ
letters_by_place n =
    copies (n / 1000) (codes "m")
    ++ digit_letters (codes "c") (codes "d") (codes "m") (n / 100 % 10)
    ++ digit_letters (codes "x") (codes "l") (codes "c") (n / 10 % 10)
    ++ digit_letters (codes "i") (codes "v") (codes "x") (n % 10)

abbrev pub letter_i : ℕ
letter_i = 105

abbrev pub letter_v : ℕ
letter_v = 118

abbrev pub letter_x : ℕ
letter_x = 120

abbrev pub letter_l : ℕ
letter_l = 108

abbrev pub letter_c : ℕ
letter_c = 99

abbrev pub letter_d : ℕ
letter_d = 100

abbrev pub letter_m : ℕ
letter_m = 109

-- what a letter is worth
abbrev pub letter_value : ℕ → ℕ
letter_value c =
    if c == letter_m then 1000
    else if c == letter_d then 500
    else if c == letter_c then 100
    else if c == letter_l then 50
    else if c == letter_x then 10
    else if c == letter_v then 5
    else if c == letter_i then 1
    else 0

-- letters are worth their sum, where one before a greater one is taken away
abbrev pub letters_value : List ℕ → ℕ
letters_value [] = 0
letters_value (c ∷ []) = letter_value c
letters_value (c ∷ d ∷ cs) =
    if nat_lt (letter_value c) (letter_value d) then letters_value (d ∷ cs) - letter_value c
    else letter_value c + letters_value (d ∷ cs)
