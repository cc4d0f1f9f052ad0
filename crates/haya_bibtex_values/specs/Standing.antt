-- Texts that are taken as they stand, but for LaTeX's ways to write some signs.
use Rattle.std.specs.Prelude.{ℕ, zero, suc, ◌-◌, ◌==◌, ◌&&◌, ◌||◌, not, Bool, List, [], ◌∷◌, codes, drop, length, take, if◌then◌else◌, encode_utf8_all, ◌++◌, Option, None, Some, option_to_list}
use Rattle.std.specs.Char.{is_whitespace}
use Rattle.std.specs.Str.{chars, trim}
use Rattle.haya_bibtex_values.specs.Fronts.{begins_letter, begins_white, begins_with}
use Rattle.haya_bibtex_values.specs.declared.standing.Piece.{Piece}

-- what is at the front of a text: the character that it stands for, if there is one, and how many
-- characters it has behind its first
abbrev pub piece_of : Option ℕ → ℕ → Piece
piece_of sign n = record { sign = sign; length = n }

abbrev pub tilde : ℕ → Piece
tilde n = piece_of (Some 126) n

-- the signs that a backslash makes plain: _ % & # $ ~ { } ^
abbrev pub is_escaped : ℕ → Bool
is_escaped c =
    (c == 95) || (c == 37) || (c == 38) || (c == 35) || (c == 36) || (c == 126) || (c == 123)
    || (c == 125) || (c == 94)

-- what is behind a backslash: `~{}`, a sign that is plain, or one that is nothing, - or /
abbrev pub escape_at : List ℕ → Piece
escape_at [] = piece_of (Some 92) 0
escape_at (c ∷ cs) =
    if (c == 126) && begins_with (codes "{}") cs then tilde 3
    else if is_escaped c then piece_of (Some c) 1
    else if (c == 45) || (c == 47) then piece_of None 1
    else piece_of (Some 92) 0

-- a word of letters, behind which no letter follows
abbrev pub has_word : List ℕ → List ℕ → Bool
has_word word text = begins_with word text && not (begins_letter (drop (length word) text))

-- braces, or one white character, belong to the word of a tilde
abbrev pub tilde_before : List ℕ → Piece
tilde_before behind =
    if begins_with (codes "{}") behind then tilde 16
    else if begins_white behind then tilde 15
    else tilde 14

abbrev pub backslash_at : List ℕ → Piece
backslash_at cs =
    if has_word (codes "textasciitilde") cs then tilde_before (drop 14 cs)
    else if has_word (codes "textunderscore") cs then piece_of (Some 95) 14
    else escape_at cs

-- a brace goes, but for those around a tilde
abbrev pub brace_at : List ℕ → Piece
brace_at cs =
    if begins_with (92 ∷ codes "textasciitilde}") cs then tilde 16
    else if begins_with (92 ∷ codes "~}") cs then tilde 3
    else piece_of None 0

abbrev pub dollar_at : List ℕ → Piece
dollar_at cs = if begins_with (92 ∷ codes "sim$") cs then tilde 5 else piece_of (Some 36) 0

-- a run of white characters is a blank, which its last one writes
abbrev pub white_at : List ℕ → Piece
white_at cs = if begins_white cs then piece_of None 0 else piece_of (Some 32) 0

abbrev pub piece_at : ℕ → List ℕ → Piece
piece_at c cs =
    if is_whitespace c then white_at cs
    else if c == 92 then backslash_at cs
    else if c == 123 then brace_at cs
    else if c == 125 then piece_of None 0
    else if c == 36 then dollar_at cs
    else piece_of (Some c) 0

-- the characters that a text stands for, of which so many belong to a piece already
abbrev pub standing_in : ℕ → List ℕ → List ℕ
standing_in n [] = []
standing_in (suc n) (c ∷ cs) = standing_in n cs
standing_in zero (c ∷ cs) =
    option_to_list (piece_at c cs).sign ++ standing_in (piece_at c cs).length cs

abbrev pub standing : List ℕ → List ℕ
standing cs = standing_in 0 cs

-- ---- the whole

-- how much text is before the brace that closes the one around it: all, where none does
abbrev pub inner_length : ℕ → List ℕ → ℕ
inner_length n [] = 0
inner_length n (c ∷ cs) =
    if c == 125 then (if n == 0 then 0 else suc (inner_length (n - 1) cs))
    else if c == 123 then suc (inner_length (suc n) cs)
    else suc (inner_length n cs)

-- a text without a command's word and the braces behind it, where they are around all the rest
abbrev pub inside_by : List ℕ → List ℕ → List ℕ
inside_by whole behind =
    if suc (inner_length 0 behind) == length behind then take (inner_length 0 behind) behind
    else whole

abbrev pub inside : List ℕ → List ℕ
inside text =
    if begins_with (92 ∷ codes "url{") text then inside_by text (drop 5 text)
    else if begins_with (92 ∷ codes "path{") text then inside_by text (drop 6 text)
    else if begins_with (92 ∷ codes "nolinkurl{") text then inside_by text (drop 11 text)
    else text

-- a text in UTF-8 as it stands
abbrev pub as_it_stands : List ℕ → List ℕ
as_it_stands text = trim (encode_utf8_all (standing (inside (chars (trim text)))))
