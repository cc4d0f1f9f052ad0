-- The token at the front of a text: what it writes, how long it is, and what it does with groups.
use Rattle.std.specs.Prelude.{ℕ, suc, ◌+◌, ◌-◌, ◌==◌, ◌&&◌, ◌||◌, not, Bool, false, List, [], ◌∷◌, take, drop, length, if◌then◌else◌, Option, None, Some}
use Rattle.std.specs.Char.{is_whitespace, is_ascii_alphabetic}
use Rattle.haya_latex_words.specs.Accents.{accent_of, alone, composed, dotted, mark}
use Rattle.haya_latex_words.specs.Commands.{Meaning, sign, point, accent, look, left_out, around, formula, unknown, meaning}
use Rattle.haya_latex_words.specs.declared.accent.Accent.{Accent}
use Rattle.haya_latex.specs.Kinds.{argument_kind, group_kind}
use Rattle.haya_latex.specs.Scans.{arguments_length, begins, begins_white, group_length, inner_length, is_blank_sign, is_empty_sign, is_escaped, run_length, white_length}
use Rattle.haya_latex.specs.declared.kinds.Kind.{Kind}
use Rattle.haya_latex.specs.declared.kinds.Turn.{Turn}
use Rattle.haya_latex.specs.declared.kinds.Turn.TheVariants.{Stay, Enter, Open, Close, Wait, Under}

-- what a token writes: nothing, a character, two, the text that a command stands for, math, or
-- nothing but the name of a command to be counted; the last is a sign that is written and counted
pub data Output : Type 0 where
  nothing : Output
  one : ℕ → Output
  two : ℕ → ℕ → Output
  text : List ℕ → Output
  math : List ℕ → Output
  counted : List ℕ → Output
  odd : ℕ → List ℕ → Output

-- its length is what is passed over behind its first character
pub record Token : Type 0 where
  pub output : Output
  pub length : ℕ
  pub turn : Turn

abbrev pub token : Output → ℕ → Turn → Token
token w n t = record { output = w; length = n; turn = t }

abbrev pub plain : Output → ℕ → Token
plain w n = token w n Stay

-- a run of white characters is a blank, which its last one writes
abbrev pub white_at : List ℕ → Token
white_at xs = plain (if begins_white xs then nothing else one 32) 0

-- one or two of a sign
abbrev pub sign_at : ℕ → ℕ → ℕ → List ℕ → Token
sign_at c single double xs = if begins c xs then plain (one double) 1 else plain (one single) 0

-- up to three hyphens
abbrev pub dashes_at : List ℕ → Token
dashes_at [] = plain (one 45) 0
dashes_at (x ∷ xs) =
    if x == 45 then (if begins 45 xs then plain (one 8212) 2 else plain (one 8211) 1)
    else plain (one 45) 0

-- so many braces are open behind a character, of this group
abbrev pub open_behind : ℕ → ℕ → ℕ
open_behind n x = if x == 123 then suc n else if x == 125 then n - 1 else n

-- math ends at a dollar that no backslash is in front of, or at a bracket that one is in front of
abbrev pub is_end : ℕ → Bool → ℕ → Bool
is_end c escaped x = (x == c) && (if c == 36 then not escaped else escaped)

-- where math ends that this sign closes, and how many braces are open there: within the group
abbrev pub closing_in : ℕ → ℕ → Bool → Bool → ℕ → List ℕ → Option (ℕ × ℕ)
closing_in c i g escaped n [] = None
closing_in c i g escaped n (x ∷ xs) =
    if (x == 125) && g && (n == 0) then None
    else if is_end c escaped x then Some (i, n)
    else closing_in c (suc i) g ((x == 92) && not escaped) (open_behind n x) xs

abbrev pub closing : ℕ → ℕ → Bool → List ℕ → Option (ℕ × ℕ)
closing c n g xs = closing_in c 0 g false n xs

abbrev pub dollar_by : List ℕ → Option (ℕ × ℕ) → Token
dollar_by xs None = plain (one 36) 0
dollar_by xs (Some p) = token (math (take p.0 xs)) (suc p.0) (Open p.1)

-- a dollar that no other follows is itself
abbrev pub dollar_at : ℕ → Bool → List ℕ → Token
dollar_at n g xs = dollar_by xs (closing 36 n g xs)

-- math in `\(` or `\[` that nothing closes goes to the end of the group, or of the text
abbrev pub rest_length : ℕ → Bool → List ℕ → ℕ
rest_length n g xs = if g then inner_length n xs else length xs

abbrev pub bracket_by : ℕ → List ℕ → Option (ℕ × ℕ) → Token
bracket_by m xs None = token (math (take m xs)) (suc m) (Open 0)
bracket_by m xs (Some p) = token (math (take (p.0 - 1) xs)) (p.0 + 2) (Open p.1)

abbrev pub bracket_at : ℕ → ℕ → Bool → List ℕ → Token
bracket_at c n g xs = bracket_by (rest_length n g xs) xs (closing c n g xs)

-- a character with an accent
abbrev pub accented_by : Accent → ℕ → Option ℕ → Output
accented_by a c None = two c (mark a)
accented_by a c (Some d) = one d

abbrev pub accented : Accent → ℕ → Output
accented a c = accented_by a (dotted c) (composed a (dotted c))

-- an accent that nothing carries
abbrev pub alone_by : Option ℕ → Output
alone_by None = nothing
alone_by (Some c) = one c

-- what an accent is on: a group, a command or a character
abbrev pub accent_on : Kind → Accent → ℕ → List ℕ → Token
accent_on k a n [] = plain (alone_by (alone a)) n
accent_on k a n (x ∷ xs) =
    if x == 123 then token nothing (suc n) (Under a (argument_kind k (begins 92 xs)))
    else if x == 92 then token nothing n (Wait a)
    else if (x == 125) || (x == 36) then plain (alone_by (alone a)) n
    else plain (accented a x) (suc n)

-- an accent, behind so many characters of its command
abbrev pub accent_at : Kind → Accent → ℕ → List ℕ → Token
accent_at k a n xs = accent_on k a (n + white_length xs) (drop (white_length xs) xs)

-- a command that writes `there` where a group begins behind so many characters, and `last` at its
-- end; without a group it writes `nowhere`, and is so long
abbrev pub with_group : Kind → ℕ → List ℕ → Output → Option ℕ → Output → ℕ → Token
with_group k n [] there last nowhere m = plain nowhere m
with_group k n (x ∷ xs) there last nowhere m =
    if x == 123 then token there (suc n) (Enter (argument_kind k (begins 92 xs)) last)
    else plain nowhere m

-- a command that is so long, and white behind it
abbrev pub behind_white : Kind → ℕ → List ℕ → Output → Option ℕ → Output → ℕ → Token
behind_white k n xs there last nowhere m =
    with_group k (n + white_length xs) (drop (white_length xs) xs) there last nowhere m

abbrev pub look_at : Kind → ℕ → List ℕ → Token
look_at k n xs = behind_white k n xs nothing None nothing (n + white_length xs)

-- signs around what follows
abbrev pub around_at : Kind → ℕ → ℕ → ℕ → List ℕ → Token
around_at k a b n xs = behind_white k n xs (one a) (Some b) (two a b) (n + white_length xs)

-- a command that is left out with arguments that are so long; white behind them is no part of it
abbrev pub left_out_by : Kind → ℕ → ℕ → List ℕ → Token
left_out_by k n m xs =
    if m == 0 then look_at k n xs
    else behind_white k (n + m) (drop m xs) nothing None nothing (n + m)

abbrev pub left_out_at : Kind → ℕ → ℕ → List ℕ → Token
left_out_at k count n xs = left_out_by k n (arguments_length count xs) xs

-- a command that isn't known
abbrev pub unknown_at : Kind → List ℕ → ℕ → List ℕ → Token
unknown_at k word n xs = behind_white k n xs (counted word) None (counted word) n

-- a group that is a formula
abbrev pub formula_by : List ℕ → ℕ → List ℕ → Token
formula_by word n [] = plain (counted word) n
formula_by word n (x ∷ xs) =
    if x == 123 then plain (math (take (inner_length 0 xs) xs)) n
    else plain (counted word) n

abbrev pub formula_at : List ℕ → ℕ → ℕ → List ℕ → Token
formula_at word n w xs =
    if begins 123 (drop w xs) then formula_by word (n + w + group_length (drop w xs)) (drop w xs)
    else plain (counted word) n

abbrev pub command_by : Kind → List ℕ → ℕ → List ℕ → Meaning → Token
command_by k word n xs (sign cs) = plain (text cs) (n + white_length xs)
command_by k word n xs (point cs) = plain (text cs) n
command_by k word n xs (accent a) = accent_at k a n xs
command_by k word n xs look = look_at k n xs
command_by k word n xs (left_out count) = left_out_at k count n xs
command_by k word n xs (around a b) = around_at k a b n xs
command_by k word n xs formula = formula_at word n (white_length xs) xs
command_by k word n xs unknown = unknown_at k word n xs

abbrev pub word_at : Kind → ℕ → List ℕ → Token
word_at k n xs = command_by k (take n xs) n (drop n xs) (meaning (take n xs))

-- a backslash and a sign that is no accent
abbrev pub escape_at : ℕ → Bool → ℕ → List ℕ → Token
escape_at n g c xs =
    if is_whitespace c then plain (one 32) (suc (white_length xs))
    else if c == 123 then token (one 123) 1 (Open (suc n))
    else if c == 125 then token (one 125) 1 Close
    else if c == 40 then bracket_at 41 n g xs
    else if c == 91 then bracket_at 93 n g xs
    else if c == 44 then plain (one 8201) 1
    else if is_escaped c then plain (one c) 1
    else if is_blank_sign c then plain (one 32) 1
    else if is_empty_sign c then plain nothing 1
    else plain (odd c (c ∷ [])) 1

abbrev pub sign_by : Kind → ℕ → Bool → ℕ → List ℕ → Option Accent → Token
sign_by k n g c xs None = escape_at n g c xs
sign_by k n g c xs (Some a) = accent_at k a 1 xs

-- what is behind a backslash
abbrev pub control_at : Kind → ℕ → Bool → List ℕ → Token
control_at k n g [] = plain (one 92) 0
control_at k n g (c ∷ xs) =
    if is_ascii_alphabetic c then word_at k (run_length is_ascii_alphabetic (c ∷ xs)) (c ∷ xs)
    else sign_by k n g c xs (accent_of c)

-- a backslash at the end of a group is itself
abbrev pub backslash_at : Kind → ℕ → Bool → List ℕ → Token
backslash_at k n g xs =
    if g && (n == 0) && begins 125 xs then plain (one 92) 0 else control_at k n g xs

-- quotation marks, and the others that stand for one character
abbrev pub character_at : ℕ → List ℕ → Token
character_at x xs =
    if x == 126 then plain (one 160) 0
    else if x == 45 then dashes_at xs
    else if x == 96 then sign_at 96 8216 8220 xs
    else if x == 39 then sign_at 39 8217 8221 xs
    else if x == 63 then sign_at 96 63 191 xs
    else if x == 33 then sign_at 96 33 161 xs
    else plain (one x) 0

-- the token of this character and what follows it, in text of this kind, where so many braces are
-- open that begin no group, in a group or outside of all
abbrev pub token_at : Kind → ℕ → Bool → ℕ → List ℕ → Token
token_at k n g x xs =
    if is_whitespace x then white_at xs
    else if x == 92 then backslash_at k n g xs
    else if x == 123 then token nothing 0 (Enter (group_kind k (begins 92 xs)) None)
    else if x == 125 then token nothing 0 Close
    else if x == 36 then dollar_at n g xs
    else character_at x xs
