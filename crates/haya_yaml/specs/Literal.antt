-- Block scalars.
use Rattle.std.specs.Prelude.{ℕ, ◌+◌, ◌-◌, ◌^◌, ◌==◌, ◌&&◌, ◌||◌, nat_lt, nat_le, max, List, [], ◌∷◌, ◌++◌, Bool, true, false, length, drop, replicate, Option, Some, None, option_map, option_and_then, if◌then◌else◌}
use Rattle.haya_yaml_text.specs.Signs.{is_empty, is_end, is_gap, is_hash, is_white, skip}
use Rattle.haya_yaml_text.specs.Scalars.{fold_break}
use Rattle.haya_yaml.specs.Line.{are_skipped, indent}
use Rattle.haya_yaml.specs.declared.literal.Chomp.{Chomp}
use Rattle.haya_yaml.specs.declared.literal.Chomp.TheVariants.{Strip, Clip, Keep}
use Rattle.haya_yaml.specs.declared.literal.Last.{Last}
use Rattle.haya_yaml.specs.declared.literal.Last.TheVariants.{Start, Solid, Spaced}

-- nothing stands behind the mark and its signs, or a comment
abbrev pub header_end : Chomp → ℕ → List ℕ → Option (Chomp × ℕ)
header_end chomp digit text =
    if is_gap text && is_end (skip true text) then Some (chomp, digit) else None

abbrev pub is_digit : ℕ → Bool
is_digit c = nat_lt 48 c && nat_le c 57

abbrev pub behind_sign : Chomp → List ℕ → Option (Chomp × ℕ)
behind_sign chomp [] = Some (chomp, 0)
behind_sign chomp (c ∷ cs) =
    if is_digit c then header_end chomp (c - 48) cs else header_end chomp 0 (c ∷ cs)

abbrev pub behind_digit : ℕ → List ℕ → Option (Chomp × ℕ)
behind_digit digit [] = Some (Clip, digit)
behind_digit digit (c ∷ cs) =
    if c == 45 then header_end Strip digit cs else if c == 43 then header_end Keep digit cs
    else header_end Clip digit (c ∷ cs)

-- what the signs behind `|` or `>` ask for: what becomes of the line feeds at the end, and a digit,
-- or 0
abbrev pub header : List ℕ → Option (Chomp × ℕ)
header [] = Some (Clip, 0)
header (c ∷ cs) =
    if c == 45 then behind_sign Strip cs else if c == 43 then behind_sign Keep cs
    else if is_digit c then behind_digit (c - 48) cs else header_end Clip 0 (c ∷ cs)

-- an indent is deeper than the entry that is there; without one it is at least a column
abbrev pub is_inside : Option ℕ → ℕ → Bool
is_inside None n = nat_lt 0 n
is_inside (Some column) n = nat_lt column n

-- there are only spaces
abbrev pub is_bare : List ℕ → Bool
is_bare line = is_empty (skip false line)

-- how many spaces each line loses: the indent of the first with text, and none before it is longer
abbrev pub width_if : ℕ → ℕ → Option ℕ
width_if longest n = if nat_lt n longest then None else Some n

abbrev pub width : Option ℕ → ℕ → List (List ℕ) → Option ℕ
width edge longest [] = Some longest
width edge longest (line ∷ lines) =
    if is_bare line then width edge (max longest (length line)) lines
    else if is_inside edge (indent line) then width_if longest (indent line) else Some longest

-- the column of an entry, and 0 where there is none
abbrev pub column_of : Option ℕ → ℕ
column_of None = 0
column_of (Some column) = column

-- a width that a number of 64 bits can hold
abbrev pub fits : ℕ → Option ℕ
fits n = if nat_lt n (2 ^ 64) then Some n else None

-- the width that a digit asks for, or that of the lines
abbrev pub width_of : Option ℕ → ℕ → List (List ℕ) → Option ℕ
width_of edge digit lines =
    if digit == 0 then width edge 0 lines else fits (column_of edge + digit)

-- what begins with white space keeps the line feeds on both sides, and so does each line that isn't
-- folded
abbrev pub is_spaced : List ℕ → Bool
is_spaced [] = false
is_spaced (c ∷ cs) = is_white c

abbrev pub last_of : Bool → List ℕ → Last
last_of folded text = if folded then (if is_spaced text then Spaced else Solid) else Spaced

abbrev pub break_before : Last → ℕ → List ℕ → List ℕ
break_before Start n text = replicate n 10
break_before Solid n text = if is_spaced text then 10 ∷ replicate n 10 else fold_break n
break_before Spaced n text = 10 ∷ replicate n 10

-- what stands at the end, behind so many empty lines
abbrev pub end_of : Chomp → Last → ℕ → List ℕ
end_of Strip last n = []
end_of Clip Start n = []
end_of Clip Solid n = 10 ∷ []
end_of Clip Spaced n = 10 ∷ []
end_of Keep Start n = replicate n 10
end_of Keep Solid n = 10 ∷ replicate n 10
end_of Keep Spaced n = 10 ∷ replicate n 10

-- the line is content
abbrev pub is_content : Option ℕ → ℕ → List ℕ → Bool
is_content edge w line = is_bare line || (is_inside edge (indent line) && nat_le w (indent line))

-- the text of what is left of the lines
unfoldable pub block_rest : Bool → Chomp → Option ℕ → ℕ → Last → ℕ → List (List ℕ)
    → Option (List ℕ)
block_rest folded chomp edge w last n [] = Some (end_of chomp last n)
block_rest folded chomp edge w last n (line ∷ lines) =
    if is_content edge w line then
    (if is_empty (drop w line) then block_rest folded chomp edge w last (n + 1) lines
    else option_map (λ rest. (break_before last n (drop w line) ++ drop w line) ++ rest)
    (block_rest folded chomp edge w (last_of folded (drop w line)) 0 lines))
    else if is_hash (skip false line) && are_skipped lines then Some (end_of chomp last n) else None

-- the text begins with `>`
abbrev pub is_folded : List ℕ → Bool
is_folded [] = false
is_folded (c ∷ cs) = c == 62

-- the text of a block scalar whose first line is this, from its mark on
abbrev pub block_text : Option ℕ → List ℕ → List (List ℕ) → Option (List ℕ)
block_text edge text lines =
    option_and_then (λ h.
    option_and_then (λ w. block_rest (is_folded text) h.0 edge w Start 0 lines)
    (width_of edge h.1 lines)) (header (drop 1 text))
