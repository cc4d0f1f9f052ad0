-- The signs that appear in a text, and what stands between them. A text may have several lines,
-- with a line feed behind each but the last.
use Rattle.std.specs.Prelude.{ℕ, ◌==◌, ◌&&◌, ◌||◌, List, [], ◌∷◌, Bool, true, false, not, drop, Option, Some, None, if◌then◌else◌}
use Rattle.std.specs.List.{prefix_len}

-- a space, or where tabs count, a tab
abbrev pub is_blank : Bool → ℕ → Bool
is_blank tabs c = (c == 32) || (tabs && (c == 9))

abbrev pub is_white : ℕ → Bool
is_white c = is_blank true c

-- how many blanks begin a text
abbrev pub blanks : Bool → List ℕ → ℕ
blanks tabs text = prefix_len (is_blank tabs) text

-- a text without the blanks that begin it
abbrev pub skip : Bool → List ℕ → List ℕ
skip tabs text = drop (blanks tabs text) text

abbrev pub is_empty : List ℕ → Bool
is_empty [] = true
is_empty (c ∷ cs) = false

-- this sign stands here
abbrev pub begins_with : ℕ → List ℕ → Bool
begins_with sign [] = false
begins_with sign (c ∷ cs) = c == sign

abbrev pub is_hash : List ℕ → Bool
is_hash text = begins_with 35 text

-- nothing stands here, or a comment
abbrev pub is_end : List ℕ → Bool
is_end [] = true
is_end (c ∷ cs) = c == 35

-- white space stands here, or the end of the line
abbrev pub is_gap : List ℕ → Bool
is_gap [] = true
is_gap (c ∷ cs) = is_white c || (c == 10)

-- a comma or a bracket
abbrev pub is_flow_sign : ℕ → Bool
is_flow_sign c = (c == 44) || (c == 91) || (c == 93) || (c == 123) || (c == 125)

-- a comma or a bracket stands here, where these count
abbrev pub is_bracket : Bool → List ℕ → Bool
is_bracket flow [] = false
is_bracket flow (c ∷ cs) = flow && is_flow_sign c

-- a colon that ends a key stands here
abbrev pub ends_key : Bool → List ℕ → Bool
ends_key flow [] = false
ends_key flow (c ∷ cs) = (c == 58) && (is_gap cs || is_bracket flow cs)

-- the sign may begin no plain scalar
abbrev pub is_indicator : ℕ → Bool
is_indicator c =
    is_flow_sign c || (c == 35) || (c == 38) || (c == 42) || (c == 33) || (c == 124) || (c == 62)
    || (c == 39) || (c == 34) || (c == 37) || (c == 64) || (c == 96)

-- the sign may begin one if no gap follows
abbrev pub is_half_indicator : ℕ → Bool
is_half_indicator c = (c == 45) || (c == 63) || (c == 58)

-- a plain scalar may begin here
abbrev pub begins_plain : Bool → List ℕ → Bool
begins_plain flow [] = false
begins_plain flow (c ∷ cs) =
    not (is_white c || (c == 10) || is_indicator c
    || (is_half_indicator c && (is_gap cs || is_bracket flow cs)))

-- A sign that is passed over, and whether the next is inside a comment: a comment begins behind
-- white space or a line end (`apart`), and ends where its line ends.
abbrev pub passes : Bool → Bool → ℕ → Option Bool
passes inside apart c =
    if inside then Some (not (c == 10)) else if is_white c || (c == 10) then Some false
    else if (c == 35) && apart then Some true else None

abbrev pub passed_if : Option Bool → List ℕ → (Bool → List ℕ) → List ℕ
passed_if None text more = text
passed_if (Some inside) text more = more inside

-- what stands behind white space, line ends and comments
unfoldable pub passed : Bool → Bool → List ℕ → List ℕ
passed inside apart [] = []
passed inside apart (c ∷ cs) =
    passed_if (passes inside apart c) (c ∷ cs) (λ next. passed next true cs)

-- a line from its end on
unfoldable pub line_end : List ℕ → List ℕ
line_end [] = []
line_end (c ∷ cs) = if c == 10 then c ∷ cs else line_end cs
