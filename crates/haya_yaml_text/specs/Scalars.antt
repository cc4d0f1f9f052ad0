-- Plain and quoted scalars: their texts, which may go on over lines.
use Rattle.std.specs.Prelude.{ℕ, zero, suc, ◌==◌, ◌&&◌, ◌||◌, not, List, [], ◌∷◌, ◌++◌, Bool, true, false, replicate, Option, Some, None, option_map, if◌then◌else◌, encode_utf8}
use Rattle.haya_yaml_text.specs.Signs.{is_white, is_empty, is_bracket, ends_key, is_hash, begins_with, line_end}
use Rattle.haya_yaml_text.specs.Escapes.{escape}
use Rattle.haya_yaml_text.specs.declared.scalar.Style.{Style}
use Rattle.haya_yaml_text.specs.declared.scalar.Style.TheVariants.{Plain, PlainInBrackets, SingleQuoted, DoubleQuoted}
use Rattle.haya_yaml_text.specs.declared.scalar.Fold.{Fold}
use Rattle.haya_yaml_text.specs.declared.scalar.Fold.TheVariants.{Inside, Feeds, Joined}
use Rattle.haya_yaml_text.specs.declared.sign.Sign.{Sign}
use Rattle.haya_yaml_text.specs.declared.sign.Sign.TheVariants.{Ends, Closes, Wrong, Stands, Joins, Means}

-- the text of a scalar, and what follows it
abbrev pub Scalar : Type 0
Scalar = Option (List ℕ × List ℕ)

-- more before a scalar's text
abbrev pub behind : List ℕ → Scalar → Scalar
behind front found = option_map (λ p. (front ++ p.0, p.1)) found

-- what stands between two parts, with so many empty lines between them: a space, or a line feed for
-- each
abbrev pub fold_break : ℕ → List ℕ
fold_break zero = 32 ∷ []
fold_break (suc n) = replicate (suc n) 10

-- what is read of the white space and the line ends before a sign: between parts of one line the
-- white space itself, and behind a line that ends with `\` the line feeds of the empty lines alone
abbrev pub gap_text : Fold → List ℕ → List ℕ
gap_text Inside white = white
gap_text (Feeds n) white = fold_break n
gap_text (Joined n) white = replicate n 10

-- one more line ends
abbrev pub more_feeds : Fold → Fold
more_feeds Inside = Feeds 0
more_feeds (Feeds n) = Feeds (suc n)
more_feeds (Joined n) = Joined (suc n)

-- white space or a line's end comes before
abbrev pub is_apart : Fold → List ℕ → Bool
is_apart Inside white = not (is_empty white)
is_apart (Feeds n) white = true
is_apart (Joined n) white = true

-- what the sign that begins a text is in a plain scalar
abbrev pub plain_sign : Bool → Bool → List ℕ → Sign
plain_sign flow apart text =
    if (is_hash text && apart) || ends_key flow text || is_bracket flow text then Ends else Stands

-- what it is in single quotes: two of them are one
abbrev pub single_sign : List ℕ → Sign
single_sign [] = Wrong
single_sign (c ∷ cs) =
    if c == 39 then (if begins_with 39 cs then Means 39 1 else Closes) else Stands

-- what it is in double quotes
abbrev pub double_sign : List ℕ → Sign
double_sign [] = Wrong
double_sign (c ∷ cs) = if c == 34 then Closes else if c == 92 then escape cs else Stands

-- a line may not end in a scalar that goes on over no lines
abbrev pub if_lines : Bool → Sign → Sign
if_lines lines Ends = Ends
if_lines lines Closes = Closes
if_lines lines Wrong = Wrong
if_lines lines Stands = Stands
if_lines lines Joins = if lines then Joins else Wrong
if_lines lines (Means c n) = Means c n

abbrev pub sign_of : Bool → Style → Bool → List ℕ → Sign
sign_of lines Plain apart text = plain_sign false apart text
sign_of lines PlainInBrackets apart text = plain_sign true apart text
sign_of lines SingleQuoted apart text = single_sign text
sign_of lines DoubleQuoted apart text = if_lines lines (double_sign text)

-- a plain scalar may end anywhere, and a quoted one isn't closed where nothing more can belong to
-- it
abbrev pub may_end : Style → Bool
may_end Plain = true
may_end PlainInBrackets = true
may_end SingleQuoted = false
may_end DoubleQuoted = false

abbrev pub at_end : Style → List ℕ → Scalar
at_end style text = if may_end style then Some ([], text) else None

-- what follows a plain scalar, without the comment that ends it
abbrev pub without_comment : List ℕ → List ℕ
without_comment text = if is_hash text then line_end text else text

-- The scalar from a sign on, with the gap before the sign, and with what comes behind: `more`
-- passes over so many signs.
abbrev pub scalar_at : Sign → List ℕ → ℕ → List ℕ → (Fold → ℕ → Scalar) → Scalar
scalar_at Ends gap c cs more = Some ([], without_comment (c ∷ cs))
scalar_at Closes gap c cs more = Some (gap, cs)
scalar_at Wrong gap c cs more = None
scalar_at Stands gap c cs more = behind (gap ++ c ∷ []) (more Inside 0)
scalar_at Joins gap c cs more = behind gap (more (Joined 0) 1)
scalar_at (Means x n) gap c cs more = behind (gap ++ encode_utf8 x) (more Inside n)

-- The text of a scalar, and what follows it: `lines` where it may go on over lines, behind so many
-- signs that are passed over, and behind line ends and white space that are not read yet.
unfoldable pub scalar : Bool → Style → ℕ → Fold → List ℕ → List ℕ → Scalar
scalar lines style passing fold white [] = at_end style []
scalar lines style (suc n) fold white (c ∷ cs) = scalar lines style n fold white cs
scalar lines style zero fold white (c ∷ cs) =
    if is_white c then scalar lines style 0 fold (white ++ c ∷ []) cs
    else if c == 10 then
    (if lines then scalar lines style 0 (more_feeds fold) [] cs else at_end style (c ∷ cs))
    else scalar_at (sign_of lines style (is_apart fold white) (c ∷ cs)) (gap_text fold white) c cs
    (λ next n. scalar lines style n next [] cs)

-- the scalar that begins a text
abbrev pub scalar_of : Bool → Style → List ℕ → Scalar
scalar_of lines style text = scalar lines style 0 Inside [] text
