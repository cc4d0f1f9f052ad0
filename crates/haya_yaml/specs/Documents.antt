-- The document of a text, and the characters that no text may have.
use Rattle.std.specs.Prelude.{ℕ, ◌-◌, get_or, length, take, chars, ◌==◌, ◌&&◌, ◌||◌, not, nat_le, nat_lt, List, [], ◌∷◌, Bool, true, false, drop, Option, Some, None, option_map, option_and_then, if◌then◌else◌}
use Rattle.json.specs.Json.{Json}
use Rattle.haya_yaml_text.specs.Signs.{begins_with, is_end, is_gap, skip}
use Rattle.haya_yaml.specs.Line.{Lines, is_skipped}
use Rattle.haya_yaml.specs.Block.{below, node, value}

-- what follows this sign, where it stands here
abbrev pub behind_sign : ℕ → List ℕ → Option (List ℕ)
behind_sign sign [] = None
behind_sign sign (c ∷ cs) = if c == sign then Some cs else None

abbrev pub and_sign : ℕ → Option (List ℕ) → Option (List ℕ)
and_sign sign found = option_and_then (behind_sign sign) found

abbrev pub before_gap : Option (List ℕ) → Option (List ℕ)
before_gap found = option_and_then (λ text. if is_gap text then Some text else None) found

-- what follows three of this sign before a gap: `---` begins a document, and `...` ends one
abbrev pub behind_mark : ℕ → List ℕ → Option (List ℕ)
behind_mark sign line = before_gap (and_sign sign (and_sign sign (behind_sign sign line)))

abbrev pub behind_start : List ℕ → Option (List ℕ)
behind_start line = behind_mark 45 line

abbrev pub behind_stop : List ℕ → Option (List ℕ)
behind_stop line = behind_mark 46 line

abbrev pub is_digit : ℕ → Bool
is_digit c = nat_le 48 c && nat_le c 57

-- nothing stands here but a comment
abbrev pub is_clear : List ℕ → Bool
is_clear text = is_gap text && is_end (skip true text)

-- digits may follow, and nothing behind them
unfoldable pub is_clear_behind : List ℕ → Bool
is_clear_behind [] = true
is_clear_behind (c ∷ cs) = if is_digit c then is_clear_behind cs else is_clear (c ∷ cs)

abbrev pub is_version : List ℕ → Bool
is_version [] = false
is_version (c ∷ cs) = is_digit c && is_clear_behind cs

abbrev pub is_version_if : Option (List ℕ) → Bool
is_version_if None = false
is_version_if (Some text) = is_version text

-- a line `%YAML 1.` with digits behind it
abbrev pub is_directive : List ℕ → Bool
is_directive line =
    is_version_if
    (and_sign 46 (and_sign 49 (and_sign 32 (and_sign 76 (and_sign 77 (and_sign 65
    (and_sign 89 (behind_sign 37 line))))))))

abbrev pub is_clear_if : Option (List ℕ) → Bool
is_clear_if None = false
is_clear_if (Some text) = is_clear text

-- nothing but what ends a document stands on the lines
abbrev pub are_ended : Lines → Bool
are_ended [] = true
are_ended (line ∷ lines) = (is_skipped line || is_clear_if (behind_stop line)) && are_ended lines

-- the lines of a document, up to one that ends it
abbrev pub body_at : Option (List ℕ) → Option (List ℕ) → List ℕ → Lines → Option Lines
    → Option Lines
body_at (Some text) stop line lines more = None
body_at None (Some text) line lines more =
    if is_clear text && are_ended lines then Some [] else None
body_at None None line lines more = option_map (λ ls. line ∷ ls) more

unfoldable pub body : Lines → Option Lines
body [] = Some []
body (line ∷ lines) = body_at (behind_start line) (behind_stop line) line lines (body lines)

-- A document: what stands behind `---` on its line, and its lines.
pub record Document : Type 0 where
  pub front : List ℕ
  pub lines : Lines

abbrev pub with_front : List ℕ → Option Lines → Option Document
with_front front found = option_map (λ lines. record { front = front; lines = lines }) found

abbrev pub started : Option (List ℕ) → Bool → List ℕ → Lines → Option Document
started (Some text) told line lines = with_front text (body lines)
started None told line lines = if told then None else with_front [] (body (line ∷ lines))

-- The document of lines: at most one directive, which `---` has to follow, and perhaps `---`.
unfoldable pub document_of : Bool → Lines → Option Document
document_of told [] = if told then None else Some (record { front = []; lines = [] })
document_of told (line ∷ lines) =
    if is_skipped line then document_of told lines
    else if begins_with 37 line then
    (if is_directive line && not told then document_of true lines else None)
    else started (behind_start line) told line lines

-- what a document says
abbrev pub document_value : Document → Option Json
document_value d =
    if is_end (skip true d.front) then below (node 128) None d.lines
    else value 128 None (skip true d.front) d.lines

abbrev pub lines_value : Lines → Option Json
lines_value lines = option_and_then document_value (document_of false lines)

-- these two bytes stand here
abbrev pub is_two : ℕ → ℕ → List ℕ → Bool
is_two a b [] = false
is_two a b (c ∷ cs) = (c == a) && begins_with b cs

-- behind the byte 194, a character from U+0080 to U+009F but U+0085
abbrev pub is_c1 : List ℕ → Bool
is_c1 [] = false
is_c1 (c ∷ cs) = nat_lt c 160 && not (c == 133)

-- A character that no text in YAML may have: a control character but a tab and a line's end, a byte
-- order mark inside, U+FFFE or U+FFFF. `cs` is what follows the byte c.
abbrev pub is_control : ℕ → List ℕ → Bool
is_control c cs =
    (nat_lt c 32 && not ((c == 9) || ((c == 10) || ((c == 13) && begins_with 10 cs)))) || (c == 127)
    || ((c == 194) && is_c1 cs)
    || ((c == 239) && (is_two 187 191 cs || is_two 191 190 cs || is_two 191 191 cs))

-- the byte may begin such a character, and no other does
abbrev pub may_begin_control : ℕ → Bool
may_begin_control c =
    (nat_lt c 32 && not (c == 10)) || (c == 127) || (c == 194) || (c == 239)

-- no such character appears in the text
unfoldable pub is_printable : List ℕ → Bool
is_printable [] = true
is_printable (c ∷ cs) = not (is_control c cs) && is_printable cs

-- a byte order mark stands at the front
abbrev pub is_marked : List ℕ → Bool
is_marked [] = false
is_marked (c ∷ cs) = c == 65279

-- a text without the byte order mark at its front
abbrev pub unmarked : List ℕ → List ℕ
unmarked text = if is_marked (chars text) then drop 3 text else text

-- a text without the carriage return at its end
abbrev pub ended : List ℕ → List ℕ
ended text = if get_or text (length text - 1) 0 == 13 then take (length text - 1) text else text
