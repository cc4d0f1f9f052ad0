-- Values in brackets or quotes. They may go on over lines, and white space, line ends and comments
-- may stand between what they consist of.
use Rattle.std.specs.Prelude.{ℕ, zero, suc, ◌==◌, ◌||◌, List, [], ◌∷◌, length, Bool, true, false, drop, Option, Some, None, option_map, option_and_then, if◌then◌else◌}
use Rattle.json.specs.Json.{Json, null, string, array, object, Items, no_items, item, Members, no_members, member}
use Rattle.haya_yaml_text.specs.Signs.{begins_plain, begins_with, is_empty, passed, skip}
use Rattle.haya_yaml_text.specs.Scalars.{Scalar, scalar_of}
use Rattle.haya_yaml_text.specs.Keys.{key_scalar}
use Rattle.haya_yaml_text.specs.Resolved.{resolve}
use Rattle.haya_yaml_text.specs.declared.scalar.Style.{Style}
use Rattle.haya_yaml_text.specs.declared.scalar.Style.TheVariants.{PlainInBrackets, SingleQuoted, DoubleQuoted}

-- what is read at the front of a text, and what follows it
abbrev pub Found : Type 0 → Type 0
Found A = Option (A × List ℕ)

abbrev pub Reading : Type 0 → Type 0
Reading A = List ℕ → Found A

abbrev pub found_map : {A B : Type 0} → (A → B) → Found A → Found B
found_map f found = option_map (λ p. (f p.0, p.1)) found

-- what stands behind white space, line ends and comments
abbrev pub pass : List ℕ → List ℕ
pass text = passed false false text

-- a value behind which a comma or the closing bracket has to stand
abbrev pub item_behind : Reading Items → Json → List ℕ → Found Items
item_behind more j [] = None
item_behind more j (c ∷ cs) =
    if c == 44 then found_map (item j) (more cs)
    else if c == 93 then Some (item j no_items, cs) else None

abbrev pub one_item : Reading Items → Found Json → Found Items
one_item more found = option_and_then (λ p. item_behind more p.0 (pass p.1)) found

abbrev pub items_step : Reading Json → Reading Items → List ℕ → Found Items
items_step value more [] = None
items_step value more (c ∷ cs) =
    if c == 93 then Some (no_items, cs) else one_item more (value (c ∷ cs))

-- The items behind `[` or a comma. The number bounds the turns; the length of the text is always
-- enough.
unfoldable pub flow_items : Reading Json → ℕ → Reading Items
flow_items value zero text = None
flow_items value (suc n) text = items_step value (flow_items value n) (pass text)

-- whether a colon follows a key in braces, and what stands behind it
abbrev pub at_colon : List ℕ → Bool × List ℕ
at_colon text = if begins_with 58 text then (true, drop 1 text) else (false, text)

-- a comma or the closing brace stands here
abbrev pub ends_member : List ℕ → Bool
ends_member text = begins_with 44 text || begins_with 125 text

-- the value of a key, which is null where nothing stands behind its colon, or where it has none
abbrev pub value_behind : Reading Json → Bool → Reading Json
value_behind value colon text =
    if colon then (if ends_member (pass text) then Some (null, pass text) else value (pass text))
    else Some (null, text)

abbrev pub member_behind : Reading Members → List ℕ → Json → List ℕ → Found Members
member_behind more k j [] = None
member_behind more k j (c ∷ cs) =
    if c == 44 then found_map (member k j) (more cs)
    else if c == 125 then Some (member k j no_members, cs) else None

abbrev pub member_at : Reading Json → Reading Members → List ℕ → Bool × List ℕ → Found Members
member_at value more k colon =
    option_and_then (λ p. member_behind more k p.0 (pass p.1)) (value_behind value colon.0 colon.1)

abbrev pub one_member : Reading Json → Reading Members → Scalar → Found Members
one_member value more found =
    option_and_then (λ k. member_at value more k.0 (at_colon (skip true k.1))) found

abbrev pub members_step : Reading Json → Reading Members → List ℕ → Found Members
members_step value more [] = None
members_step value more (c ∷ cs) =
    if c == 125 then Some (no_members, cs)
    else one_member value more (key_scalar true (c ∷ cs))

-- the members behind `{` or a comma
unfoldable pub flow_members : Reading Json → ℕ → Reading Members
flow_members value zero text = None
flow_members value (suc n) text = members_step value (flow_members value n) (pass text)

abbrev pub quoted : Style → Reading Json
quoted style text = found_map string (scalar_of true style text)

abbrev pub plain : Style → Reading Json
plain style text = found_map resolve (scalar_of true style text)

abbrev pub flow_with : Reading Items → Reading Members → Reading Json
flow_with items members [] = None
flow_with items members (c ∷ cs) =
    if c == 91 then found_map array (items cs)
    else if c == 123 then found_map object (members cs)
    else if c == 34 then quoted DoubleQuoted cs else if c == 39 then quoted SingleQuoted cs
    else if begins_plain true (c ∷ cs) then plain PlainInBrackets (c ∷ cs) else None

-- The items or members in brackets of a value that nests no deeper than the number, where those
-- inside are read by this.
abbrev pub items_in : (ℕ → Reading Json) → ℕ → Reading Items
items_in inside zero text = None
items_in inside (suc depth) text = flow_items (inside depth) (length text) text

abbrev pub members_in : (ℕ → Reading Json) → ℕ → Reading Members
members_in inside zero text = None
members_in inside (suc depth) text = flow_members (inside depth) (length text) text

-- a value in brackets or quotes, or a plain scalar in brackets, where lists and maps nest no deeper
-- than the number
unfoldable pub flow_value : ℕ → Reading Json
flow_value zero = flow_with (λ text. None) (λ text. None)
flow_value (suc depth) =
    flow_with (λ text. flow_items (flow_value depth) (length text) text)
    (λ text. flow_members (flow_value depth) (length text) text)

-- nothing stands behind a value but white space, line ends and comments
abbrev pub whole : Found Json → Option Json
whole found = option_and_then (λ p. if is_empty (pass p.1) then Some p.0 else None) found
