-- What the lines of a text say.
use Rattle.std.specs.Prelude.{ℕ, zero, suc, ◌+◌, ◌==◌, ◌&&◌, ◌||◌, List, [], ◌∷◌, Bool, true, false, drop, Option, Some, None, option_map, option_and_then, if◌then◌else◌}
use Rattle.json.specs.Json.{Json, null, string, array, object, Items, no_items, item, Members, no_members, member}
use Rattle.haya_yaml_text.specs.Flow.{flow_value, plain, whole}
use Rattle.haya_yaml_text.specs.Keys.{key}
use Rattle.haya_yaml_text.specs.Signs.{begins_plain, begins_with, blanks, is_end, skip}
use Rattle.haya_yaml_text.specs.declared.scalar.Style.TheVariants.{Plain}
use Rattle.haya_yaml.specs.Line.{Lines, are_deeper, begins_dash, belongs, indent, is_dash, is_skipped, joined, rest_of}
use Rattle.haya_yaml.specs.Literal.{block_text}
use Rattle.haya_yaml.specs.declared.value.Form.{Form}
use Rattle.haya_yaml.specs.declared.value.Form.TheVariants.{Bracket, Quote, Block, Bare}

-- an item of a list or a member of a map: the column where it begins, the rest of its first line,
-- and the lines behind it that belong to it
pub record Entry : Type 0 where
  pub column : ℕ
  pub text : List ℕ
  pub lines : Lines

-- lines that belong to what stands above them, and the entries behind these
pub record Cut : Type 0 where
  pub front : Lines
  pub entries : List Entry

-- nothing stands behind the colon of this key
abbrev pub is_bare_key : Option (List ℕ × List ℕ) → Bool
is_bare_key None = false
is_bare_key (Some k) = is_end (skip true k.1)

-- items of a list at the column belong to the member of a map that begins with this text
abbrev pub takes_dashes : Bool → ℕ → List ℕ → Lines → Bool
takes_dashes map column text lines = map && (is_bare_key (key text) && begins_dash column lines)

abbrev pub cut_at : Bool → Bool → Bool → ℕ → List ℕ → Lines → (Bool → Cut) → Cut
cut_at true dashes map column line lines below =
    record { front = line ∷ (below dashes).front; entries = (below dashes).entries }
cut_at false dashes map column line lines below =
    record {
      front = [];
      entries =
          record {
            column = indent line;
            text = rest_of line;
            lines = (below (takes_dashes map column (rest_of line) lines)).front;
          }
          ∷ (below (takes_dashes map column (rest_of line) lines)).entries;
    }

-- The lines below an entry of a map or a list that begins at this column.
unfoldable pub cut : Bool → Bool → ℕ → Lines → Cut
cut map dashes column [] = record { front = []; entries = [] }
cut map dashes column (line ∷ lines) =
    cut_at (belongs dashes column line) dashes map column line lines
    (λ next. cut map next column lines)

-- an entry that begins at the column `at`, and those behind it
abbrev pub entries_with : ℕ → List ℕ → Cut → List Entry
entries_with at text c = record { column = at; text = text; lines = c.front } ∷ c.entries

-- the entries of which the first begins with this text at this column
abbrev pub entries : Bool → ℕ → List ℕ → Lines → List Entry
entries map column text lines =
    entries_with column text (cut map (takes_dashes map column text lines) column lines)

-- the entries that lines are, where the first line begins one
abbrev pub entries_of : Bool → ℕ → Lines → List Entry
entries_of map column [] = []
entries_of map column (line ∷ lines) =
    entries_with (indent line) (rest_of line)
    (cut map (takes_dashes map column (rest_of line) lines) column lines)

-- what, below an entry that begins at a column, or below none, a text at a column says together
-- with the lines behind it
abbrev pub Node : Type 0
Node = Option ℕ → ℕ → List ℕ → Lines → Option Json

-- what lines say that no text stands before
abbrev pub below : Node → Option ℕ → Lines → Option Json
below node edge [] = Some null
below node edge (line ∷ lines) =
    if is_skipped line then below node edge lines
    else node edge (indent line) (rest_of line) lines

-- the same, where the first line isn't skipped
abbrev pub from_first : Node → Option ℕ → Lines → Option Json
from_first node edge [] = Some null
from_first node edge (line ∷ lines) = node edge (indent line) (rest_of line) lines

-- what a text says together with the lines behind it, without regard to where it stands
abbrev pub Values : Type 0
Values = Option ℕ → List ℕ → Lines → Option Json

-- what begins here
abbrev pub form_of : List ℕ → Form
form_of [] = Bare
form_of (c ∷ cs) =
    if (c == 91) || (c == 123) then Bracket else if (c == 34) || (c == 39) then Quote
    else if (c == 124) || (c == 62) then Block else Bare

abbrev pub value_if : Form → ℕ → Values
value_if Bracket depth edge text lines = whole (flow_value depth (joined text lines))
value_if Quote depth edge text lines =
    if are_deeper edge lines then whole (flow_value depth (joined text lines)) else None
value_if Block depth edge text lines =
    if are_deeper edge lines then option_map string (block_text edge text lines) else None
value_if Bare depth edge text lines =
    if are_deeper edge lines then
    (if begins_plain false text then whole (plain Plain (joined text lines)) else None) else None

-- a value that isn't a list or a map over lines, below an entry that begins at a column, or below
-- none
abbrev pub value : ℕ → Values
value depth edge text lines = value_if (form_of text) depth edge text lines

-- what an item says behind its dash: behind a tab no list and no map begins
abbrev pub item_here : Node → Values → ℕ → List ℕ → Lines → Option Json
item_here node values column text lines =
    if begins_with 9 (skip false text) then values (Some column) (skip true text) lines
    else node (Some column) (column + 1 + blanks false text) (skip false text) lines

abbrev pub item_value : Node → Values → ℕ → List ℕ → Lines → Option Json
item_value node values column text lines =
    if is_end (skip true text) then below node (Some column) lines
    else item_here node values column text lines

-- what a member says behind its colon
abbrev pub member_value : Node → Values → ℕ → List ℕ → Lines → Option Json
member_value node values column text lines =
    if is_end (skip true text) then below node (Some column) lines
    else values (Some column) (skip true text) lines

abbrev pub one_item : Option Items → Option Json → Option Items
one_item more found = option_and_then (λ j. option_map (item j) more) found

abbrev pub items : Node → Values → ℕ → List Entry → Option Items
items node values column [] = Some no_items
items node values column (e ∷ es) =
    if (e.column == column) && is_dash e.text then
    one_item (items node values column es) (item_value node values column (drop 1 e.text) e.lines)
    else None

abbrev pub one_member : (List ℕ → Option Json) → Option Members → Option (List ℕ × List ℕ)
    → Option Members
one_member value more None = None
one_member value more (Some k) = option_and_then (λ j. option_map (member k.0 j) more) (value k.1)

abbrev pub members : Node → Values → ℕ → List Entry → Option Members
members node values column [] = Some no_members
members node values column (e ∷ es) =
    if e.column == column then
    one_member (λ text. member_value node values column text e.lines)
    (members node values column es) (key e.text) else None

abbrev pub has_key : Option (List ℕ × List ℕ) → Bool
has_key None = false
has_key (Some k) = true

-- The items or members that begin here, of a value that nests no deeper than the number, where
-- those inside are these.
abbrev pub items_in : (ℕ → Node) → ℕ → ℕ → List ℕ → Lines → Option Items
items_in inside zero column text lines = None
items_in inside (suc depth) column text lines =
    items (inside depth) (value depth) column (entries false column text lines)

abbrev pub members_in : (ℕ → Node) → ℕ → ℕ → List ℕ → Lines → Option Members
members_in inside zero column text lines = None
members_in inside (suc depth) column text lines =
    members (inside depth) (value depth) column (entries true column text lines)

abbrev pub node_with : Option Items → Option Members → ℕ → Node
node_with is ms depth edge column text lines =
    if is_dash text then option_map array is
    else if has_key (key text) then option_map object ms else value depth edge text lines

-- what a text at a column says, with lists and maps nested no deeper than the number
unfoldable pub node : ℕ → Node
node zero edge column text lines = node_with None None 0 edge column text lines
node (suc depth) edge column text lines =
    node_with (items (node depth) (value depth) column (entries false column text lines))
    (members (node depth) (value depth) column (entries true column text lines))
    (suc depth) edge column text lines

-- the items of which the first begins with this text at this column, each nested no deeper than the
-- number
abbrev pub items_at : ℕ → ℕ → List ℕ → Lines → Option Items
items_at depth column text lines =
    items (node depth) (value depth) column (entries false column text lines)

-- the items that lines are, where the first line begins one
abbrev pub items_of : ℕ → ℕ → Lines → Option Items
items_of depth column lines =
    items (node depth) (value depth) column (entries_of false column lines)

-- the members of which the first begins with this text at this column
abbrev pub members_at : ℕ → ℕ → List ℕ → Lines → Option Members
members_at depth column text lines =
    members (node depth) (value depth) column (entries true column text lines)

-- the members that lines are, where the first line begins one
abbrev pub members_of : ℕ → ℕ → Lines → Option Members
members_of depth column lines =
    members (node depth) (value depth) column (entries_of true column lines)
