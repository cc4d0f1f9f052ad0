-- What a text at a column says, by what begins it, and the entries one after another.
use Rattle.std.proofs.Common.{◌≡◌, ℕ, zero, suc, ◌-◌, ◌<◌, ◌==◌, ◌&&◌, List, [], ◌∷◌, ◌++◌, take, drop, Bool, true, false, if◌then◌else◌, Option, Some, None, option_map, option_and_then, refl, sym, ap, ◌∙◌, append_assoc, arith}
use Rattle.std.specs.Borrow.{Bor}
use Rattle.json.specs.Json.{Json, array, Items, Members, member}
use Rattle.json.specs.Token.{Token}
use Rattle.json.specs.Token as token
use Rattle.json.specs.Tree.{json_tokens, items_tokens, members_tokens}
use Rattle.haya_yaml_text.specs.Keys.{key}
use Rattle.haya_yaml.specs.Line.{Lines, indent, is_dash, rest_of, texts}
use Rattle.haya_yaml.specs.Block.{Entry, Node, Values, cut, entries, entries_of, entries_with, item_value, items, items_in, member_value, members, members_in, node, node_with, one_item, one_member, takes_dashes, value}
use Rattle.haya_yaml.specs.Saying.{said, said_items, said_members}
use Rattle.haya_yaml.proofs.Options.{none_is, some_is}

pub node_is : (depth : ℕ) (edge : Option ℕ) (column : ℕ) (text : List ℕ) (lines : Lines)
    → node depth edge column text lines ≡ node_with (items_in node depth column text lines) (members_in node depth column text lines) depth edge column text lines
unfolding node
node_is zero edge column text lines = refl
node_is (suc depth) edge column text lines = refl

-- the entries that lines are, where the first begins at the column
pub entries_next : (map : Bool) (column : ℕ) (line : List ℕ) (more : Lines) → indent line ≡ column
    → entries_of map column (line ∷ more) ≡ entries map column (rest_of line) more
entries_next map column line more at =
    ap (λ k. entries_with k (rest_of line) (cut map (takes_dashes map column (rest_of line) more) column more)) at

same_column : (c : ℕ) → (c == c) ≡ true
same_column c = grind arith

-- the lines in two parts: those that belong to what stands above, and the entries behind them
pub parted : (map dashes : Bool) (column : ℕ) (lines own rest : List (Bor (List ℕ))) (n : ℕ)
    → cut map dashes column (texts lines) ≡ record { front = texts (take n lines); entries = entries_of map column (texts (drop n lines)) }
    → own ≡ take n lines → rest ≡ drop n lines → cut map dashes column (texts lines) ≡ record { front = texts own; entries = entries_of map column (texts rest) }
parted map dashes column lines own rest n is front back =
    is ∙ ap (λ ls. record { front = texts ls; entries = entries_of map column (texts (drop n lines)) }) (sym front)
    ∙ ap (λ ls. record { front = texts own; entries = entries_of map column (texts ls) }) (sym back)

-- an item and then the others
pub items_are : (f : Node) (v : Values) (column : ℕ) (text : List ℕ) (lines own : Lines) (es : List Entry) → is_dash text ≡ true
    → cut false false column lines ≡ record { front = own; entries = es }
    → items f v column (entries false column text lines) ≡ one_item (items f v column es) (item_value f v column (drop 1 text) own)
items_are f v column text lines own es dash parts =
    let tests : ((column == column) && is_dash text) ≡ true = rw (same_column column, dash) refl in
    ap (λ b. if b then one_item (items f v column (cut false false column lines).entries) (item_value f v column (drop 1 text) (cut false false column lines).front) else None) tests
    ∙ ap (λ c. one_item (items f v column c.entries) (item_value f v column (drop 1 text) c.front)) parts

-- a member and then the others
pub members_are : (f : Node) (v : Values) (column : ℕ) (text : List ℕ) (lines own : Lines) (es : List Entry) (k rest : List ℕ) (dashes : Bool) → key text ≡ Some (k, rest)
    → takes_dashes true column text lines ≡ dashes → cut true dashes column lines ≡ record { front = own; entries = es }
    → members f v column (entries true column text lines) ≡ option_and_then (λ j. option_map (member k j) (members f v column es)) (member_value f v column rest own)
members_are f v column text lines own es k rest dashes keyed takes parts =
    ap (λ b. if b then one_member (λ t. member_value f v column t (cut true (takes_dashes true column text lines) column lines).front)
    (members f v column (cut true (takes_dashes true column text lines) column lines).entries) (key text) else None) (same_column column)
    ∙ ap (λ d. one_member (λ t. member_value f v column t (cut true d column lines).front) (members f v column (cut true d column lines).entries) (key text)) takes
    ∙ ap (λ c. one_member (λ t. member_value f v column t c.front) (members f v column c.entries) (key text)) parts
    ∙ ap (λ o. one_member (λ t. member_value f v column t own) (members f v column es) o) keyed

-- what is said of one, and what is left to say
pub item_on : (old mid : List Token) (found : Option Json) (more : Option Items) → said old found ≡ Some mid → said_items old (one_item more found) ≡ said_items mid more
item_on old mid None more is = none_is mid is
item_on old mid (Some j) None is = refl
item_on old mid (Some j) (Some js) is =
    let mid_is = some_is (old ++ json_tokens j) mid is in
    ap Some (sym (append_assoc old (json_tokens j) (items_tokens js)) ∙ ap (λ t. t ++ items_tokens js) mid_is)

pub member_on : (old keyed mid : List Token) (k : List ℕ) (found : Option Json) (more : Option Members) → keyed ≡ old ++ token.key k ∷ [] → said keyed found ≡ Some mid
    → said_members old (option_and_then (λ j. option_map (member k j) more) found) ≡ said_members mid more
member_on old keyed mid k None more first is = none_is mid is
member_on old keyed mid k (Some j) None first is = refl
member_on old keyed mid k (Some j) (Some ms) first is =
    let mid_is = some_is (keyed ++ json_tokens j) mid is in
    ap Some (
    sym (append_assoc old (token.key k ∷ []) (json_tokens j ++ members_tokens ms))
    ∙ ap (λ t. t ++ (json_tokens j ++ members_tokens ms)) (sym first)
    ∙ sym (append_assoc keyed (json_tokens j) (members_tokens ms))
    ∙ ap (λ t. t ++ members_tokens ms) mid_is
    )

pub no_items_said : (front : List Token) (found : Option Items) → said_items front found ≡ None → found ≡ None
no_items_said front None e = refl
no_items_said front (Some js) e = none_is (front ++ items_tokens js) (sym e)

pub no_members_said : (front : List Token) (found : Option Members) → said_members front found ≡ None → found ≡ None
no_members_said front None e = refl
no_members_said front (Some ms) e = none_is (front ++ members_tokens ms) (sym e)

pub list_said : (old opened new : List Token) (found : Option Items) → opened ≡ old ++ token.begin_array ∷ [] → said_items opened found ≡ Some new → said old (option_map array found) ≡ Some new
list_said old opened new None first is = none_is new is
list_said old opened new (Some js) first is =
    ap Some (sym (append_assoc old (token.begin_array ∷ []) (items_tokens js)) ∙ ap (λ t. t ++ items_tokens js) (sym first)) ∙ is

pub items_inside : (n column : ℕ) (text : List ℕ) (lines : Lines) → 0 < n → items_in node n column text lines ≡ items (node (n - 1)) (value (n - 1)) column (entries false column text lines)
items_inside n column text lines some =
    let next : n ≡ suc (n - 1) = omega arith in
    ap (λ k. items_in node k column text lines) next
