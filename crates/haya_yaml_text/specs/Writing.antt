-- What is written of a value.
use Rattle.std.specs.Prelude.{◌≡◌, ◌++◌, List, Option, Some, None, option_map}
use Rattle.json.specs.Json.{Json, Items, Members}
use Rattle.json.specs.Token.{Token}
use Rattle.json.specs.Tree.{json_tokens, items_tokens, members_tokens}
use Rattle.json.specs.Written.{Written}
use Rattle.haya_yaml_text.specs.Flow.{Found}

-- the value is written behind what was there
abbrev pub WritesValue : Written → Written → Json → Type 0
WritesValue old new j = new.tokens ≡ old.tokens ++ json_tokens j

-- there is a value, and it is written
abbrev pub Says : Option Json → Written → Written → Type 0
Says None old new = ⊥
Says (Some j) old new = WritesValue old new j

-- there are items, and they are written with the bracket behind them
abbrev pub SaysItems : Option Items → Written → Written → Type 0
SaysItems None old new = ⊥
SaysItems (Some js) old new = new.tokens ≡ old.tokens ++ items_tokens js

-- there are members, and they are written with the bracket behind them
abbrev pub SaysMembers : Option Members → Written → Written → Type 0
SaysMembers None old new = ⊥
SaysMembers (Some ms) old new = new.tokens ≡ old.tokens ++ members_tokens ms

-- the bytes that stood before all that is written are the same
abbrev pub KeepsBefore : Written → Written → Type 0
KeepsBefore old new = new.before ≡ old.before

-- what is written once a value is, and what follows it
abbrev pub written : List Token → Found Json → Found (List Token)
written front found = option_map (λ p. (front ++ json_tokens p.0, p.1)) found

-- once items are, with the bracket behind them
abbrev pub written_items : List Token → Found Items → Found (List Token)
written_items front found = option_map (λ p. (front ++ items_tokens p.0, p.1)) found

-- once members are
abbrev pub written_members : List Token → Found Members → Found (List Token)
written_members front found = option_map (λ p. (front ++ members_tokens p.0, p.1)) found
