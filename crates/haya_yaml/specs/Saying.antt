-- What is written of what lines say.
use Rattle.std.specs.Prelude.{◌≡◌, ◌++◌, ℕ, List, Option, Some, None, option_map}
use Rattle.json.specs.Json.{Json, Items, Members}
use Rattle.json.specs.Token.{Token}
use Rattle.json.specs.Tree.{json_tokens, items_tokens, members_tokens}

-- what is written once the value is
abbrev pub said : List Token → Option Json → Option (List Token)
said front found = option_map (λ j. front ++ json_tokens j) found

-- once items are, with the bracket behind them
abbrev pub said_items : List Token → Option Items → Option (List Token)
said_items front found = option_map (λ js. front ++ items_tokens js) found

-- once members are
abbrev pub said_members : List Token → Option Members → Option (List Token)
said_members front found = option_map (λ ms. front ++ members_tokens ms) found

-- there is a text, and it is added
abbrev pub Adds : Option (List ℕ) → List ℕ → List ℕ → Type 0
Adds None old new = ⊥
Adds (Some text) old new = new ≡ old ++ text
