-- What is written in YAML.
use Rattle.std.specs.Prelude.{◌≡◌, ℕ, List, Some}
use Rattle.json.specs.Json.{Json, document}
use Rattle.haya_yaml.specs.Says.{TextSays}

-- the text says in YAML what this one says in JSON
pub record SaysJson (json text : List ℕ) : Type 0 where
  pub value : Json
  pub parsed : document json ≡ Some value
  pub says : TextSays text value
