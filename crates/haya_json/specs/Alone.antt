-- A value that nothing follows.
use Rattle.std.specs.Prelude.{List, Option, option_and_then}
use Rattle.json.specs.Json.{Json, value, if_last}
use Rattle.json.specs.Token.{Token}

-- the value that all of these tokens are, which nests no deeper than an element of a text may
abbrev pub value_alone : List Token → Option Json
value_alone ts = option_and_then (λ p. if_last p.0 p.1) (value 127 ts)
