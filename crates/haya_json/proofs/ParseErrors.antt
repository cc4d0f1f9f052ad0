-- Errors of a text that isn't read to a value.
use Rattle.std.proofs.Common.{◌≡◌, Option, None, Result}
use Rattle.std.specs.Prelude.{IsSomeAnd}
use Rattle.json.specs.Json.{Json}
use Rattle.json.specs.Strict.{HasUniqueKeys}
use Rattle.haya_json.specs.Refusal.{Refusal}
use Rattle.haya_json.specs.Libraries.{IsErrorOfJson, IsNameTwice, IsNotJson}
use Rattle.haya_json.specs.declared.error.ReadError.{ReadError}
use Rattle.haya_json.specs.declared.error.ReadError.TheVariants.{NotJson, NameTwice, Refused, OutOfMemory}

-- where there is no JSON, however its value would be read
pub error_of_none : {T : Type 0} (read : Json → Result T Refusal) (json : Option Json) (e : ReadError) → IsNotJson e → json ≡ None → IsErrorOfJson read json e
error_of_none read json (NotJson p) kind none = none
error_of_none read json (NameTwice p) kind none = absurd kind
error_of_none read json (Refused path why) kind none = absurd kind
error_of_none read json OutOfMemory kind none = tt

-- where an object has a member twice
pub error_of_twice : {T : Type 0} (read : Json → Result T Refusal) (json : Option Json) (e : ReadError) → IsNameTwice e → IsSomeAnd json (λ j. ¬ HasUniqueKeys j) → IsErrorOfJson read json e
error_of_twice read json (NotJson p) kind twice = absurd kind
error_of_twice read json (NameTwice p) kind twice = twice
error_of_twice read json (Refused path why) kind twice = absurd kind
error_of_twice read json OutOfMemory kind twice = tt

-- errors of the JSON of a text, whatever is known of it
pub ruleset parse_errors = (error_of_none, error_of_twice)
