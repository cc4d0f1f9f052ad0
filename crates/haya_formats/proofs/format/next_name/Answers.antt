use Rattle.std.proofs.Common.{◌≡◌, ℕ, List, [], Option, None, Some, Bor, option_map}
use Rattle.std.specs.Prelude.{IfNone}
use Rattle.json.specs.Json.{read_key}
use Rattle.json.specs.Token.{Token}
use Rattle.haya_formats.specs.Formats.{members_in}
use Rattle.haya_formats.proofs.Members.{none_left, none_read}
use Rattle.haya_formats.proofs.format.next_name.Goals as goal

none_named : (name : Option (Bor (List ℕ))) (ts rest : List Token) → read_key ts ≡ Some (option_map (λ s. s.now) name, rest)
    → IfNone name ((n : ℕ) → members_in n ts ≡ [])
none_named None ts rest read = none_left ts rest read
none_named (Some name) ts rest read = tt

pub returns-in-Ok-clause-none : goal.returns-in-Ok-clause-none
returns-in-Ok-clause-none c = none_named _ _ _ c.in-Ok.ensures.value

pub returns-in-Err-clause-none : goal.returns-in-Err-clause-none
returns-in-Err-clause-none c = none_read _ c.in-Err.ensures.value
