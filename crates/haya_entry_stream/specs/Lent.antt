-- What is known of a reader that is lent.
use Rattle.std.specs.Prelude.{ℕ, Bool, true, false, List, Option, None}

-- bytes that are known while a test holds
abbrev pub known_while : Bool → Option (List ℕ) → Option (List ℕ)
known_while true known = known
known_while false known = None
