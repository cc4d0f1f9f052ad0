-- What is pushed behind a text.
use Rattle.std.specs.Prelude.{◌≡◌, ℕ, List, ◌++◌, String, string_bytes}
use Rattle.std.specs.declared.alloc.Global.{Global}

-- these bytes are pushed
abbrev pub Appends : String Global → String Global → List ℕ → Type 0
Appends old new more = string_bytes new ≡ string_bytes old ++ more

-- Some bytes are pushed: whatever follows, the whole is what was there and these bytes before it.
abbrev pub Pushes : String Global → String Global → (List ℕ → List ℕ) → Type 0
Pushes old new more = (rest : List ℕ) → string_bytes new ++ rest ≡ string_bytes old ++ more rest
