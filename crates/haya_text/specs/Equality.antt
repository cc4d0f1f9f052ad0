-- What `==` of a type says, and `Hash` beside it.
use Rattle.std.specs.Prelude.{◌≡◌, ◌↔◌, Bool, true}

-- `==` holds exactly where the views of both are equal
abbrev pub EqualsByView : {X Y : Type 0} → (X → X → Bool) → (X → Y) → Type 0
EqualsByView {X} eq view = (a b : X) → (eq a b ≡ true) ↔ (view a ≡ view b)

-- `==` holds exactly where both are equal
abbrev pub EqualsByValue : {X : Type 0} → (X → X → Bool) → Type 0
EqualsByValue eq = EqualsByView eq (λ x. x)

-- what is equal by `==` gives a hasher the same
abbrev pub HashesAlike : {X Y : Type 0} → (X → X → Bool) → (X → Y) → Type 0
HashesAlike {X} eq hash_input = (a b : X) → eq a b ≡ true → hash_input a ≡ hash_input b
