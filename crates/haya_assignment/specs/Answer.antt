-- What the answers of `least_assignment` mean.
use Rattle.std.specs.Prelude.{◌≡◌, ◌<◌, ℕ, false, [], List, All, Some, None, filter, get_or, length}
use Rattle.std.specs.List.{list_any, range_with_len}
use Rattle.std.specs.List.Sorted.{IsStrictlyIncreasing}
use Rattle.haya_assignment.specs.Assignment.{Table, least}
use Rattle.haya_assignment.specs.Placed.{accepts, IsPlaced}
use Rattle.haya_assignment.specs.declared.assignment.Assignment.{Assignment}
use Rattle.haya_assignment.specs.declared.assignment.Assignment.TheVariants.{Found, Short}

-- the positions, of so many, where one of the members is accepted
abbrev pub accepted_positions : Table → ℕ → List ℕ → List ℕ
accepted_positions table parents members =
    filter (λ i. list_any (λ m. get_or (get_or table m []) i false) members)
    (range_with_len 0 parents)

-- members, each once and in ascending order, that are accepted at fewer positions than they are
pub record IsShort (table : Table) (parents : ℕ) (members : List ℕ) : Type 0 where
  pub ascending : IsStrictlyIncreasing members
  pub known : All (λ m. m < length table) members
  pub fewer : length (accepted_positions table parents members) < length members

-- the least assignment; or members that are short of positions, and no assignment
abbrev pub IsAnswer : Table → ℕ → Assignment → Type 0
IsAnswer table parents (Found v) = least table ≡ Some v.items
IsAnswer table parents (Short v) = (least table ≡ None) × IsShort table parents v.items

-- the statement, where an assignment was found
abbrev pub OnFound : Assignment → Type 0 → Type 0
OnFound (Found v) P = P
OnFound (Short v) P = Unit {0}

-- some assignment; or members that are short of positions, and no assignment
abbrev pub IsCompleted : Table → ℕ → Assignment → Type 0
IsCompleted table parents (Found v) =
    (length v.items ≡ length table) × IsPlaced (accepts table) v.items
IsCompleted table parents (Short v) = (least table ≡ None) × IsShort table parents v.items
