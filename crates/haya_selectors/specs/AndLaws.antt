-- What `&` finds among parents: an assignment of its members, the least there is.
use Rattle.std.specs.Prelude.{◌≡◌, ◌≢◌, ◌↔◌, ℕ, true, List, Some, is_some}
use Rattle.haya_assignment.specs.Assignment.{ComesBefore, IsAssignment}
use Rattle.haya_entry.specs.Tree.{Tree}
use Rattle.haya_selectors.specs.Holds.{candidates, table_of}
use Rattle.haya_selectors.specs.Syntax.{Multi, Syntaxes}

-- the candidates of `&` are an assignment, which comes before every other one
abbrev pub AndIsLeast : Type 0
AndIsLeast = (members : Syntaxes) (xs : List Tree) (positions : List ℕ) →
    candidates (Multi members) xs ≡ Some positions →
    IsAssignment (table_of members xs) positions
    × ((others : List ℕ) → IsAssignment (table_of members xs) others → others ≢ positions →
    ComesBefore positions others)

-- `&` holds exactly where there is an assignment
abbrev pub AndHoldsWhereAssigned : Type 0
AndHoldsWhereAssigned = (members : Syntaxes) (xs : List Tree) →
    (is_some (candidates (Multi members) xs) ≡ true)
    ↔ ((positions : List ℕ) × IsAssignment (table_of members xs) positions)
