-- Statements of the laws.
use Rattle.std.specs.Prelude.{◌≡◌, ◌≢◌, ℕ, List, Some, None, All, AllPairs, Contains, IsTrue}
use Rattle.std.specs.Prelude.{length, is_some}
use Rattle.haya_assignment.specs.Answer.{IsShort}
use Rattle.haya_assignment.specs.Assignment.{Table, ComesBefore, IsAssignment, IsExclusive}
use Rattle.haya_assignment.specs.Assignment.{assignments, greedy, least}

-- the list has each assignment, and nothing else
abbrev pub AreAllAssignments : Type 0
AreAllAssignments = (table : Table) (positions : List ℕ) →
    (IsAssignment table positions → Contains (assignments table) positions)
    × (Contains (assignments table) positions → IsAssignment table positions)

-- it is in order
abbrev pub AreInOrder : Type 0
AreInOrder = (table : Table) → AllPairs ComesBefore (assignments table)

-- the least is an assignment, and comes before each other one
abbrev pub LeastComesFirst : Type 0
LeastComesFirst = (table : Table) (positions : List ℕ) → least table ≡ Some positions →
    IsAssignment table positions
    × ((others : List ℕ) → IsAssignment table others → others ≢ positions →
    ComesBefore positions others)

-- there is no least exactly where there is no assignment
abbrev pub NoLeast : Type 0
NoLeast = (table : Table) →
    (least table ≡ None → (positions : List ℕ) → ¬ IsAssignment table positions)
    × (((positions : List ℕ) → ¬ IsAssignment table positions) → least table ≡ None)

-- what greedy finds is the least
abbrev pub GreedyIsLeast : Type 0
GreedyIsLeast = (table : Table) (positions : List ℕ) → greedy table ≡ Some positions →
    least table ≡ Some positions

-- where no two rows are true at one position, greedy finds an assignment exactly if there is one
abbrev pub GreedyFinds : Type 0
GreedyFinds = (table : Table) → IsExclusive table →
    (IsTrue (is_some (greedy table)) → (positions : List ℕ) × IsAssignment table positions)
    × ((positions : List ℕ) × IsAssignment table positions → IsTrue (is_some (greedy table)))

-- members that are short of positions leave no assignment
abbrev pub ShortHasNone : Type 0
ShortHasNone = (table : Table) (parents : ℕ) (members positions : List ℕ) →
    All (λ row. length row ≡ parents) table → IsShort table parents members →
    ¬ IsAssignment table positions
