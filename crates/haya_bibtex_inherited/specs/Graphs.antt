-- Graphs: of each node the nodes to which its arrows lead.
use Rattle.std.specs.Prelude.{◌≡◌, ◌≢◌, ◌↔◌, ◌<◌, ℕ, List, [], Contains, get_or, length, take}

abbrev pub Graph : Type 0
Graph = List (List ℕ)

-- the nodes to which the arrows of a node lead
abbrev pub targets : Graph → ℕ → List ℕ
targets g i = get_or g i []

-- each arrow leads to a node
abbrev pub IsWhole : Graph → Type 0
IsWhole g = (i j : ℕ) → Contains (targets g i) j → j < length g

-- arrows lead from one node to another, one after the other; none lead to itself
pub data Leads (g : Graph) : ℕ → ℕ → Type 0 where
  leads_nowhere : (i : ℕ) → Leads g i i
  leads_by : (i j k : ℕ) → Contains (targets g i) j → Leads g j k → Leads g i k

-- an order of all nodes in which each comes behind the targets of its arrows, but for those from
-- which arrows lead back to it: exactly these have its rank
pub record IsInOrder (g : Graph) (ranks order : List ℕ) : Type 0 where
  pub all : (i : ℕ) → i < length g → Contains order i
  pub known : (k : ℕ) → k < length order → get_or order k 0 < length g
  pub behind : (k j : ℕ) → k < length order → Contains (targets g (get_or order k 0)) j →
      get_or ranks j 0 ≢ get_or ranks (get_or order k 0) 0 → Contains (take k order) j
  pub back : (i j : ℕ) → i < length g → Contains (targets g i) j →
      (get_or ranks j 0 ≡ get_or ranks i 0) ↔ Leads g j i
