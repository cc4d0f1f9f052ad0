-- A list of compiled nodes with the names of its slots, and how it grows.
use Rattle.std.specs.Prelude.{◌≡◌, ◌<◌, ◌≤◌, ℕ, List, [], ◌∷◌, length, map, position, string_bytes}
use Rattle.std.specs.Borrow.{Bor}
use Rattle.std.specs.BTreeMap.{BTreeMap, get_by}
use Rattle.std.specs.Cmp.Lexicographic.{slice_cmp}
use Rattle.std.specs.Ordering.{nat_cmp}
use Rattle.std.specs.Str.{bytes_eq}
use Rattle.indexmap.specs.IndexSet.{insert_all}
use Rattle.haya_selectors.specs.Compiled.{name_of, node_syntaxes, syntax_in}
use Rattle.haya_selectors.specs.Syntax.{Syntax, Syntaxes, chained, syntaxes}
use Rattle.haya_selectors.specs.declared.nodes.Nodes.{Nodes}

-- how many nodes there are, and the names of the slots
abbrev pub node_count : Nodes → ℕ
node_count nodes = length nodes.nodes.items

abbrev pub slot_names : Nodes → List (List ℕ)
slot_names nodes = map string_bytes nodes.names.items

-- the selector that the node of a number stands for
abbrev pub syntax_at : Nodes → ℕ → Syntax
syntax_at nodes number = syntax_in (node_syntaxes (slot_names nodes) nodes.nodes.items) number

-- those of numbers, as members of one
abbrev pub members_at : Nodes → List ℕ → Syntaxes
members_at nodes numbers = syntaxes (map (syntax_at nodes) numbers)

-- a node with others behind it, each after a `>`
abbrev pub chain_at : Nodes → ℕ → List ℕ → Syntax
chain_at nodes first others = chained (syntax_at nodes first) (map (syntax_at nodes) others)

-- what was there stays
pub record Keeps (old new : Nodes) : Type 0 where
  pub count : node_count old ≤ node_count new
  pub slots : length (slot_names old) ≤ length (slot_names new)
  pub names : (slot : ℕ) → slot < length (slot_names old) →
      name_of (slot_names new) slot ≡ name_of (slot_names old) slot
  pub syntaxes : (number : ℕ) → number < node_count old →
      syntax_at new number ≡ syntax_at old number

-- each of the names was added in turn, where it wasn't there yet
abbrev pub AddsNames : Nodes → Nodes → List (List ℕ) → Type 0
AddsNames old new names = slot_names new ≡ insert_all bytes_eq (slot_names old) names

-- the map has for each of the names its place, and no other name
abbrev pub AreSlots : BTreeMap (Bor (List ℕ)) ℕ → List (List ℕ) → Type 0
AreSlots slots names =
    (name : List ℕ) →
    get_by (λ k. slice_cmp nat_cmp name k.now) slots ≡ position (bytes_eq name) names

-- the node of the number was added, and stands for the selector
pub record Adds (old new : Nodes) (s : Syntax) (number : ℕ) : Type 0 where
  pub keeps : Keeps old new
  pub inside : number < node_count new
  pub stands : syntax_at new number ≡ s

-- the slot is that of the name
pub record NamesSlot (old new : Nodes) (name : List ℕ) (slot : ℕ) : Type 0 where
  pub keeps : Keeps old new
  pub count : node_count new ≡ node_count old
  pub inside : slot < length (slot_names new)
  pub named : name_of (slot_names new) slot ≡ name
  pub added : AddsNames old new (name ∷ [])
