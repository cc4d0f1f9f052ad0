-- What a search along arrows knows.
use Rattle.std.specs.Prelude.{◌≡◌, ◌+◌, ◌-◌, ◌<◌, ◌≤◌, ◌⊎◌, ◌++◌, ℕ, List, [], ◌∷◌, Contains}
use Rattle.std.specs.Prelude.{get_or, if◌then◌else◌, nat_le, length, map, take, Vec}
use Rattle.haya_bibtex_inherited.specs.Graphs.{Graph, Leads, targets}
use Rattle.haya_bibtex_inherited.specs.declared.search.Arrow.{Arrow}
use Rattle.haya_bibtex_inherited.specs.declared.search.Place.{Place}
use Rattle.haya_bibtex_inherited.specs.declared.search.Place.TheVariants.{New, Open, Ranked}
use Rattle.haya_bibtex_inherited.specs.declared.search.Search.{Search}

abbrev pub graph_of : {Z : Type 0} → List (Vec ℕ Z) → Graph
graph_of rows = map (λ row. row.items) rows

-- the place of a node
abbrev pub place_at : List Place → ℕ → Place
place_at ps v = get_or ps v New

abbrev pub arrow : ℕ → ℕ → Arrow
arrow i w = record { from = i; to = w }

-- the arrows of the open node at a place
abbrev pub arrows_from : ℕ → List ℕ → List Arrow
arrows_from i ws = map (arrow i) ws

-- each number is below those behind it; none is above them
abbrev pub IsRising : List ℕ → Type 0
IsRising xs = (i j : ℕ) → i < j → j < length xs → get_or xs i 0 < get_or xs j 0

abbrev pub IsClimbing : List ℕ → Type 0
IsClimbing xs = (i j : ℕ) → i < j → j < length xs → get_or xs i 0 ≤ get_or xs j 0

-- the numbers of a list up to a bound, of a list that rises
pub record IsCutBack (xs : List ℕ) (bound : ℕ) (ys : List ℕ) : Type 0 where
  pub rising : IsRising ys
  pub kept : (b : ℕ) → Contains xs b → b ≤ bound → Contains ys b
  pub only : (b : ℕ) → Contains ys b → Contains xs b × (b ≤ bound)

-- no group begins behind one place, up to the other
abbrev pub NoneBetween : List ℕ → ℕ → ℕ → Type 0
NoneBetween starts j i = (b : ℕ) → Contains starts b → j < b → b ≤ i → ⊥

-- the search has left the node, or the node is in the group of the place or behind it
abbrev pub IsAhead : List Place → List ℕ → ℕ → ℕ → Type 0
IsAhead ps starts i w =
    ((q : ℕ) × (place_at ps w ≡ Ranked q))
    ⊎ ((j : ℕ) × (place_at ps w ≡ Open j) × NoneBetween starts j i)

-- places of nodes, open nodes, where their groups begin, arrows of theirs that weren't followed
-- yet, and nodes that the search has left
pub record IsSound (g : Graph) (ps : List Place) (way starts : List ℕ) (arrows : List Arrow)
    (order : List ℕ) : Type 0 where
  -- the open nodes are those on the way
  pub on_way : (i : ℕ) → i < length way → place_at ps (get_or way i 0) ≡ Open i
  pub opened : (v i : ℕ) → place_at ps v ≡ Open i → (i < length way) × (get_or way i 0 ≡ v)
  -- groups have nodes, and each node has a group
  pub rising : IsRising starts
  pub begun : (b : ℕ) → Contains starts b → b < length way
  pub grouped : (i : ℕ) → i < length way → (b : ℕ) × Contains starts b × (b ≤ i)
  -- arrows lead to the nodes of the own group and behind it
  pub ahead : (u v i j : ℕ) → place_at ps u ≡ Open i → place_at ps v ≡ Open j →
      NoneBetween starts j i → Leads g u v
  -- arrows that weren't followed yet, and those that were
  pub left : (a : Arrow) → Contains arrows a →
      (a.from < length way) × Contains (targets g (get_or way a.from 0)) a.to
  pub climbing : IsClimbing (map (λ a. a.from) arrows)
  pub followed : (u i w : ℕ) → place_at ps u ≡ Open i → Contains (targets g u) w →
      Contains arrows (arrow i w) ⊎ IsAhead ps starts i w
  -- nodes that the search has left
  pub behind : (u r w : ℕ) → place_at ps u ≡ Ranked r → Contains (targets g u) w →
      (q : ℕ) × (place_at ps w ≡ Ranked q) × ((q ≡ r) ⊎ ((q < r) × Contains (take r order) w))
  pub back : (u v r : ℕ) → place_at ps u ≡ Ranked r → place_at ps v ≡ Ranked r → Leads g u v
  pub ordered : (v r : ℕ) → place_at ps v ≡ Ranked r → Contains order v × (r < length order)
  pub ranked : (k : ℕ) → k < length order →
      (r : ℕ) × (place_at ps (get_or order k 0) ≡ Ranked r) × (r ≤ k)

-- the search knows this, with some arrows at hand that aren't followed yet either
abbrev pub KnowsBut : Graph → List Arrow → Search → Type 0
KnowsBut g hand s =
    (length s.places.items ≡ length g)
    × IsSound g s.places.items s.way.items s.starts.items (s.arrows.items ++ hand) s.order.items

abbrev pub Knows : Graph → Search → Type 0
Knows g s =
    (length s.places.items ≡ length g)
    × IsSound g s.places.items s.way.items s.starts.items s.arrows.items s.order.items

-- no node is new that wasn't
abbrev pub KeepsReached : Search → Search → Type 0
KeepsReached old new =
    (v : ℕ) → place_at new.places.items v ≡ New → place_at old.places.items v ≡ New

abbrev pub IsReached : Search → ℕ → Type 0
IsReached s v = place_at s.places.items v ≡ New → ⊥

-- the rank of a node that the search has left
abbrev pub rank_of : Place → ℕ
rank_of New = 0
rank_of (Open i) = 0
rank_of (Ranked r) = r

-- a new node is one work, and each of its arrows
abbrev pub node_work : Place → ℕ → ℕ
node_work New n = n
node_work (Open i) n = 0
node_work (Ranked r) n = 0

abbrev pub nodes_work : Graph → List Place → ℕ
nodes_work [] ps = 0
nodes_work (ws ∷ g) [] = 0
nodes_work (ws ∷ g) (p ∷ ps) = node_work p (length ws + 1) + nodes_work g ps

-- what is to be done: new nodes, arrows that weren't followed, and groups
abbrev pub work : Graph → Search → ℕ
work g s = nodes_work g s.places.items + (length s.arrows.items + length s.starts.items)

abbrev pub last_arrow : List Arrow → Arrow
last_arrow arrows = get_or arrows (length arrows - 1) (arrow 0 0)

-- what a node's place is once the search has left those from a start on
abbrev pub settled_place : ℕ → ℕ → Place → Place
settled_place start rank New = New
settled_place start rank (Open i) = if nat_le start i then Ranked rank else Open i
settled_place start rank (Ranked r) = Ranked r
