-- Which of the nodes are known to stand for simple selectors.
use Rattle.std.specs.Prelude.{◌≡◌, ℕ, Bool, List, length, map, take}
use Rattle.haya_selectors.specs.Compiled.{node_syntaxes}
use Rattle.haya_selectors.specs.declared.node.Node.{Node}
use Rattle.haya_selectors.specs.Simple.{is_simple}

-- of the first nodes, whether the selector of each is simple
abbrev pub AreMarked : List (List ℕ) → List Node → List Bool → Type 0
AreMarked names nodes marks =
    marks ≡ map is_simple (take (length marks) (node_syntaxes names nodes))
