-- What compiled nodes stand for.
use Rattle.std.specs.Prelude.{ℕ, suc, max, Bool, true, ◌&&◌, nat_lt, nat_le, List, [], ◌∷◌, ◌++◌, get_or, map}
use Rattle.std.specs.List.{fold}
use Rattle.haya_selectors.specs.declared.node.Node.{Node}
use Rattle.haya_selectors.specs.declared.node.Node.TheVariants as variant
use Rattle.haya_selectors.specs.Syntax.{Syntax, Wildcard, Entry, Neg, Binding, Attr, Alt, Multi, Ancestrage, chained, negations, syntaxes}

-- the selector that a node stands for, where the numbers of its children and the slots of names
-- stand for these
abbrev pub node_syntax : (ℕ → List ℕ) → (ℕ → Syntax) → Node → Syntax
node_syntax name child variant.Wildcard = Wildcard
node_syntax name child (variant.Entry t) = Entry t
node_syntax name child (variant.Neg s others) = Neg (negations others (child s))
node_syntax name child (variant.Binding n s) = Binding (name n) (child s)
node_syntax name child (variant.Attr s names) = Attr (child s) names
node_syntax name child (variant.Alt ss) = Alt (syntaxes (map child ss.items))
node_syntax name child (variant.Multi ss) = Multi (syntaxes (map child ss.items))
node_syntax name child (variant.Ancestrage l rs r) =
    Ancestrage (chained (child l) (map child rs.items)) (child r)

-- the name of a slot, and the selector of a node
abbrev pub name_of : List (List ℕ) → ℕ → List ℕ
name_of names slot = get_or names slot []

abbrev pub syntax_in : List Syntax → ℕ → Syntax
syntax_in known number = get_or known number Wildcard

-- the selectors of nodes in turn, each from those of the nodes before it
abbrev pub with_node : List (List ℕ) → List Syntax → Node → List Syntax
with_node names known node = known ++ node_syntax (name_of names) (syntax_in known) node ∷ []

unfoldable pub node_syntaxes : List (List ℕ) → List Node → List Syntax
node_syntaxes names nodes = fold (with_node names) [] nodes

-- the number above each of these
abbrev pub above : List ℕ → ℕ
above [] = 0
above (n ∷ ns) = max (suc n) (above ns)

-- a node's children stand before it, and its slot is one of so many
abbrev pub fits : ℕ → ℕ → Node → Bool
fits slots number variant.Wildcard = true
fits slots number (variant.Entry t) = true
fits slots number (variant.Neg s others) = nat_lt s number
fits slots number (variant.Binding n s) = nat_lt n slots && nat_lt s number
fits slots number (variant.Attr s names) = nat_lt s number
fits slots number (variant.Alt ss) = nat_le (above ss.items) number
fits slots number (variant.Multi ss) = nat_le (above ss.items) number
fits slots number (variant.Ancestrage l rs r) =
    nat_le (above rs.items) number && (nat_lt l number && nat_lt r number)

abbrev pub all_fit : ℕ → ℕ → List Node → Bool
all_fit slots number [] = true
all_fit slots number (node ∷ nodes) = fits slots number node && all_fit slots (suc number) nodes
