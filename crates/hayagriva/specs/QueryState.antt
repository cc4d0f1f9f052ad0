-- Where a query stands that gives its hits one at a time.
use Rattle.std.specs.Prelude.{ℕ, List, refl}
use Rattle.std.specs.Coded.{Coded, code_by, coded×, coded_list, coded_ℕ}
use Rattle.haya_entry.specs.Tree.{Tree}
use Rattle.haya_selectors.specs.Syntax.{Syntax}
use Rattle.haya_selectors.specs.SyntaxCode.{syntax_coded}
use Rattle.hayagriva.specs.TreeCode.{tree_coded}

-- its selector, the entries that it has yet to ask, of which none is left after an error, and how
-- often it has ticked
pub record QueryState : Type 0 where
  pub selector : Syntax
  pub left : List Tree
  pub ticks : ℕ

abbrev pub query_state : Syntax → List Tree → ℕ → QueryState
query_state s xs n = record { selector = s; left = xs; ticks = n }

abbrev pub query_state_coded : Coded QueryState
query_state_coded =
    code_by (Syntax × (List Tree × ℕ))
    (coded× syntax_coded (coded× (coded_list tree_coded) coded_ℕ))
    (λ q. (q.selector, (q.left, q.ticks))) (λ p. query_state p.0 p.1.0 p.1.1) (λ _. refl)
