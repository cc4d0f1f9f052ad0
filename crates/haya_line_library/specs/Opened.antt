-- What a reader of lines holds between two of them.
use Rattle.std.specs.Prelude.{List, Option, refl}
use Rattle.std.specs.Coded.{Coded, code_by, coded×, coded_list, coded_option}
use Rattle.hayagriva.specs.Tree.{Tree}
use Rattle.hayagriva.specs.TreeCode.{tree_coded}

-- the chain of the entries that are open, each to be the next parent of the one before it, and the
-- entry of depth 0 that the last line closed
pub record Opened : Type 0 where
  pub chain : List Tree
  pub closed : Option Tree

-- it is stored as the pair of its fields
abbrev pub opened_coded : Coded Opened
opened_coded =
    code_by (List Tree × Option Tree) (coded× (coded_list tree_coded) (coded_option tree_coded))
    (λ o. (o.chain, o.closed)) (λ p. record { chain = p.0; closed = p.1 }) (λ _. refl)
