-- Lines that are taken one after another: what one closes and opens.
use Rattle.std.specs.Prelude.{◌≡◌, ◌==◌, ℕ, ◌+◌, List, [], ◌∷◌, ◌++◌, length, None, option_to_list, IsOkAnd, MatchBool, Result, Ok, Vec, map}
use Rattle.std.specs.declared.alloc.Global.{Global}
use Rattle.hayagriva.specs.Tree.{Fields, Tree, trees, view}
use Rattle.hayagriva.specs.declared.Entry.{Entry}
use Rattle.haya_lines.specs.FieldTable.{and_then}
use Rattle.haya_lines.specs.Items.{items}
use Rattle.haya_lines.specs.Line.{Row, leaf, row_read}
use Rattle.haya_lines.specs.declared.error.LineError.{LineError}
use Rattle.haya_line_library.specs.Input.{rows_of, rows_of_all, rows_read}
use Rattle.haya_line_library.specs.Opened.{Opened}

-- entries at a depth and below, each the next parent of the one before it, as rows
abbrev pub chain_rows : ℕ → List Tree → List Row
chain_rows d [] = []
chain_rows d (t ∷ ts) = rows_of d t ++ chain_rows (d + 1) ts

-- the rows of closed entries, and then those of a chain
abbrev pub left_rows : List Tree → List Tree → List Row
left_rows closed chain = rows_of_all 0 (trees closed) ++ chain_rows 0 chain

abbrev pub opened_rows : Opened → List Row
opened_rows now = left_rows (option_to_list now.closed) now.chain

-- a row behind a chain: no row is lost, and the row's entry is the last that is open
pub record TakesRow (row : Row) (chain : List Tree) (now : Opened) : Type 0 where
  pub depth : length now.chain ≡ row.depth + 1
  pub rows : opened_rows now ≡ chain_rows 0 chain ++ row ∷ []

-- a line behind a chain: its row, or nothing where it is empty
abbrev pub TakesLine : List ℕ → List Tree → Opened → Type 0
TakesLine line chain now =
    MatchBool (length line == 0) (now ≡ record { chain = chain; closed = None })
    (IsOkAnd (row_read (length chain) (items line)) (λ row. TakesRow row chain now))

-- no line behind a chain: no row is lost, and nothing is open
pub record LastOf (chain : List Tree) (now : Opened) : Type 0 where
  pub none : now.chain ≡ []
  pub rows : opened_rows now ≡ chain_rows 0 chain

-- the lines closed the entries that were given, in order, and left this chain: whatever follows,
-- theirs are the rows that are read first
pub record Taken (lines : List (List ℕ)) (given chain : List Tree) : Type 0 where
  pub reads : (more : List (List ℕ)) → rows_read 1 0 (lines ++ more)
      ≡ and_then (rows_read (length lines + 1) (length chain) more)
      (λ rows. Ok (left_rows given chain ++ rows))

-- the entries of a chain by value
abbrev pub chain_view : Vec Entry Global → List Tree
chain_view chain = map view chain.items

-- an entry of the fields that are read, with no parents yet, stands behind those of a chain
abbrev pub OpensEntry : Result Fields LineError → List Tree → List Tree → Type 0
OpensEntry read chain next_chain = IsOkAnd read (λ f. next_chain ≡ chain ++ leaf f ∷ [])

-- an entry of this value stands behind the others
pub record Stands (t : Tree) (old new : List Entry) : Type 0 where
  pub entry : Entry
  pub value : view entry ≡ t
  pub items : new ≡ old ++ entry ∷ []
