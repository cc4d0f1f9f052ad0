-- A loop that sets the fields of items in turn.
use Rattle.std.proofs.Common.{◌≡◌, ℕ, List, ◌∷◌, Result, Ok, Err, refl, sym, ap, ◌∙◌, subst}
use Rattle.std.specs.Prelude.{IsOkAnd}
use Rattle.haya_entry.specs.Tree.{Tree, Fields, node, fields, with_fields}
use Rattle.haya_lines.specs.declared.error.LineError.{LineError}
use Rattle.haya_lines.specs.FieldTable.{and_then}
use Rattle.haya_lines.specs.Line.{field_read, fields_read}

-- the entry has the fields f in the place of its own
abbrev pub Has : Tree → Fields → Tree → Type 0
Has old f new = new ≡ with_fields (λ _. f) old

-- what all items make of the first entry is what the rest make of the entry so far, and the parents
-- stay
pub record Left (first : Tree) (all : List (List ℕ)) (now : Tree) (rest : List (List ℕ)) : Type 0 where
  pub read : fields_read (fields first) all ≡ fields_read (fields now) rest
  pub parents : Has first (fields now) now

fields-set : (f : Fields) (t : Tree) → fields (with_fields (λ _. f) t) ≡ f
fields-set f (node g ps) = refl

set-set : (f g : Fields) (t : Tree) → with_fields (λ _. f) (with_fields (λ _. g) t) ≡ with_fields (λ _. f) t
set-set f g (node h ps) = refl

pub Left-start : (first : Tree) (all : List (List ℕ)) → Left first all first all
Left-start (node f ps) all = record { read = refl; parents = refl }

Left-next : (first : Tree) (all : List (List ℕ)) (now : Tree) (item : List ℕ) (rest : List (List ℕ)) (next : Tree)
    → Left first all now (item ∷ rest) → IsOkAnd (field_read (fields now) item) (λ f. Has now f next) → Left first all next rest
Left-next first all now item rest next left set = by (field_read (fields now) item) refl set
  where
    by : (r : Result Fields LineError) → field_read (fields now) item ≡ r → IsOkAnd r (λ f. Has now f next) → Left first all next rest
    by (Err e) is h = absurd h
    by (Ok f) is h =
        let kept : fields next ≡ f = ap fields h ∙ fields-set f now in
        record {
          read = left.read ∙ ap (λ r. and_then r (λ g. fields_read g rest)) is ∙ ap (λ g. fields_read g rest) (sym kept);
          parents = h ∙ ap (with_fields (λ _. f)) left.parents ∙ set-set f (fields now) first ∙ ap (λ g. with_fields (λ _. g) first) (sym kept);
        }

-- the same of an item that was taken from those that were left
pub Left-yielded : (first : Tree) (all : List (List ℕ)) (now : Tree) (item : List ℕ) (rest : List (List ℕ)) (next : Tree) (items : List (List ℕ)) → items ≡ item ∷ rest
    → Left first all now items → IsOkAnd (field_read (fields now) item) (λ f. Has now f next) → Left first all next rest
Left-yielded first all now item rest next items e left set = Left-next first all now item rest next (subst (Left first all now) e left) set
