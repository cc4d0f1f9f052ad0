-- The row that a line's items make.
use Rattle.std.proofs.Common.{◌⊎◌, inl, inr, ⊎_elim, ◌≡◌, ℕ, ◌<◌, ◌≤◌, List, [], ◌∷◌, Option, None, Some, Result, Ok, Err, length, refl, sym, ap, ◌∙◌, subst, arith, rules, tests}
use Rattle.std.specs.Prelude.{IsOkAnd, IfOk, ok_or}
use Rattle.haya_entry.specs.declared.types.EntryType.{EntryType}
use Rattle.haya_entry.specs.EntryType.{type_read}
use Rattle.haya_entry.specs.Tree.{Tree, Fields, fields, with_fields, new_entry}
use Rattle.haya_lines.specs.declared.error.LineError.{LineError}
use Rattle.haya_lines.specs.declared.error.LineError.TheVariants.{Depth, OutOfMemory, Shape, UnknownType}
use Rattle.haya_lines.specs.FieldTable.{and_then}
use Rattle.haya_lines.specs.Line.{Row, leaf, depth_read, fields_read, row_at, row_read}

-- an entry that is made bare, and whose fields are then set
set_leaf : (key : List ℕ) (k : EntryType) (first last : Tree) (read : Fields → Result Fields LineError) → first ≡ new_entry key k
    → IsOkAnd (read (fields first)) (λ f. last ≡ with_fields (λ _. f) first) → IsOkAnd (read (fields (new_entry key k))) (λ f. last ≡ leaf f)
set_leaf key k first last read made set = by (read (fields (new_entry key k))) (subst (λ t. IsOkAnd (read (fields t)) (λ f. last ≡ with_fields (λ _. f) t)) made set)
  where
    by : (r : Result Fields LineError) → IsOkAnd r (λ f. last ≡ with_fields (λ _. f) (new_entry key k)) → IsOkAnd r (λ f. last ≡ leaf f)
    by (Ok f) h = h
    by (Err e) h = absurd h

-- the row of an entry whose fields are set
pub row_at-ok : (n : ℕ) (key : List ℕ) (k : EntryType) (first last : Tree) (read : Fields → Result Fields LineError) → first ≡ new_entry key k
    → IsOkAnd (read (fields first)) (λ f. last ≡ with_fields (λ _. f) first)
    → IsOkAnd (row_at n (read (fields (new_entry key k)))) (λ row. (n ≡ row.depth) × (last ≡ leaf row.fields))
row_at-ok n key k first last read made set = by (read (fields (new_entry key k))) (set_leaf key k first last read made set)
  where
    by : (r : Result Fields LineError) → IsOkAnd r (λ f. last ≡ leaf f) → IsOkAnd (row_at n r) (λ row. (n ≡ row.depth) × (last ≡ leaf row.fields))
    by (Ok f) h = (refl, h)
    by (Err e) h = absurd h

-- a fault of its fields is the row's
pub row_at-err : (n : ℕ) (key : List ℕ) (k : EntryType) (first : Tree) (read : Fields → Result Fields LineError) (e : LineError) → first ≡ new_entry key k
    → (e ≡ OutOfMemory) ⊎ (read (fields first) ≡ Err e) → (e ≡ OutOfMemory) ⊎ (row_at n (read (fields (new_entry key k))) ≡ Err e)
row_at-err n key k first read e made fault =
    ⊎_elim (λ h. inl h) (λ h. inr (ap (row_at n) (ap (λ t. read (fields t)) (sym made) ∙ h))) fault

depth_within : (deepest : ℕ) (item : List ℕ) (d : ℕ) → depth_read deepest item ≡ Some d → d ≤ deepest
depth_within deepest item d is = search (rules, tests)

-- the head of a row
pub head_read : (items : List (List ℕ)) (a b c : List ℕ) (more : List (List ℕ)) (deepest n : ℕ) (k : EntryType) → items ≡ a ∷ b ∷ c ∷ more
    → depth_read deepest a ≡ Some n → type_read c ≡ Some k
    → (row_read deepest items ≡ row_at n (fields_read (fields (new_entry b k)) more)) × (n ≤ deepest)
head_read items a b c more deepest n k three d t = (rw (three, d, t) refl, depth_within deepest a n d)

-- no row has fewer than three items
pub row_read-short : (deepest : ℕ) (items : List (List ℕ)) → length items < 3 → row_read deepest items ≡ Err Shape
row_read-short deepest [] short = refl
row_read-short deepest (a ∷ []) short = refl
row_read-short deepest (a ∷ b ∷ []) short = refl
row_read-short deepest (a ∷ b ∷ c ∷ more) short = absurd (omega arith)

-- no row is deeper than it may be
pub row_within : (deepest : ℕ) (items : List (List ℕ)) → IfOk (row_read deepest items) (λ row. row.depth ≤ deepest)
row_within deepest (a ∷ b ∷ c ∷ more) = by (depth_read deepest a) (depth_within deepest a) (type_read c)
  where
    fields_within : (d : ℕ) → d ≤ deepest → (r : Result Fields LineError) → IfOk {T = Row} (and_then r (λ f. Ok (record { depth = d; fields = f }))) (λ row. row.depth ≤ deepest)
    fields_within d within (Ok f) = within
    fields_within d within (Err e) = tt

    by : (o : Option ℕ) → ((d : ℕ) → o ≡ Some d → d ≤ deepest) → (t : Option EntryType)
        → IfOk {T = Row} (and_then (ok_or o Depth) (λ d. and_then (ok_or t UnknownType) (λ k. and_then (fields_read (fields (new_entry b k)) more) (λ f. Ok (record { depth = d; fields = f }))))) (λ row. row.depth ≤ deepest)
    by None within t = tt
    by (Some d) within None = tt
    by (Some d) within (Some k) = fields_within d (within d refl) (fields_read (fields (new_entry b k)) more)
row_within deepest _ = tt

-- what holds of the row that was read
pub row_taken : (m deepest : ℕ) (items : List (List ℕ)) (n : ℕ) (entry : Tree) (Q : Row → Type 0) → m ≡ deepest
    → IsOkAnd (row_read m items) (λ row. (n ≡ row.depth) × (entry ≡ leaf row.fields))
    → ((row : Row) → n ≡ row.depth → n ≤ deepest → entry ≡ leaf row.fields → Q row) → IsOkAnd (row_read deepest items) Q
row_taken m deepest items n entry Q same = subst (λ d. Read d → All → Taken) (sym same) (by (row_read deepest items) (row_within deepest items))
  where
    Read : ℕ → Type 0
    Read d = IsOkAnd (row_read d items) (λ row. (n ≡ row.depth) × (entry ≡ leaf row.fields))

    All : Type 0
    All = (row : Row) → n ≡ row.depth → n ≤ deepest → entry ≡ leaf row.fields → Q row

    Taken : Type 0
    Taken = IsOkAnd (row_read deepest items) Q

    by : (r : Result Row LineError) → IfOk r (λ row. row.depth ≤ deepest) → IsOkAnd r (λ row. (n ≡ row.depth) × (entry ≡ leaf row.fields)) → All → IsOkAnd r Q
    by (Ok row) within h all = all row h.0 (omega arith) h.1
    by (Err e) within h all = h
