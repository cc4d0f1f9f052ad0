-- Lines that are taken one after another read as the rows of the entries that they closed.
use Rattle.std.proofs.Common.{inl, inr, ◌≡◌, ◌≢◌, ℕ, ◌+◌, Bool, true, false, List, [], ◌∷◌, ◌++◌, Result, Ok, Err, None, length, refl, sym, ap, ◌∙◌, append_assoc, append-nil, length-append, subst, rules, tests}
use Rattle.std.specs.Prelude.{IsErrAnd, IsOkAnd, MatchBool, option_to_list, ◌==◌}
use Rattle.hayagriva.specs.Tree.{Tree, trees}
use Rattle.haya_lines.specs.FieldTable.{and_then}
use Rattle.haya_lines.specs.Items.{items}
use Rattle.haya_lines.specs.Line.{Row, row_read}
use Rattle.haya_lines.specs.declared.error.LineError.{LineError}
use Rattle.haya_line_library.specs.declared.error.InputError.{InputError}
use Rattle.haya_line_library.specs.declared.error.InputError.TheVariants.{Line}
use Rattle.haya_line_library.specs.Chain.{LastOf, Taken, TakesLine, TakesRow, chain_rows, left_rows, opened_rows}
use Rattle.haya_line_library.specs.Input.{rows_read, rows_of_all}
use Rattle.haya_line_library.specs.Opened.{Opened}
use Rattle.haya_line_library.specs.TextReading.{FaultInLine, FaultInText}
use Rattle.haya_line_library.proofs.Chains.{rows_of_all-append}

and_then-Ok : {T E : Type 0} (r : Result T E) → and_then r (λ x. Ok x) ≡ r
and_then-Ok (Ok x) = refl
and_then-Ok (Err e) = refl

joined : {E : Type 0} (r : Result (List Row) E) (rows : List Row) (row : Row)
    → and_then (and_then r (λ more. Ok (row ∷ more))) (λ more. Ok (rows ++ more)) ≡ and_then r (λ more. Ok ((rows ++ row ∷ []) ++ more))
joined (Ok more) rows row = ap (λ l. Ok l) (sym (append_assoc rows (row ∷ []) more))
joined (Err e) rows row = refl

-- the entries that were given, and what is left behind them
given_rows : (given : List Tree) (now : Opened) → left_rows (given ++ option_to_list now.closed) now.chain ≡ rows_of_all 0 (trees given) ++ opened_rows now
given_rows given now =
    ap (λ l. l ++ chain_rows 0 now.chain) (rows_of_all-append 0 given (option_to_list now.closed))
    ∙ append_assoc (rows_of_all 0 (trees given)) (rows_of_all 0 (trees (option_to_list now.closed))) (chain_rows 0 now.chain)

pub Taken-start : Taken [] [] []
Taken-start = record { reads = λ more. sym (and_then-Ok (rows_read 1 0 more)) }

module _ (lines : List (List ℕ)) (given chain : List Tree) (so_far : Taken lines given chain) (line : List ℕ) where
  count : ℕ
  count = length lines + 1

  -- what all lines read as, from this one on
  here : (more : List (List ℕ)) → rows_read 1 0 ((lines ++ line ∷ []) ++ more) ≡ and_then (rows_read (length lines + 1) (length chain) (line ∷ more)) (λ rows. Ok (left_rows given chain ++ rows))
  here more = ap (rows_read 1 0) (append_assoc lines (line ∷ []) more) ∙ so_far.reads (line ∷ more)

  counted : length lines + 1 ≡ length (lines ++ line ∷ [])
  counted = sym (length-append lines (line ∷ []))

  none_taken : (length line == 0) ≡ true → (now : Opened) → now ≡ record { chain = chain; closed = None } → Taken (lines ++ line ∷ []) (given ++ option_to_list now.closed) now.chain
  none_taken none now same = rw (same, append-nil given) (record { reads = λ more. let step = rw none at (here more) in rw (← counted) step })

  row_taken : (length line == 0) ≡ false → (row : Row) → row_read (length chain) (items line) ≡ Ok row → (now : Opened) → TakesRow row chain now
      → Taken (lines ++ line ∷ []) (given ++ option_to_list now.closed) now.chain
  row_taken some row read now takes = record {
    reads = λ more.
        (let step = rw (some, read) at (here more) in step)
        ∙ joined (rows_read (length lines + 1 + 1) (row.depth + 1) more) (left_rows given chain) row
        ∙ rw (← counted, takes.depth) (ap (λ l. and_then (rows_read (length lines + 1 + 1) (row.depth + 1) more) (λ rows. Ok (l ++ rows))) rows);
  }
    where
      rows : left_rows given chain ++ row ∷ [] ≡ left_rows (given ++ option_to_list now.closed) now.chain
      rows = append_assoc (rows_of_all 0 (trees given)) (chain_rows 0 chain) (row ∷ []) ∙ ap (λ l. rows_of_all 0 (trees given) ++ l) (sym takes.rows) ∙ sym (given_rows given now)

  pub Taken-line : (now : Opened) → TakesLine line chain now → Taken (lines ++ line ∷ []) (given ++ option_to_list now.closed) now.chain
  Taken-line now takes = by (length line == 0) refl takes
    where
      at_row : (r : Result Row LineError) → (length line == 0) ≡ false → row_read (length chain) (items line) ≡ r → IsOkAnd r (λ row. TakesRow row chain now)
          → Taken (lines ++ line ∷ []) (given ++ option_to_list now.closed) now.chain
      at_row (Ok row) some read takes = row_taken some row read now takes
      at_row (Err e) some read takes = absurd takes

      by : (b : Bool) → (length line == 0) ≡ b → MatchBool b (now ≡ record { chain = chain; closed = None }) (IsOkAnd (row_read (length chain) (items line)) (λ row. TakesRow row chain now))
          → Taken (lines ++ line ∷ []) (given ++ option_to_list now.closed) now.chain
      by true none takes = none_taken none now takes
      by false some takes = at_row (row_read (length chain) (items line)) some refl takes

  test : length line ≢ 0 → (length line == 0) ≡ false
  test some = search (rules, tests)

  pub Taken-fault : (more : List (List ℕ)) (e : InputError) → FaultInLine (length lines + 1) (length chain) line e → FaultInText (rows_read 1 0 (lines ++ line ∷ more)) e
  Taken-fault more e (inl h) = inl h
  Taken-fault more e (inr h) = inr (by (row_read (length chain) (items line)) refl h.1)
    where
      by : (r : Result Row LineError) → row_read (length chain) (items line) ≡ r → IsErrAnd r (λ f. e ≡ Line (length lines + 1) f) → IsErrAnd (rows_read 1 0 (lines ++ line ∷ more)) (λ f. e ≡ Line f.0 f.1)
      by (Ok row) read fault = absurd fault
      by (Err f) read fault =
          let step : rows_read 1 0 (lines ++ line ∷ more) ≡ Err (length lines + 1, f) = rw (test h.0, read) at (so_far.reads (line ∷ more)) in
          subst (λ r. IsErrAnd r (λ f. e ≡ Line f.0 f.1)) (sym step) fault

pub Taken-end : (lines : List (List ℕ)) (given chain : List Tree) → Taken lines given chain → (now : Opened) → LastOf chain now
    → rows_read 1 0 lines ≡ Ok (rows_of_all 0 (trees (given ++ option_to_list now.closed)))
Taken-end lines given chain so_far now last =
    ap (rows_read 1 0) (sym (append-nil lines)) ∙ so_far.reads [] ∙ ap (λ l. Ok l) (append-nil (left_rows given chain) ∙ ap (λ l. rows_of_all 0 (trees given) ++ l) (sym last.rows) ∙ sym (given_rows given now) ∙ shut)
  where
    shut : left_rows (given ++ option_to_list now.closed) now.chain ≡ rows_of_all 0 (trees (given ++ option_to_list now.closed))
    shut = ap (left_rows (given ++ option_to_list now.closed)) last.none ∙ append-nil (rows_of_all 0 (trees (given ++ option_to_list now.closed)))
