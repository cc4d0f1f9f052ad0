-- Pieces in rows, of known lengths, and the piece at a place of each row.
use Rattle.std.proofs.Common.{◌≡◌, ℕ, zero, suc, ◌+◌, ◌<◌, ◌≤◌, List, [], ◌∷◌, ◌++◌, length, take, drop, map, get_or, refl, sym, ap, ◌∙◌, append_assoc, arith}
use Rattle.std.specs.Prelude.{◌*◌, ◌-◌, All, sum, sum_by}
use Rattle.std.specs.List.{copy_within}
use Rattle.std.proofs.Math.Seq.{paste}
use Rattle.std.proofs.lemmas.List.{take_at, drop_at, length-append, drop-drop, drop-map, take-map, length-drop, map-append, drop_more}
use Rattle.std.proofs.lemmas.List.Sums.{sum_by-cons, sum_by_more_le}
use Rattle.std.proofs.lemmas.List.Edits.{drop-paste, length-paste, take-paste}
use Rattle.haya_selectors.specs.Tries.{joined, all_joined, joined_at, lengths, all_lengths, rows_of}
use Rattle.haya_selectors.proofs.Stretches.{get_or-rows_of, length-row_of, length-rows_of, row_of}

-- of items that stand row by row in pieces of these lengths, the piece at the place of each row
abbrev pub chosen : {A : Type 0} → List (List ℕ) → List ℕ → List A → List A
chosen [] is items = []
chosen (row ∷ rows) [] items = []
chosen (row ∷ rows) (i ∷ is) items = take (get_or row i 0) (drop (sum (take i row)) items) ++ chosen rows is (drop (sum row) items)

module _ {A : Type 0} where
  length_joined : (row : List (List A)) → length (joined row) ≡ sum (lengths row)
  length_joined [] = refl
  length_joined (piece ∷ row) = omega (arith, length-append piece (joined row), length_joined row, sum_by-cons (λ x. x) (length piece) (lengths row))

  pub length_all_joined : (rows : List (List (List A))) → length (all_joined rows) ≡ sum_by sum (all_lengths rows)
  length_all_joined [] = refl
  length_all_joined (row ∷ rows) =
      omega (arith, length-append (joined row) (all_joined rows), length_joined row, length_all_joined rows, sum_by-cons sum (lengths row) (all_lengths rows))

  drop_past : (xs ys : List A) (n : ℕ) → drop (length xs + n) (xs ++ ys) ≡ drop n ys
  drop_past xs ys n = sym (drop-drop n (length xs) (xs ++ ys)) ∙ ap (drop n) (drop_at xs ys (length xs) refl)

  -- the piece at a place
  piece_at : (row : List (List A)) (i : ℕ) (more : List A) → take (get_or (lengths row) i 0) (drop (sum (take i (lengths row))) (joined row ++ more)) ≡ get_or row i []
  piece_at [] i more = refl
  piece_at (piece ∷ row) zero more = rw append_assoc (take_at piece (joined row ++ more) (length piece) refl)
  piece_at (piece ∷ row) (suc i) more =
      rw (sum_by-cons (λ x. x) (length piece) (take i (lengths row)), append_assoc, drop_past piece (joined row ++ more) (sum (take i (lengths row)))) (piece_at row i more)

  chosen_are : (rows : List (List (List A))) (is : List ℕ) → chosen (all_lengths rows) is (all_joined rows) ≡ joined_at rows is
  chosen_are [] is = refl
  chosen_are (row ∷ rows) [] = refl
  chosen_are (row ∷ rows) (i ∷ is) =
      rw (piece_at row i (all_joined rows), drop_at (joined row) (all_joined rows) (sum (lengths row)) (length_joined row), chosen_are rows is) refl

  chosen-map : {B : Type 0} (f : A → B) (rows : List (List ℕ)) (is : List ℕ) (items : List A) → map f (chosen rows is items) ≡ chosen rows is (map f items)
  chosen-map f [] is items = refl
  chosen-map f (row ∷ rows) [] items = refl
  chosen-map f (row ∷ rows) (i ∷ is) items =
      let n = get_or row i 0 in
      let at = sum (take i row) in
      rw (
        map-append f (take n (drop at items)) (chosen rows is (drop (sum row) items)),
        chosen-map f rows is (drop (sum row) items),
        drop-map f at items,
        drop-map f (sum row) items,
        take-map f n (drop at items),
      ) refl

-- the next row, and its place
pub record Turn (rows : List (List ℕ)) (places : List ℕ) (m : ℕ) (row : List ℕ) : Type 0 where
  pub there : m < length places
  pub inside : get_or places m 0 < length row
  pub row_left : drop m rows ≡ row ∷ drop (m + 1) rows
  pub place_left : drop m places ≡ get_or places m 0 ∷ drop (m + 1) places
  pub sums : sum_by sum (drop m rows) ≡ sum row + sum_by sum (drop (m + 1) rows)
  pub within : sum (take (get_or places m 0) row) + get_or row (get_or places m 0) 0 ≤ sum row

pub turn : (width n : ℕ) (items places : List ℕ) (m : ℕ) → length items ≡ n * width → n ≡ length places → All (λ i. i < width) places → m < n
    → Turn (rows_of width n items) places m (row_of width m items)
turn width n items places m e as_many inside l =
    let rows = rows_of width n items in
    let row = row_of width m items in
    let there : m < length places = omega (arith, as_many, l) in
    let here : m < length rows = omega (arith, l, length-rows_of width n items) in
    let left : drop m rows ≡ row ∷ drop (m + 1) rows = drop_more rows m [] here ∙ ap (λ row. row ∷ drop (m + 1) rows) (get_or-rows_of width n m items l) in
    let within : get_or places m 0 < length row = let i : get_or places m 0 < width = inside m 0 there in omega (arith, i, length-row_of width n m items l e) in
    record {
      there = there;
      inside = within;
      row_left = left;
      place_left = drop_more places m 0 there;
      sums = ap (sum_by sum) left ∙ sum_by-cons sum row (drop (m + 1) rows);
      within = sum_by_more_le (λ x. x) row (get_or places m 0) 0 within;
    }

-- a list that is moved down
module _ {A : Type 0} (items news : List A) (to start i : ℕ) (row : List ℕ) (l : to ≤ start) (w : sum (take i row) + get_or row i 0 ≤ sum row) (h : start + sum row ≤ length items)
    (e : news ≡ copy_within items (start + sum (take i row)) (start + sum (take i row) + get_or row i 0) to) where
  abbrev from : ℕ
  from = start + sum (take i row)

  pasted : news ≡ paste items to (drop from items) (get_or row i 0)
  pasted =
      let n : from + get_or row i 0 - from ≡ get_or row i 0 = omega arith in
      e ∙ ap (paste items to (drop from items)) n

  long : get_or row i 0 ≤ length (drop from items)
  long = omega (arith, length-drop from items)

  pub moved_length : length news ≡ length items
  moved_length = rw pasted (length-paste items to (drop from items) (get_or row i 0) (omega arith) long)

  moved_take : take (to + get_or row i 0) news ≡ take to items ++ take (get_or row i 0) (drop from items)
  moved_take = rw pasted (take-paste items to (drop from items) (get_or row i 0) (omega arith) long)

  moved_drop : drop (start + sum row) news ≡ drop (start + sum row) items
  moved_drop =
      let more = start + sum row - (to + get_or row i 0) in
      let all : to + get_or row i 0 + more ≡ start + sum row = omega arith in
      let there : drop (to + get_or row i 0) news ≡ drop (to + get_or row i 0) items = rw pasted (drop-paste items to (drop from items) (get_or row i 0) (omega arith) long) in
      rw (← all, ← drop-drop more (to + get_or row i 0) news, ← drop-drop more (to + get_or row i 0) items, there) refl

  pub moved : (rows : List (List ℕ)) (is : List ℕ) → take (to + get_or row i 0) news ++ chosen rows is (drop (start + sum row) news)
      ≡ take to items ++ chosen (row ∷ rows) (i ∷ is) (drop start items)
  moved rows is = rw (moved_take, moved_drop, append_assoc, drop-drop (sum (take i row)) start items, drop-drop (sum row) start items) refl

-- what is kept in the end
pub kept_are : {A B : Type 0} (f : A → B) (olds : List A) (front : List B) (pieces : List (List (List B))) (rows : List (List ℕ)) (places : List ℕ) (before : ℕ)
    → length front ≡ before → all_lengths pieces ≡ rows → map f olds ≡ front ++ all_joined pieces
    → map f (take before olds ++ chosen rows places (drop before olds)) ≡ front ++ joined_at pieces places
kept_are f olds front pieces rows places before l r e =
    rw (map-append f (take before olds) (chosen rows places (drop before olds)), chosen-map f rows places (drop before olds), ← take-map f before olds, ← drop-map f before olds) (
    rw (e, ← r, take_at front (all_joined pieces) before l, drop_at front (all_joined pieces) before l, chosen_are pieces places) refl
    )
