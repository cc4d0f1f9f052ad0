-- What the tries of members at entries add, and what is kept of it.
use Rattle.std.proofs.Common.{◌≡◌, ℕ, zero, suc, ◌+◌, ◌*◌, ◌<◌, Bool, true, cond, List, [], ◌∷◌, ◌++◌, Option, Some, None, length, map, get_or, take, refl, sym, ap, ◌∙◌, subst, arith}
use Rattle.std.specs.Prelude.{All, IfOk, Result, Ok, Err, Vec, slice_get, vec_len}
use Rattle.std.specs.List.{AllZip}
use Rattle.std.specs.Option.{option_map_or}
use Rattle.std.proofs.lemmas.List.{get_or-map, length-append, length-map, map-append, take_at, take-map}
use Rattle.std.proofs.lemmas.List.Elements.{All-nil, All-cons, All-head, All-tail}
use Rattle.std.proofs.lemmas.Option.{slice_get_within}
use Rattle.haya_assignment.specs.Assignment.{Table, IsTrueAt, least, rows}
use Rattle.haya_entry.specs.declared.entry.Entry.{Entry}
use Rattle.haya_entry.specs.Tree.{Tree, view, at, at_list}
use Rattle.haya_selectors.specs.Binds.{binds, each_binds, pairs_at}
use Rattle.haya_selectors.specs.Candidates.{GivesCandidates, candidate_places}
use Rattle.haya_selectors.specs.Compiled.{name_of}
use Rattle.haya_selectors.specs.declared.places.Candidates.{Candidates}
use Rattle.haya_selectors.specs.Evaluation.{EntryPairs, pair_entries, pairs_view}
use Rattle.haya_selectors.specs.Holds.{holds, table_of}
use Rattle.haya_selectors.specs.Syntax.{Syntax, Syntaxes, none, more, syntaxes}
use Rattle.haya_selectors.specs.Tries.{Piece, tried, all_tried, all_joined, joined, joined_at, lengths, all_lengths, rows_of}
use Rattle.haya_selectors.proofs.LeastTrue.{least_true}
use Rattle.haya_selectors.proofs.Paths.{resolved_led}
use Rattle.haya_selectors.proofs.Stretches.{length_back, length-rows_of, rows_back, width_of-rows}

pub table_width : (ss : Syntaxes) (xs : List Tree) → All (λ row. length row ≡ length xs) (table_of ss xs)
table_width none xs = All-nil (λ row. length row ≡ length xs)
table_width (more s ss) xs = All-cons (λ row. length row ≡ length xs) (map (holds s) xs) (table_of ss xs) (length-map xs (holds s)) (table_width ss xs)

pub lengths_width : (ss : Syntaxes) (xs : List Tree) → All (λ row. length row ≡ length xs) (all_lengths (all_tried ss xs))
lengths_width none xs = All-nil (λ row. length row ≡ length xs)
lengths_width (more s ss) xs =
    All-cons (λ row. length row ≡ length xs) (lengths (map (tried s) xs)) (all_lengths (all_tried ss xs)) (length-map (map (tried s) xs) (λ piece. length piece) ∙ length-map xs (tried s)) (lengths_width ss xs)

length_table : (ss : List Syntax) (xs : List Tree) → length ss ≡ length (table_of (syntaxes ss) xs)
length_table [] xs = refl
length_table (s ∷ ss) xs = let later = length_table ss xs in omega (arith, later)

length_lengths : (ss : List Syntax) (xs : List Tree) → length ss ≡ length (all_lengths (all_tried (syntaxes ss) xs))
length_lengths [] xs = refl
length_lengths (s ∷ ss) xs = let later = length_lengths ss xs in omega (arith, later)

-- the tries of members at entries, by rows
pub record ByRows (ss : Syntaxes) (xs : List Tree) (width n : ℕ) (held : List Bool) (found : List ℕ) : Type 0 where
  pub count : length held ≡ n * width
  pub held_is : rows_of width n held ≡ table_of ss xs
  pub found_is : rows_of width n found ≡ all_lengths (all_tried ss xs)

pub by_rows : (f : ℕ → Syntax) (ns : List ℕ) (xs : List Tree) (width : ℕ) (held : List Bool) (found : List ℕ) → length xs ≡ width
    → held ≡ joined (table_of (syntaxes (map f ns)) xs) → found ≡ joined (all_lengths (all_tried (syntaxes (map f ns)) xs)) → ByRows (syntaxes (map f ns)) xs width (length ns) held found
by_rows f ns xs width held found l e k =
    let ss = syntaxes (map f ns) in
    let wide : All (λ row. length row ≡ width) (table_of ss xs) = λ i d h. table_width ss xs i d h ∙ l in
    let long : All (λ row. length row ≡ width) (all_lengths (all_tried ss xs)) = λ i d h. lengths_width ss xs i d h ∙ l in
    let as_many : length ns ≡ length (table_of ss xs) = sym (length-map ns f) ∙ length_table (map f ns) xs in
    let as_many_lengths : length ns ≡ length (all_lengths (all_tried ss xs)) = sym (length-map ns f) ∙ length_lengths (map f ns) xs in
    record {
      count = length_back width (length ns) (table_of ss xs) held wide as_many e;
      held_is = rows_back width (length ns) (table_of ss xs) held wide as_many e;
      found_is = rows_back width (length ns) (all_lengths (all_tried ss xs)) found long as_many_lengths k;
    }

-- rows of this width, as they are stored
pub stored_width : {Z : Type 0} (table : List (Vec Bool Z)) (n : ℕ) → All (λ row. length row ≡ n) (rows table) → All (λ row. vec_len row ≡ n) table
stored_width table n h = λ k d l.
    let row = get_or table k d in
    let there : k < length (rows table) = omega (arith, l, length-map table (λ row. row.items)) in
    let is : get_or (rows table) k d.items ≡ row.items = get_or-map (λ row. row.items) table k d d.items l in
    omega (arith, ap length is, h k d.items there, row.ok.0)

-- where each row is true at its place, that is one of its positions
pub inside_from : (width : ℕ) (table : Table) (is : List ℕ) → All (λ row. length row ≡ width) table → AllZip IsTrueAt table is → All (λ i. i < width) is
inside_from width [] [] h k = All-nil (λ i. i < width)
inside_from width [] (i ∷ is) h k = absurd k
inside_from width (held ∷ table) [] h k = absurd k
inside_from width (held ∷ table) (i ∷ is) h k =
    let long : length held ≡ width = All-head (λ row. length row ≡ width) held table h in
    All-cons (λ i. i < width) i is (omega (arith, long, slice_get_within held i true k.0)) (inside_from width table is (All-tail (λ row. length row ≡ width) held table h) k.1)

-- there are as many places as rows
pub as_many_from : (table : Table) (is : List ℕ) → AllZip IsTrueAt table is → length is ≡ length table
as_many_from [] [] k = refl
as_many_from [] (i ∷ is) k = absurd k
as_many_from (held ∷ table) [] k = absurd k
as_many_from (held ∷ table) (i ∷ is) k = let later = as_many_from table is k.1 in omega (arith, later)

-- a place for each row, in the row
pub record FitsRows (width n : ℕ) (is : List ℕ) : Type 0 where
  pub as_many : length is ≡ n
  pub inside : All (λ i. i < width) is

pub least_fits : (width n : ℕ) (held : List Bool) (is : List ℕ) → length held ≡ n * width → least (rows_of width n held) ≡ Some is → FitsRows width n is
least_fits width n held is e h =
    let table = rows_of width n held in
    let accepted = least_true table is h in
    record {
      as_many = as_many_from table is accepted ∙ length-rows_of width n held;
      inside = inside_from width table is (width_of-rows width n held e) accepted;
    }

-- an item where a test is true
true_item : {A : Type 0} (test : A → Bool) (xs : List A) (i : ℕ) → slice_get (map test xs) i ≡ Some true → (x : A) × (slice_get xs i ≡ Some x) × (test x ≡ true)
true_item test [] i e = absurd (cc)
true_item test (x ∷ xs) zero e = let h : test x ≡ true = cc in (x, refl, h)
true_item test (x ∷ xs) (suc i) e = true_item test xs i e

read_item : {A B : Type 0} (f : A → B) (xs : List A) (i : ℕ) (x : A) (d : B) → slice_get xs i ≡ Some x → get_or (map f xs) i d ≡ f x
read_item f [] i x d e = absurd (cc)
read_item f (y ∷ ys) zero x d e = let same : y ≡ x = cc in ap f same
read_item f (y ∷ ys) (suc i) x d e = read_item f ys i x d e

kept_piece : (s : Syntax) (xs : List Tree) (i : ℕ) → IsTrueAt (map (holds s) xs) i → get_or (map (tried s) xs) i [] ≡ pair_entries (at_list xs) (pairs_at (binds s) xs i)
kept_piece s xs i h =
    let t = true_item (holds s) xs i h in
    let here : tried s t.0 ≡ pair_entries (at t.0) (binds s t.0) = ap (λ b. pair_entries (at t.0) (cond b (binds s t.0) [])) t.2 in
    read_item (tried s) xs i t.0 [] t.1 ∙ here ∙ sym (resolved_led (binds s) xs i t.0 t.1)

-- the pieces at these places are the bindings of each member at its place
pub kept_pieces : (ss : Syntaxes) (xs : List Tree) (is : List ℕ) → AllZip IsTrueAt (table_of ss xs) is
    → joined_at (all_tried ss xs) is ≡ pair_entries (at_list xs) (each_binds ss xs is)
kept_pieces none xs is h = refl
kept_pieces (more s ss) xs [] h = refl
kept_pieces (more s ss) xs (i ∷ is) h =
    rw (map-append _ (pairs_at (binds s) xs i) (each_binds ss xs is), kept_piece s xs i h.0, kept_pieces ss xs is h.1) refl

-- how many bindings a piece has added
pub piece_length : (names : List (List ℕ)) (olds news : EntryPairs) (piece : Piece) → pairs_view names news ≡ pairs_view names olds ++ piece → length news ≡ length olds + length piece
piece_length names olds news piece e =
    let value : ℕ × Entry → List ℕ × Option Tree = λ p. (name_of names p.0, Some (view p.1)) in
    omega (arith, ap length e, length-append (pairs_view names olds) piece, length-map olds value, length-map news value)

-- where the bindings that were found are taken away again
pub none_left : (names : List (List ℕ)) (olds news : EntryPairs) (before : ℕ) (front : Piece) (pieces : List (List Piece)) → news ≡ take before olds → length front ≡ before
    → pairs_view names olds ≡ front ++ all_joined pieces → pairs_view names news ≡ front
none_left names olds news before front pieces t l e =
    let value : ℕ × Entry → List ℕ × Option Tree = λ p. (name_of names p.0, Some (view p.1)) in
    ap (pairs_view names) t ∙ sym (take-map value before olds) ∙ ap (take before) e ∙ take_at front (all_joined pieces) before l

-- where a call has answered the least assignment and kept the pieces, the bindings of each member at its place are added
pub settled : {E : Type 0} (ss : Syntaxes) (xs : List Tree) (r : Result (Option Candidates) E) (olds news : Piece) → GivesCandidates xs r (least (table_of ss xs))
    → IfOk r (λ _. news ≡ olds ++ option_map_or (joined_at (all_tried ss xs)) (least (table_of ss xs)) [])
    → IfOk r (λ o. news ≡ olds ++ pair_entries (at_list xs) (option_map_or (λ taken. each_binds ss xs (candidate_places xs taken)) o []))
settled ss xs (Ok (Some taken)) olds news h k =
    let is = candidate_places xs taken in
    let kept : news ≡ olds ++ joined_at (all_tried ss xs) is = subst (λ o. news ≡ olds ++ option_map_or (joined_at (all_tried ss xs)) o []) (sym h) k in
    kept ∙ ap (λ added. olds ++ added) (kept_pieces ss xs is (least_true (table_of ss xs) is (sym h)))
settled ss xs (Ok None) olds news h k = subst (λ o. news ≡ olds ++ option_map_or (joined_at (all_tried ss xs)) o []) (sym h) k
settled ss xs (Err f) olds news h k = tt
