-- A library's text in parts: its lines, and the rows that they read as.
use Rattle.std.proofs.Common.{◌≡◌, ℕ, suc, ◌+◌, ◌≤◌, Bool, true, false, cond, ◌&&◌, List, [], ◌∷◌, ◌++◌, length, map, Option, None, Some, Result, Ok, Err, refl, sym, ap, ◌∙◌, append-nil, arith}
use Rattle.std.specs.Char.{is_ascii_digit}
use Rattle.std.specs.Prelude.{◌==◌, All, nat_le, nat_lt, ok_or}
use Rattle.std.specs.List.{AllPairs, AllZip, concat, flat_map, list_all, onto_first, slice_split}
use Rattle.std.specs.Str.Lines.{lines, lines_of_parts, strip_carriage_return}
use Rattle.std.specs.Str.Parse.{digits_value}
use Rattle.std.proofs.lemmas.Bool.{le-leb, leb-true}
use Rattle.std.proofs.lemmas.List.Elements.{All-head, All-tail}
use Rattle.hayagriva.specs.Library.{AreDistinct}
use Rattle.hayagriva.specs.Parts.{AreApart}
use Rattle.hayagriva.specs.Tree.{Tree, trees}
use Rattle.hayagriva.proofs.Parts.{AreApart-all, AreApart-entries, from_entries-distinct, from_entries-parts}
use Rattle.haya_lines.specs.FieldTable.{and_then}
use Rattle.haya_lines.specs.Items.{items}
use Rattle.haya_lines.specs.Line.{Row, depth_read, is_depth, row_read}
use Rattle.haya_lines.specs.declared.error.LineError.{LineError}
use Rattle.haya_lines.specs.declared.error.LineError.TheVariants.{Depth}
use Rattle.haya_line_library.specs.Input.{Describes, in_line, rows_of_all, rows_read}
use Rattle.haya_line_library.specs.Parts.{AreWholeLines}
use Rattle.haya_line_library.proofs.Chains.{rows_of_all-append}

-- ---- lines
abbrev is_feed : ℕ → Bool
is_feed b = b == 10

-- the parts that end with a line feed, and of bytes behind the last one a part more
abbrev ended : List ℕ → List (List ℕ)
ended [] = []
ended (b ∷ bs) = cond (is_feed b) ([] ∷ ended bs) (onto_first b (ended bs))

record IsSome {X : Type 0} (xs : List X) : Type 0 where
  first : X
  rest : List X
  is : xs ≡ first ∷ rest

onto_first-IsSome : (b : ℕ) (ps : List (List ℕ)) → IsSome (onto_first b ps)
onto_first-IsSome b [] = record { first = b ∷ []; rest = []; is = refl }
onto_first-IsSome b (p ∷ ps) = record { first = b ∷ p; rest = ps; is = refl }

cond-IsSome : (c : Bool) (b : ℕ) (ps : List (List ℕ)) → IsSome (cond c ([] ∷ ps) (onto_first b ps))
cond-IsSome true b ps = record { first = []; rest = ps; is = refl }
cond-IsSome false b ps = onto_first-IsSome b ps

split-IsSome : (bs : List ℕ) → IsSome (slice_split is_feed bs)
split-IsSome [] = record { first = []; rest = []; is = refl }
split-IsSome (b ∷ bs) = cond-IsSome (is_feed b) b (slice_split is_feed bs)

onto_first-append : (b : ℕ) (ps qs : List (List ℕ)) → IsSome ps → onto_first b (ps ++ qs) ≡ onto_first b ps ++ qs
onto_first-append b ps qs some = rw some.is refl

split-whole : (first second : List ℕ) → AreWholeLines first → slice_split is_feed (first ++ second) ≡ ended first ++ slice_split is_feed second
split-whole [] second whole = refl
split-whole (b ∷ []) second whole = let feed : b ≡ 10 = cc in rw feed refl
split-whole (b ∷ c ∷ bs) second whole = by (split-whole (c ∷ bs) second whole) (is_feed b) refl
  where
    by : slice_split is_feed (c ∷ bs ++ second) ≡ ended (c ∷ bs) ++ slice_split is_feed second → (x : Bool) → is_feed b ≡ x
        → slice_split is_feed (b ∷ c ∷ bs ++ second) ≡ ended (b ∷ c ∷ bs) ++ slice_split is_feed second
    by rest true h = rw h (ap (λ l. [] ∷ l) rest)
    by rest false h =
        rw h
        (ap (onto_first b) rest ∙ onto_first-append b (ended (c ∷ bs)) (slice_split is_feed second) (cond-IsSome (is_feed c) c (ended bs)))

lines_of_parts-append : (ps : List (List ℕ)) (q : List ℕ) (qs : List (List ℕ)) → lines_of_parts (ps ++ q ∷ qs) ≡ map strip_carriage_return ps ++ lines_of_parts (q ∷ qs)
lines_of_parts-append [] q qs = refl
lines_of_parts-append (p ∷ []) q qs = refl
lines_of_parts-append (p ∷ r ∷ ps) q qs = ap (λ l. strip_carriage_return p ∷ l) (lines_of_parts-append (r ∷ ps) q qs)

lines-whole : (first second : List ℕ) → AreWholeLines first → lines (first ++ second) ≡ map strip_carriage_return (ended first) ++ lines second
lines-whole first second whole =
    let some = split-IsSome second in
    ap lines_of_parts (split-whole first second whole ∙ ap (λ l. ended first ++ l) some.is)
    ∙ lines_of_parts-append (ended first) some.first some.rest
    ∙ ap (λ l. map strip_carriage_return (ended first) ++ lines_of_parts l) (sym some.is)

pub lines-append : (first second : List ℕ) → AreWholeLines first → lines (first ++ second) ≡ lines first ++ lines second
lines-append first second whole =
    lines-whole first second whole
    ∙ ap (λ l. l ++ lines second) (sym (append-nil (map strip_carriage_return (ended first))) ∙ sym (lines-whole first [] whole) ∙ ap lines (append-nil first))

-- ---- rows
and_weaker : (x y z : Bool) → (y ≡ true → z ≡ true) → (x && y) ≡ true → (x && z) ≡ true
and_weaker true y z h k = h k
and_weaker false y z h k = k

is_depth-deeper : (d e : ℕ) (item : List ℕ) → d ≤ e → is_depth d item ≡ true → is_depth e item ≡ true
is_depth-deeper d e item within =
    and_weaker (list_all is_ascii_digit item) _ _ (and_weaker (nat_lt 0 (length item)) _ _ (and_weaker (nat_lt (length item) 4) _ _
    (and_weaker (nat_le (digits_value 10 item) 500) _ _ (λ h.
    let below = leb-true (digits_value 10 item) d h in le-leb (digits_value 10 item) e (omega arith)))))

depth_read-deeper : (d e : ℕ) (item : List ℕ) (n : ℕ) → d ≤ e → depth_read d item ≡ Some n → depth_read e item ≡ Some n
depth_read-deeper d e item n within = by (is_depth d item) refl
  where
    by : (x : Bool) → is_depth d item ≡ x → depth_read d item ≡ Some n → depth_read e item ≡ Some n
    by true h read = let deeper = is_depth-deeper d e item within h in rw deeper (rw h at read)
    by false h read = cc

and_then-Ok : {T U E : Type 0} (r : Result T E) (f : T → Result U E) (y : U) → and_then r f ≡ Ok y → (x : T) × (r ≡ Ok x) × (f x ≡ Ok y)
and_then-Ok (Ok x) f y h = (x, refl, h)
and_then-Ok (Err e) f y h = absurd (cc)

deeper-and_then : {T U E : Type 0} (o p : Option T) (e : E) (f : T → Result U E) (y : U) → ((x : T) → o ≡ Some x → p ≡ Some x) → and_then (ok_or o e) f ≡ Ok y
    → and_then (ok_or p e) f ≡ Ok y
deeper-and_then None p e f y same h = cc
deeper-and_then (Some x) p e f y same h = rw (same x refl) h

row_read-deeper : (d e : ℕ) (is : List (List ℕ)) (row : Row) → d ≤ e → row_read d is ≡ Ok row → row_read e is ≡ Ok row
row_read-deeper d e (depth ∷ key ∷ kind ∷ more) row within read =
    deeper-and_then (depth_read d depth) (depth_read e depth) Depth _ row (λ n. depth_read-deeper d e depth n within) read
row_read-deeper d e _ row within read = cc

in_line-Ok : (n : ℕ) (r : Result Row LineError) (row : Row) → in_line n r ≡ Ok row → r ≡ Ok row
in_line-Ok n (Ok row) other h = cc
in_line-Ok n (Err e) other h = cc

abbrev ok_rows : List Row → Result (List Row) (ℕ × LineError)
ok_rows rows = Ok rows

ok_rows-append : (rows others more : List Row) → ok_rows rows ≡ ok_rows others → ok_rows (rows ++ more) ≡ ok_rows (others ++ more)
ok_rows-append rows others more h = let same : rows ≡ others = cc in ap (λ l. Ok (l ++ more)) same

-- rows stay where they may be deeper, and whatever number the first line has; and others follow
rows_read-line : (m n d e : ℕ) (line : List ℕ) (xs ys : List (List ℕ)) (rows more : List Row) → d ≤ e
    → ((c f : ℕ) (rest : List Row) → c ≤ f → rows_read (m + 1) c xs ≡ Ok rest → rows_read (n + 1) f (xs ++ ys) ≡ Ok (rest ++ more)) → (empty : Bool)
    → (length line == 0) ≡ empty → rows_read m d (line ∷ xs) ≡ Ok rows → rows_read n e (line ∷ xs ++ ys) ≡ Ok (rows ++ more)
rows_read-line m n d e line xs ys rows more within later true empty read = rw empty (later d e rows within (rw empty at read))
rows_read-line m n d e line xs ys rows more within later false some read =
    let row = and_then-Ok (in_line m (row_read d (items line))) _ rows (rw some at read) in
    let here = row_read-deeper d e (items line) row.0 within (in_line-Ok m (row_read d (items line)) row.0 row.1) in
    let rest = and_then-Ok (rows_read (m + 1) (row.0.depth + 1) xs) _ rows row.2 in
    let there = later (row.0.depth + 1) (row.0.depth + 1) rest.0 (omega arith) rest.1 in
    rw (some, here, there) (ok_rows-append (row.0 ∷ rest.0) rows more rest.2)

rows_read-append : (m n d e : ℕ) (xs ys : List (List ℕ)) (rows more : List Row) → d ≤ e → rows_read m d xs ≡ Ok rows
    → ((k deepest : ℕ) → rows_read k deepest ys ≡ Ok more) → rows_read n e (xs ++ ys) ≡ Ok (rows ++ more)
rows_read-append m n d e [] ys rows more within read there = let none : rows ≡ [] = cc in rw none (there n e)
rows_read-append m n d e (line ∷ xs) ys rows more within read there =
    rows_read-line m n d e line xs ys rows more within (λ c f rest deeper h. rows_read-append (m + 1) (n + 1) c f xs ys rest more deeper h there) (length line == 0)
    refl read

-- rows that may begin a text may stand anywhere
rows_read-anywhere : (ls : List (List ℕ)) (rows : List Row) → rows_read 1 0 ls ≡ Ok rows → (k deepest : ℕ) → rows_read k deepest ls ≡ Ok rows
rows_read-anywhere ls rows read k deepest =
    ap (rows_read k deepest) (sym (append-nil ls)) ∙ rows_read-append 1 k 0 deepest ls [] rows [] (omega arith) read (λ _ _. refl)
    ∙ ap (λ l. Ok l) (append-nil rows)

-- ---- the entries of both texts
pub Describes-append : (first second : List ℕ) (a b : List Tree) → AreWholeLines first → AreApart a b → Describes first a → Describes second b → Describes (first ++ second) (a ++ b)
Describes-append first second a b whole apart f g = record {
  entries = f.entries ++ g.entries;
  rows =
      ap (rows_read 1 0) (lines-append first second whole)
      ∙ rows_read-append 1 1 0 0 (lines first) (lines second) (rows_of_all 0 (trees f.entries)) (rows_of_all 0 (trees g.entries)) (omega arith) f.rows
      (rows_read-anywhere (lines second) (rows_of_all 0 (trees g.entries)) g.rows)
      ∙ ap (λ l. Ok l) (sym (rows_of_all-append 0 f.entries g.entries));
  of_entries =
      rw (f.of_entries, g.of_entries)
      (sym (from_entries-parts f.entries g.entries (AreApart-entries f.entries g.entries (rw (f.of_entries, g.of_entries) at apart))));
}

pub Describes-many : (texts : List (List ℕ)) (parts : List (List Tree)) → All AreWholeLines texts → AllPairs AreApart parts → AllZip Describes texts parts
    → Describes (concat texts) (flat_map (λ a. a) parts)
Describes-many [] [] whole apart h = record { entries = []; rows = refl; of_entries = refl }
Describes-many [] (a ∷ parts) whole apart h = absurd h
Describes-many (t ∷ texts) [] whole apart h = absurd h
Describes-many (t ∷ texts) (a ∷ parts) whole apart h =
    Describes-append t (concat texts) a (flat_map (λ b. b) parts) (All-head AreWholeLines t texts whole)
    (AreApart-all a parts (λ k d within. apart 0 (suc k) d (omega arith) (omega arith))) h.0
    (Describes-many texts parts (All-tail AreWholeLines t texts whole) (λ i j d before within. apart (suc i) (suc j) d (omega arith) (omega arith)) h.1)

pub Describes-distinct : (text : List ℕ) (library : List Tree) (given : Describes text library) → AreDistinct given.entries → library ≡ given.entries
Describes-distinct text library given distinct = given.of_entries ∙ from_entries-distinct given.entries distinct
