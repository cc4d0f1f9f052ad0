-- Each part of a text that lists entries lists one of them.
use Rattle.std.proofs.Common.{◌≡◌, ℕ, ◌+◌, ◌≤◌, Bool, true, false, List, [], ◌∷◌, ◌++◌, length, Result, Ok, Err, refl, sym, ap, ◌∙◌, append-nil, arith}
use Rattle.std.specs.Prelude.{◌==◌, flat_map, ⊤}
use Rattle.std.specs.List.{AllByRecursion, AllZip}
use Rattle.std.specs.Str.Lines.{lines}
use Rattle.haya_entry.specs.Tree.{Tree, Trees, node, no_trees, one_more, trees}
use Rattle.haya_lines.specs.Items.{items}
use Rattle.haya_lines.specs.Line.{Row, row_read}
use Rattle.haya_lines.specs.declared.error.LineError.{LineError}
use Rattle.haya_line_library.specs.Input.{in_line, rows_of, rows_of_all, rows_read}
use Rattle.haya_line_slices.specs.EntryLines.{AreEntryParts, BeginNone, IsEntryOf, IsEntryPart, begins_entry}
use Rattle.haya_line_slices.proofs.Rows.{and_then-Ok, row-begins, row-depth}
use Rattle.haya_line_slices.proofs.Starts.{not-zero}

-- ---- one line

in_line-Ok : (n : ℕ) (r : Result Row LineError) (row : Row) → in_line n r ≡ Ok row → r ≡ Ok row
in_line-Ok n (Ok x) row h = let same : x ≡ row = cc (h) in ap (λ y. Ok y) same
in_line-Ok n (Err e) row h = absurd (cc (h))

abbrev ok_rows : List Row → Result (List Row) (ℕ × LineError)
ok_rows rows = Ok rows

ok-rows : (xs ys : List Row) → ok_rows xs ≡ ok_rows ys → xs ≡ ys
ok-rows xs ys h = cc (h)

-- a line that isn't empty reads as a row, and those behind it as others
record First (m d : ℕ) (line : List ℕ) (more : List (List ℕ)) (rows : List Row) : Type 0 where
  row : Row
  rest : List Row
  is : rows ≡ row ∷ rest
  read : row_read d (items line) ≡ Ok row
  behind : rows_read (m + 1) (row.depth + 1) more ≡ Ok rest

first-row : (m d : ℕ) (line : List ℕ) (more : List (List ℕ)) (rows : List Row)
    → (length line == 0) ≡ false → rows_read m d (line ∷ more) ≡ Ok rows → First m d line more rows
first-row m d line more rows some h =
    let step = (rw some at h) in
    let a = and_then-Ok (in_line m (row_read d (items line))) _ rows step in
    let b = and_then-Ok (rows_read (m + 1) (a.0.depth + 1) more) _ rows a.2 in
    record {
      row = a.0;
      rest = b.0;
      is = sym (ok-rows (a.0 ∷ b.0) rows b.2);
      read = in_line-Ok m (row_read d (items line)) a.0 a.1;
      behind = b.1;
    }

read-first : (m d : ℕ) (line : List ℕ) (more : List (List ℕ)) (row : Row) (rest : List Row)
    → (length line == 0) ≡ false → row_read d (items line) ≡ Ok row
    → rows_read (m + 1) (row.depth + 1) more ≡ Ok rest → rows_read m d (line ∷ more) ≡ Ok (row ∷ rest)
read-first m d line more row rest some read behind = rw (some, read, behind) refl

-- a line that begins an entry isn't empty
begins-full : (line : List ℕ) → begins_entry line ≡ true → (length line == 0) ≡ false
begins-full [] h = absurd (cc (h))
begins-full (x ∷ line) h = not-zero (length (x ∷ line)) (omega arith)

zero-is : (n : ℕ) → (n == 0) ≡ true → n ≡ 0
zero-is n h = grind (arith, h)

some-is : (n : ℕ) → (n == 0) ≡ false → 1 ≤ n
some-is n h = grind (arith, h)

-- ---- lines by their numbers

number-free : (m n d : ℕ) (ls : List (List ℕ)) (rows : List Row) → rows_read m d ls ≡ Ok rows
    → rows_read n d ls ≡ Ok rows
number-free m n d [] rows h = h
number-free m n d (line ∷ ls) rows h = by (length line == 0) refl (λ p q c rs k. number-free p q c ls rs k)
  where
    by : (b : Bool) → (length line == 0) ≡ b
        → ((p q c : ℕ) (rs : List Row) → rows_read p c ls ≡ Ok rs → rows_read q c ls ≡ Ok rs)
        → rows_read n d (line ∷ ls) ≡ Ok rows
    by true e again = rw e (again (m + 1) (n + 1) d rows (rw e at h))
    by false e again =
        let f = first-row m d line ls rows e h in
        read-first n d line ls f.row f.rest e f.read (again (m + 1) (n + 1) (f.row.depth + 1) f.rest f.behind)
        ∙ ap (λ l. Ok l) (sym f.is)

-- ---- lines in two parts

record Split (m d : ℕ) (xs ys : List (List ℕ)) (rows : List Row) : Type 0 where
  front : List Row
  back : List Row
  number : ℕ
  deepest : ℕ
  is : rows ≡ front ++ back
  reads : rows_read m d xs ≡ Ok front
  more : rows_read number deepest ys ≡ Ok back

rows-split : (m d : ℕ) (xs ys : List (List ℕ)) (rows : List Row) → rows_read m d (xs ++ ys) ≡ Ok rows
    → Split m d xs ys rows
rows-split m d [] ys rows h = record { front = []; back = rows; number = m; deepest = d; is = refl; reads = refl; more = h }
rows-split m d (line ∷ xs) ys rows h = by (length line == 0) refl (λ p c rs k. rows-split p c xs ys rs k)
  where
    by : (b : Bool) → (length line == 0) ≡ b
        → ((p c : ℕ) (rs : List Row) → rows_read p c (xs ++ ys) ≡ Ok rs → Split p c xs ys rs)
        → Split m d (line ∷ xs) ys rows
    by true e again =
        let s = again (m + 1) d rows (rw e at h) in
        record { front = s.front; back = s.back; number = s.number; deepest = s.deepest; is = s.is; reads = rw e s.reads; more = s.more }
    by false e again =
        let f = first-row m d line (xs ++ ys) rows e h in
        let s = again (m + 1) (f.row.depth + 1) f.rest f.behind in
        record {
          front = f.row ∷ s.front;
          back = s.back;
          number = s.number;
          deepest = s.deepest;
          is = f.is ∙ ap (λ l. f.row ∷ l) s.is;
          reads = read-first m d line xs f.row s.front e f.read s.reads;
          more = s.more;
        }

-- ---- depths

abbrev Deep : List Row → Type 0
Deep rows = AllByRecursion (λ r. 1 ≤ r.depth) rows

abbrev Shallow : List Row → Type 0
Shallow [] = ⊤
Shallow (r ∷ rows) = r.depth ≡ 0

deep-rows : (m d : ℕ) (ls : List (List ℕ)) (rows : List Row) → rows_read m d ls ≡ Ok rows → BeginNone ls
    → Deep rows
deep-rows m d [] rows h none = let same : rows ≡ [] = sym (ok-rows [] rows h) in rw same tt
deep-rows m d (line ∷ ls) rows h none = by (length line == 0) refl (λ p c rs k. deep-rows p c ls rs k none.1)
  where
    by : (b : Bool) → (length line == 0) ≡ b → ((p c : ℕ) (rs : List Row) → rows_read p c ls ≡ Ok rs → Deep rs) → Deep rows
    by true e again = again (m + 1) d rows (rw e at h)
    by false e again =
        let f = first-row m d line ls rows e h in
        rw f.is (
          some-is f.row.depth (sym (row-begins d line f.row f.read) ∙ none.0),
          again (m + 1) (f.row.depth + 1) f.rest f.behind,
        )

-- in front of the first entry no line has a row
front-skipped : (m : ℕ) (ls more : List (List ℕ)) (rows : List Row) → BeginNone ls
    → rows_read m 0 (ls ++ more) ≡ Ok rows → (n : ℕ) × (rows_read n 0 more ≡ Ok rows)
front-skipped m [] more rows none h = (m, h)
front-skipped m (line ∷ ls) more rows none h = by (length line == 0) refl (λ k. front-skipped (m + 1) ls more rows none.1 k)
  where
    by : (b : Bool) → (length line == 0) ≡ b
        → (rows_read (m + 1) 0 (ls ++ more) ≡ Ok rows → (n : ℕ) × (rows_read n 0 more ≡ Ok rows)) → (n : ℕ) × (rows_read n 0 more ≡ Ok rows)
    by true e again = again (rw e at h)
    by false e again =
        let f = first-row m 0 line (ls ++ more) rows e h in
        let low = (row-depth 0 (items line) f.row f.read).within in
        let deep = some-is f.row.depth (sym (row-begins 0 line f.row f.read) ∙ none.0) in
        absurd (omega (arith, low, deep))

-- ---- the lines of a part

record PartRows (n : ℕ) (first : List ℕ) (more : List (List ℕ)) (rows : List Row) : Type 0 where
  row : Row
  deep : List Row
  is : rows ≡ row ∷ deep
  shallow : row.depth ≡ 0
  below : Deep deep
  alone : rows_read n 0 (first ∷ more) ≡ Ok rows

part-rows : (m n d : ℕ) (first : List ℕ) (more : List (List ℕ)) (rows : List Row)
    → begins_entry first ≡ true → BeginNone more → rows_read m d (first ∷ more) ≡ Ok rows
    → PartRows n first more rows
part-rows m n d first more rows begins none h =
    let full = begins-full first begins in
    let f = first-row m d first more rows full h in
    let zero = zero-is f.row.depth (sym (row-begins d first f.row f.read) ∙ begins) in
    record {
      row = f.row;
      deep = f.rest;
      is = f.is;
      shallow = zero;
      below = deep-rows (m + 1) (f.row.depth + 1) more f.rest f.behind none;
      alone =
          read-first n 0 first more f.row f.rest full ((row-depth d (items first) f.row f.read).anywhere zero)
          (number-free (m + 1) (n + 1) (f.row.depth + 1) more f.rest f.behind)
          ∙ ap (λ l. Ok l) (sym f.is);
    }

shallow-rows : (m d : ℕ) (ps : List (List ℕ)) (rows : List Row) → AllByRecursion IsEntryPart ps
    → rows_read m d (flat_map lines ps) ≡ Ok rows → Shallow rows
shallow-rows m d [] rows each h = let same : rows ≡ [] = sym (ok-rows [] rows h) in rw same tt
shallow-rows m d (p ∷ ps) rows each h =
    let part = each.0 in
    let lines_are : rows_read m d (part.first ∷ (part.more ++ flat_map lines ps)) ≡ Ok rows =
    ap (λ l. rows_read m d (l ++ flat_map lines ps)) (sym part.is) ∙ h in
    let full = begins-full part.first part.begins in
    let f = first-row m d part.first (part.more ++ flat_map lines ps) rows full lines_are in
    rw f.is (zero-is f.row.depth (sym (row-begins d part.first f.row f.read) ∙ part.begins))

-- ---- the rows of trees

deep-both : (xs ys : List Row) → Deep xs → Deep ys → Deep (xs ++ ys)
deep-both [] ys h k = k
deep-both (x ∷ xs) ys h k = (h.0, deep-both xs ys h.1 k)

mutual
  deep-tree : (d : ℕ) (t : Tree) → 1 ≤ d → Deep (rows_of d t)
  deep-tree d (node f ps) h = (h, deep-trees (d + 1) ps (omega (arith, h)))

  deep-trees : (d : ℕ) (ts : Trees) → 1 ≤ d → Deep (rows_of_all d ts)
  deep-trees d no_trees h = tt
  deep-trees d (one_more t ts) h = deep-both (rows_of d t) (rows_of_all d ts) (deep-tree d t h) (deep-trees d ts h)

shallow-trees : (ts : List Tree) → Shallow (rows_of_all 0 (trees ts))
shallow-trees [] = tt
shallow-trees (node f ps ∷ ts) = refl

-- deep rows and what is behind them are apart
apart : (a b c e : List Row) → a ++ b ≡ c ++ e → Deep a → Deep c → Shallow b → Shallow e
    → (a ≡ c) × (b ≡ e)
apart [] b [] e h da dc sb se = (refl, h)
apart [] [] (x ∷ c) e h da dc sb se = absurd (cc (h))
apart [] (y ∷ b) (x ∷ c) e h da dc sb se =
    let same : y ≡ x = cc (h) in
    absurd (let deep = dc.0 in let depth = ap (λ r. r.depth) same in omega (arith, deep, depth, sb))
apart (x ∷ a) b [] [] h da dc sb se = absurd (cc (h))
apart (x ∷ a) b [] (y ∷ e) h da dc sb se =
    let same : x ≡ y = cc (h) in
    absurd (let deep = da.0 in let depth = ap (λ r. r.depth) same in omega (arith, deep, depth, se))
apart (x ∷ a) b (y ∷ c) e h da dc sb se =
    let same : x ≡ y = cc (h) in
    let rest : a ++ b ≡ c ++ e = cc (h) in
    let more = apart a b c e rest da.1 dc.1 sb se in
    ((λ i. same i ∷ more.0 i), more.1)

-- ---- all parts

entries-of-parts : (ps : List (List ℕ)) (m d : ℕ) (entries : List Tree) → AllByRecursion IsEntryPart ps
    → rows_read m d (flat_map lines ps) ≡ Ok (rows_of_all 0 (trees entries)) → AllZip IsEntryOf ps entries
entries-of-parts [] m d [] each h = tt
entries-of-parts [] m d (node f qs ∷ ts) each h = absurd (let same = ok-rows [] _ h in cc (same))
entries-of-parts (p ∷ ps) m d entries each h =
    let part = each.0 in
    let s = rows-split m d (lines p) (flat_map lines ps) _ h in
    let reads : rows_read m d (part.first ∷ part.more) ≡ Ok s.front = ap (rows_read m d) (sym part.is) ∙ s.reads in
    let own = part-rows m 1 d part.first part.more s.front part.begins part.behind reads in
    by entries s.number s.deepest own s.is s.more (λ n e ts k. entries-of-parts ps n e ts each.1 k)
  where
    by : (entries : List Tree) (n e : ℕ) {front back : List Row} → PartRows 1 each.0.first each.0.more front
        → rows_of_all 0 (trees entries) ≡ front ++ back → rows_read n e (flat_map lines ps) ≡ Ok back
        → ((k c : ℕ) (ts : List Tree) → rows_read k c (flat_map lines ps) ≡ Ok (rows_of_all 0 (trees ts)) → AllZip IsEntryOf ps ts)
        → AllZip IsEntryOf (p ∷ ps) entries
    by [] n e {front} {back} own is more again =
        absurd (let all : [] ≡ own.row ∷ (own.deep ++ back) = is ∙ ap (λ l. l ++ back) own.is in cc (all))
    by (node f qs ∷ ts) n e {front} {back} own is more again =
        let all : record { depth = 0; fields = f } ∷ (rows_of_all 1 qs ++ rows_of_all 0 (trees ts)) ≡ own.row ∷ (own.deep ++ back) =
        is ∙ ap (λ l. l ++ back) own.is in
        let head : record { depth = 0; fields = f } ≡ own.row = cc (all) in
        let tail : rows_of_all 1 qs ++ rows_of_all 0 (trees ts) ≡ own.deep ++ back = cc (all) in
        let two = apart (rows_of_all 1 qs) (rows_of_all 0 (trees ts)) own.deep back tail
        (deep-trees 1 qs (omega arith)) own.below (shallow-trees ts) (shallow-rows n e ps back each.1 more) in
        let front_is : front ≡ rows_of 0 (node f qs) = own.is ∙ sym (λ i. head i ∷ two.0 i) in (
          ap (rows_read 1 0) each.0.is ∙ own.alone ∙ ap (λ l. Ok l) (front_is ∙ sym (append-nil (rows_of 0 (node f qs)))),
          again n e ts (more ∙ ap (λ l. Ok l) (sym two.1)),
        )

pub parts-list : (text : List ℕ) (parts : List (List ℕ)) (entries : List Tree) → AreEntryParts text parts
    → rows_read 1 0 (lines text) ≡ Ok (rows_of_all 0 (trees entries)) → AllZip IsEntryOf parts entries
parts-list text parts entries are h =
    let skipped = front-skipped 1 (lines are.front) (flat_map lines parts) _ are.before
    (ap (rows_read 1 0) (sym are.whole) ∙ h) in
    entries-of-parts parts skipped.0 0 entries are.each skipped.1

-- ---- a line alone

-- a line that begins no entry lists none
pub none-listed : (line : List ℕ) (entry : Tree) → lines line ≡ line ∷ [] → begins_entry line ≡ false
    → IsEntryOf line entry → ⊥
none-listed line (node f ps) one none h =
    let skipped = front-skipped 1 (line ∷ []) [] _ (none, tt) (ap (rows_read 1 0) (sym one) ∙ h) in
    let same = ok-rows [] _ skipped.1 in
    cc (same)
