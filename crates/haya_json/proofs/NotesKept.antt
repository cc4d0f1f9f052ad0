-- One note more, and notes that come in turn.
use Rattle.std.proofs.Common.{◌≡◌, ℕ, ◌+◌, ◌-◌, ◌<◌, ◌≤◌, Bool, true, false, not, List, [], ◌∷◌, ◌++◌, Option, None, Some, length, take, refl, sym, ap, ◌∙◌, append_assoc, if◌then◌else◌, arith}
use Rattle.std.specs.Prelude.{min, nat_lt, slice_get}
use Rattle.std.proofs.lemmas.Grind.{flat_map-append}
use Rattle.std.proofs.lemmas.List.{append-nil, length-append, length-take, take-append-le, take_all}
use Rattle.std.proofs.lemmas.Bool.{ltb-false, ltb-true}
use Rattle.std.proofs.lemmas.List.Elements.{filter-append}
use Rattle.haya_json.specs.Notes.{LossView, NoteView, NotesView, again, all_kept, first_after, first_named, first_note, is_named, kept_after, kept_by, kept_of, line_kept, lines_in, name_kept, named, names_in, names_of, none_kept, unread}
use Rattle.haya_json.specs.Tally.{Counts, as_count, counted, tally}
use Rattle.haya_json.proofs.Tallies.{counted_in_turn}

-- ---- the first note

-- where a line is kept, no later note is the first
behind_line : (n : NoteView) (counts : Counts) (l : NoteView) (lines : List NoteView) (first : Option NoteView) → first_after n counts (l ∷ lines) first ≡ first
behind_line n [] l lines first = refl
behind_line n (c ∷ counts) l lines first = refl

-- the first of notes, with one more behind them
first_more : (n : NoteView) (ns : List NoteView) → is_named n.lost.loss ≡ true
    → first_after n (tally (names_in ns)) (take 10 (lines_in ns)) (first_named ns) ≡ first_named (ns ++ n ∷ [])
first_more n [] is = rw is refl
first_more n (m ∷ ns) is = by m.lost.loss refl
  where
    by : (l : LossView) → m.lost.loss ≡ l → first_after n (tally (names_in (m ∷ ns))) (take 10 (lines_in (m ∷ ns))) (first_named (m ∷ ns)) ≡ first_named (m ∷ (ns ++ n ∷ []))
    by (named name) of = rw of refl
    by (unread why) of = rw of (behind_line n _ _ _ _)
    by again of = rw of (behind_line n _ _ _ _)

-- a note that isn't counted leaves the first as it is
first_same : (n : NoteView) (ns : List NoteView) → is_named n.lost.loss ≡ false → first_named ns ≡ first_named (ns ++ n ∷ [])
first_same n [] is = rw is refl
first_same n (m ∷ ns) is = refl

-- ---- one more

-- the parts of what is kept
abbrev parts : Counts → Option NoteView → List NoteView → ℕ → NotesView
parts counts first lines more = record { counts = counts; first_named = first; lines = lines; more = more }

-- a note that is counted
name_more : (name : List ℕ) (n : NoteView) (ns : List NoteView) → n.lost.loss ≡ named name → name_kept name n (kept_of ns) ≡ kept_of (ns ++ n ∷ [])
name_more name n ns of = same counts (first_more n ns (ap is_named of)) lines
  where
    counts : counted name (tally (names_in ns)) ≡ tally (names_in (ns ++ n ∷ []))
    counts = counted_in_turn (name ∷ []) (names_in ns) ∙ ap tally (sym (flat_map-append (λ m. names_of m.lost.loss) ns (n ∷ []) ∙ rw of refl))

    lines : lines_in ns ≡ lines_in (ns ++ n ∷ [])
    lines = sym (filter-append (λ m. not (is_named m.lost.loss)) ns (n ∷ []) ∙ rw of (append-nil (lines_in ns)))

    same : {counts counts' : Counts} {first first' : Option NoteView} {xs ys : List NoteView} → counts ≡ counts' → first ≡ first' → xs ≡ ys
        → parts counts first (take 10 xs) (as_count (length xs - 10)) ≡ parts counts' first' (take 10 ys) (as_count (length ys - 10))
    same a b c = rw (a, b, c) refl

-- what is kept of lines, with one more behind them
abbrev LinesMore : NoteView → List NoteView → List NoteView → ℕ → Type 0
LinesMore n xs lines more = (lines ≡ take 10 (xs ++ n ∷ [])) × (more ≡ as_count (length (xs ++ n ∷ []) - 10))

within_ten : (n : NoteView) (xs : List NoteView) → length xs < 10 → LinesMore n xs (take 10 xs ++ n ∷ []) (as_count (length xs - 10))
within_ten n xs few = (
  ap (λ l. l ++ n ∷ []) (take_all 10 xs (omega arith)) ∙ sym (take_all 10 (xs ++ n ∷ []) (rw (length-append xs (n ∷ [])) (omega arith))),
  ap as_count (let same : length (xs ++ n ∷ []) ≡ length xs + 1 = length-append xs (n ∷ []) in omega arith),
)

beyond_ten : (n : NoteView) (xs : List NoteView) → 10 ≤ length xs → LinesMore n xs (take 10 xs) (as_count (as_count (length xs - 10) + 1))
beyond_ten n xs many = (
  sym (take-append-le 10 xs (n ∷ []) many),
  let same : length (xs ++ n ∷ []) ≡ length xs + 1 = length-append xs (n ∷ []) in omega arith,
)

-- a note that isn't counted
line_more : (n : NoteView) (ns : List NoteView) → is_named n.lost.loss ≡ false → names_of n.lost.loss ≡ [] → line_kept n (kept_of ns) ≡ kept_of (ns ++ n ∷ [])
line_more n ns apart none = by (nat_lt (length (take 10 xs)) 10) refl
  where
    xs : List NoteView
    xs = lines_in ns

    names : names_in ns ≡ names_in (ns ++ n ∷ [])
    names = sym (flat_map-append (λ m. names_of m.lost.loss) ns (n ∷ []) ∙ rw none (append-nil (names_in ns)))

    lines : xs ++ n ∷ [] ≡ lines_in (ns ++ n ∷ [])
    lines = sym (filter-append (λ m. not (is_named m.lost.loss)) ns (n ∷ []) ∙ rw apart refl)

    same : {counts counts' : List (List ℕ × ℕ)} {first first' : Option NoteView} {ys : List NoteView} {kept : List NoteView} {more : ℕ} → counts ≡ counts' → first ≡ first'
        → LinesMore n xs kept more → xs ++ n ∷ [] ≡ ys
        → parts counts first kept more ≡ parts counts' first' (take 10 ys) (as_count (length ys - 10))
    same a b c d = rw (a, b, ← d, c.0, c.1) refl

    by : (b : Bool) → nat_lt (length (take 10 xs)) 10 ≡ b
        → (if nat_lt (length (take 10 xs)) 10 then record (kept_of ns) { lines = take 10 xs ++ n ∷ [] } else record (kept_of ns) { more = as_count (as_count (length xs - 10) + 1) })
        ≡ kept_of (ns ++ n ∷ [])
    by true is =
        let few : length (take 10 xs) < 10 = ltb-true (length (take 10 xs)) 10 is in
        let short : length (take 10 xs) ≡ min 10 (length xs) = length-take 10 xs in
        rw is (same (ap tally names) (first_same n ns apart) (within_ten n xs (omega arith)) lines)
    by false is =
        let many : 10 ≤ length (take 10 xs) = ltb-false (length (take 10 xs)) 10 is in
        let short : length (take 10 xs) ≡ min 10 (length xs) = length-take 10 xs in
        rw is (same (ap tally names) (first_same n ns apart) (beyond_ten n xs (omega arith)) lines)

-- one more note
one_more : (n : NoteView) (ns : List NoteView) → kept_after n (kept_of ns) ≡ kept_of (ns ++ n ∷ [])
one_more n ns = by n.lost.loss refl
  where
    by : (l : LossView) → n.lost.loss ≡ l → kept_by n.lost.loss n (kept_of ns) ≡ kept_of (ns ++ n ∷ [])
    by (named name) of = ap (λ l. kept_by l n (kept_of ns)) of ∙ name_more name n ns of
    by (unread why) of = ap (λ l. kept_by l n (kept_of ns)) of ∙ line_more n ns (ap is_named of) (ap names_of of)
    by again of = ap (λ l. kept_by l n (kept_of ns)) of ∙ line_more n ns (ap is_named of) (ap names_of of)

-- notes that are kept in turn
pub kept_in_turn : (more ns : List NoteView) → all_kept more (kept_of ns) ≡ kept_of (ns ++ more)
kept_in_turn [] ns = ap kept_of (sym (append-nil ns))
kept_in_turn (n ∷ more) ns = ap (all_kept more) (one_more n ns) ∙ kept_in_turn more (ns ++ n ∷ []) ∙ ap kept_of (append_assoc ns (n ∷ []) more)

-- some notes, and then others
pub kept_together : (xs ys : List NoteView) (kept : NotesView) → all_kept (xs ++ ys) kept ≡ all_kept ys (all_kept xs kept)
kept_together [] ys kept = refl
kept_together (x ∷ xs) ys kept = kept_together xs ys (kept_after x kept)

pub kept_from_none : (ns : List NoteView) → all_kept ns none_kept ≡ kept_of ns
kept_from_none ns = kept_in_turn ns []

-- ---- the first

-- the first that is kept is the first of the notes
pub first_of_kept : (ns : List NoteView) → first_note (kept_of ns) ≡ slice_get ns 0
first_of_kept [] = refl
first_of_kept (n ∷ ns) = by n.lost.loss refl
  where
    by : (l : LossView) → n.lost.loss ≡ l → first_note (kept_of (n ∷ ns)) ≡ Some n
    by (named name) is = rw is refl
    by (unread why) is = rw is refl
    by again is = rw is refl

-- without a first there are none
pub none_of_first : (ns : List NoteView) → first_note (kept_of ns) ≡ None → ns ≡ []
none_of_first [] none = refl
none_of_first (n ∷ ns) none = let some = sym (first_of_kept (n ∷ ns)) ∙ none in absurd (cc)
