-- The elements of a text are parts of it.
use Rattle.std.proofs.Common.{◌≡◌, ◌==◌, ◌-◌, ℕ, Bool, true, false, cond, List, [], ◌∷◌, ◌++◌, drop, length, refl, sym, ap, take, take-append-drop}
use Rattle.std.specs.Prelude.{slice_index}
use Rattle.std.specs.List.{AllByRecursion, concat, filter, onto_first, slice_split}
use Rattle.std.specs.Str.Lines.{lines, lines_of_parts, strip_carriage_return}
use Rattle.haya_json_elements.specs.Elements.{nonempty_lines}
use Rattle.haya_slices.specs.Layout.{IsPartOf}
use Rattle.haya_slices.proofs.PartsOf.{all_before, all_behind, behind, before}

abbrev pub AreParts : List ℕ → List (List ℕ) → Type 0
AreParts text parts = AllByRecursion (λ part. IsPartOf part text) parts

-- ---- lines

-- the first of parts is at the front of the bytes, and the others are parts of them
AreSplit : List ℕ → List (List ℕ) → Type 0
AreSplit text [] = Unit {0}
AreSplit text (part ∷ parts) =
    ((back : List ℕ) × (text ≡ part ++ back)) × AreParts text parts

split : (p : ℕ → Bool) (text : List ℕ) → AreSplit text (slice_split p text)
unfolding AreSplit
split p [] = (([], refl), tt)
split p (x ∷ xs) = by (p x) (slice_split p xs) (split p xs)
  where
    all : (parts : List (List ℕ)) → AreSplit xs parts → AreParts (x ∷ xs) parts
    all [] h = tt
    all (l ∷ ls) h = (
      record { front = x ∷ []; back = h.0.0; is = ap (λ t. x ∷ t) h.0.1 },
      all_behind ls xs (x ∷ xs) (x ∷ []) refl h.1,
    )

    by : (b : Bool) (parts : List (List ℕ)) → AreSplit xs parts
        → AreSplit (x ∷ xs) (cond b ([] ∷ parts) (onto_first x parts))
    by true parts h = ((x ∷ xs, refl), all parts h)
    by false [] h = ((xs, refl), tt)
    by false (l ∷ ls) h = (
      (h.0.0, ap (λ t. x ∷ t) h.0.1),
      all_behind ls xs (x ∷ xs) (x ∷ []) refl h.1,
    )

split_parts : (text : List ℕ) (parts : List (List ℕ)) → AreSplit text parts → AreParts text parts
unfolding AreSplit
split_parts text [] h = tt
split_parts text (l ∷ ls) h = (record { front = []; back = h.0.0; is = h.0.1 }, h.1)

stripped : (text line : List ℕ) → IsPartOf line text → IsPartOf (strip_carriage_return line) text
stripped text line h = by (slice_index line (length line - 1) == 13)
  where
    by : (b : Bool) → IsPartOf (cond b (take (length line - 1) line) line) text
    by true =
        behind (take (length line - 1) line) (line ++ h.back) text h.front h.is
        (before (take (length line - 1) line) line (line ++ h.back) h.back refl
        (record {
          front = [];
          back = drop (length line - 1) line;
          is = sym (take-append-drop (length line - 1) line);
        }))
    by false = h

of_parts : (text : List ℕ) (parts : List (List ℕ)) → AreParts text parts
    → AreParts text (lines_of_parts parts)
of_parts text [] h = tt
of_parts text (l ∷ []) h = by (length l == 0)
  where
    by : (b : Bool) → AreParts text (cond b [] (l ∷ []))
    by true = tt
    by false = h
of_parts text (l ∷ (m ∷ ls)) h = (stripped text l h.0, of_parts text (m ∷ ls) h.1)

filtered : (q : List ℕ → Bool) (text : List ℕ) (parts : List (List ℕ)) → AreParts text parts
    → AreParts text (filter q parts)
filtered q text [] h = tt
filtered q text (l ∷ ls) h = by (q l) (filtered q text ls h.1)
  where
    by : (b : Bool) → AreParts text (filter q ls)
        → AreParts text (cond b (l ∷ filter q ls) (filter q ls))
    by true more = (h.0, more)
    by false more = more

pub lines_are_parts : (text : List ℕ) → AreParts text (nonempty_lines (lines text))
lines_are_parts text =
    filtered _ text (lines text)
    (of_parts text (slice_split (λ b. b == 10) text)
    (split_parts text (slice_split (λ b. b == 10) text) (split (λ b. b == 10) text)))

-- ---- parts one behind the other

concat_parts : (parts : List (List ℕ)) → AreParts (concat parts) parts
concat_parts [] = tt
concat_parts (p ∷ ps) = (
  record { front = []; back = concat ps; is = refl },
  all_behind ps (concat ps) (p ++ concat ps) p refl (concat_parts ps),
)

pub joined_are_parts : (text front back : List ℕ) (parts : List (List ℕ))
    → text ≡ front ++ (concat parts ++ back) → AreParts text parts
joined_are_parts text front back parts is =
    all_behind parts (concat parts ++ back) text front is
    (all_before parts (concat parts) (concat parts ++ back) back refl (concat_parts parts))
