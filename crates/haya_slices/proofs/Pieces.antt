-- The lines of a text with no carriage return, by recursion over its bytes.
use Rattle.std.proofs.Common.{◌≡◌, ℕ, zero, suc, ◌-◌, Bool, true, false, not, ◌==◌, cond, List, [], ◌∷◌, ◌++◌, length, take, slice_index, refl, sym, ap, ◌∙◌, arith}
use Rattle.std.specs.List.{AllByRecursion, onto_first, slice_split}
use Rattle.haya_json_elements.specs.Elements.{nonempty_lines}
use Rattle.std.specs.Str.Lines.{lines, lines_of_parts, strip_carriage_return}
use Rattle.std.proofs.lemmas.Bool.{cond_both, ne_eqb}

-- up to the first line feed
abbrev pub first_line : List ℕ → List ℕ
first_line [] = []
first_line (x ∷ xs) = cond (x == 10) [] (x ∷ first_line xs)

-- the lines behind it
abbrev pub later_lines : List ℕ → List (List ℕ)
later_lines [] = []
later_lines (x ∷ xs) = cond (x == 10) (first_line xs ∷ later_lines xs) (later_lines xs)

-- those of all lines that aren't empty
abbrev pub pieces : List ℕ → List (List ℕ)
pieces xs = nonempty_lines (first_line xs ∷ later_lines xs)

pub nonempty_lines-some : (x : ℕ) (l : List ℕ) (ls : List (List ℕ))
    → nonempty_lines ((x ∷ l) ∷ ls) ≡ (x ∷ l) ∷ nonempty_lines ls
nonempty_lines-some x l ls =
    let some : (length (x ∷ l) == 0) ≡ false = ne_eqb (length (x ∷ l)) 0 (λ e. omega arith) in
    ap (λ b. cond (not b) ((x ∷ l) ∷ nonempty_lines ls) (nonempty_lines ls)) some

-- the byte appears nowhere in the text
abbrev pub HasNo : ℕ → List ℕ → Type 0
HasNo c xs = AllByRecursion (λ x. (x == c) ≡ false) xs

pub HasNo-append : (c : ℕ) (xs ys : List ℕ) → HasNo c xs → HasNo c ys → HasNo c (xs ++ ys)
HasNo-append c [] ys h k = k
HasNo-append c (x ∷ xs) ys h k = (h.0, HasNo-append c xs ys h.1 k)

-- Bytes with no line feed stand at the front of the first line.
pub first_line-append : (xs ys : List ℕ) → HasNo 10 xs
    → first_line (xs ++ ys) ≡ xs ++ first_line ys
first_line-append [] ys h = refl
first_line-append (x ∷ xs) ys h =
    ap (λ t. cond t [] (x ∷ first_line (xs ++ ys))) h.0
    ∙ ap (λ l. x ∷ l) (first_line-append xs ys h.1)

-- no line has a carriage return
abbrev HaveNoReturn : List (List ℕ) → Type 0
HaveNoReturn ls = AllByRecursion (HasNo 13) ls

splits : (xs : List ℕ) → slice_split (λ b. b == 10) xs ≡ first_line xs ∷ later_lines xs
splits [] = refl
splits (x ∷ xs) = ap (λ ps. cond (x == 10) ([] ∷ ps) (onto_first x ps)) (splits xs) ∙ by (x == 10)
  where
    by : (b : Bool) → cond b ([] ∷ (first_line xs ∷ later_lines xs))
        ((x ∷ first_line xs) ∷ later_lines xs)
        ≡ cond b [] (x ∷ first_line xs) ∷ cond b (first_line xs ∷ later_lines xs) (later_lines xs)
    by true = refl
    by false = refl

index_no_return : (l : List ℕ) (k : ℕ) → HasNo 13 l → (slice_index l k == 13) ≡ false
index_no_return [] k h = refl
index_no_return (x ∷ xs) zero h = h.0
index_no_return (x ∷ xs) (suc k) h = index_no_return xs k h.1

strips_none : (l : List ℕ) → HasNo 13 l → strip_carriage_return l ≡ l
strips_none l h = ap (λ b. cond b (take (length l - 1) l) l) (index_no_return l (length l - 1) h)

first_no_return : (xs : List ℕ) → HasNo 13 xs → HasNo 13 (first_line xs)
first_no_return [] h = tt
first_no_return (x ∷ xs) h =
    cond_both (x == 10) [] (x ∷ first_line xs) (HasNo 13) (λ e. tt)
    (λ e. (h.0, first_no_return xs h.1))

later_no_return : (xs : List ℕ) → HasNo 13 xs → HaveNoReturn (later_lines xs)
later_no_return [] h = tt
later_no_return (x ∷ xs) h =
    cond_both (x == 10) (first_line xs ∷ later_lines xs) (later_lines xs) HaveNoReturn
    (λ e. (first_no_return xs h.1, later_no_return xs h.1)) (λ e. later_no_return xs h.1)

nonempty_parts : (l : List ℕ) (ls : List (List ℕ)) → HasNo 13 l → HaveNoReturn ls
    → nonempty_lines (lines_of_parts (l ∷ ls)) ≡ nonempty_lines (l ∷ ls)
nonempty_parts l [] h k = by (length l == 0) refl
  where
    by : (b : Bool) → (length l == 0) ≡ b
        → nonempty_lines (cond b [] (l ∷ [])) ≡ cond (not (length l == 0)) (l ∷ []) []
    by true e = sym (ap (λ c. cond (not c) (l ∷ []) []) e)
    by false e = refl
nonempty_parts l (m ∷ ls) h k =
    (λ i. cond (not (length (strips_none l h i) == 0))
    (strips_none l h i ∷ nonempty_parts m ls k.0 k.1 i) (nonempty_parts m ls k.0 k.1 i))

-- The lines of a text that aren't empty are its pieces.
pub nonempty_lines-pieces : (xs : List ℕ) → HasNo 13 xs → nonempty_lines (lines xs) ≡ pieces xs
nonempty_lines-pieces xs h =
    ap (λ ps. nonempty_lines (lines_of_parts ps)) (splits xs)
    ∙ nonempty_parts (first_line xs) (later_lines xs) (first_no_return xs h) (later_no_return xs h)
