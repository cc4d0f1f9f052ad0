-- No more calls than forms times entries.
use Rattle.std.proofs.Common.{◌≡◌, ℕ, ◌+◌, ◌*◌, ◌≤◌, Bool, true, false, cond, List, [], ◌∷◌, Result, Ok, Err, refl, sym, ap, arith}
use Rattle.std.specs.Prelude.{is_some, sum_by}
use Rattle.std.specs.List.{position_or_len}
use Rattle.std.proofs.lemmas.List.Sums.{sum_by-cons, sum_by-take-le}
use Rattle.haya_entry.specs.Names.{is_of_type}
use Rattle.haya_entry.specs.Tree.{Tree, Trees, node, no_trees, one_more, trees, tree_list, parents, size, sizes}
use Rattle.haya_selectors.specs.Calls.{calls, first_calls, calls_on, first_calls_on, all_calls}
use Rattle.haya_selectors.specs.Evaluation.{Ticks}
use Rattle.haya_selectors.specs.Holds.{holds, candidates}
use Rattle.haya_selectors.specs.Places.{items_up_to}
use Rattle.haya_selectors.specs.Syntax.{Syntax, Wildcard, Entry, Neg, Binding, Attr, Alt, Multi, Ancestrage, Syntaxes, none, more, nodes, nodes_of_all}

-- how many entries a list of trees has
abbrev total : List Tree → ℕ
total xs = sizes (trees xs)

total-tree_list : (ps : Trees) → total (tree_list ps) ≡ sizes ps
total-tree_list no_trees = refl
total-tree_list (one_more t ts) = ap (λ n. size t + n) (total-tree_list ts)

size_is : (x : Tree) → size x ≡ 1 + total (parents x)
size_is (node f ps) = ap (λ n. 1 + n) (sym (total-tree_list ps))

either_at_most : (b : Bool) (m n : ℕ) → cond b m n ≤ m + n
either_at_most true m n = omega arith
either_at_most false m n = omega arith

module _ (f : Tree → ℕ) (k : ℕ) (each : (x : Tree) → f x ≤ k * size x) where
  sum_at_most : (xs : List Tree) → sum_by f xs ≤ k * total xs
  sum_at_most [] = omega arith
  sum_at_most (x ∷ xs) = omega (arith, sum_by-cons f x xs, each x, sum_at_most xs)

  first_at_most : (test : Tree → Bool) (xs : List Tree) → sum_by f (items_up_to test xs) ≤ k * total xs
  first_at_most test xs = omega (arith, sum_by-take-le f xs (position_or_len test xs + 1), sum_at_most xs)

mutual
  pub calls_at_most : (s : Syntax) (x : Tree) → calls s x ≤ nodes s * size x
  calls_at_most Wildcard x = omega (arith, size_is x)
  calls_at_most (Entry t) x = omega (arith, size_is x)
  calls_at_most (Neg s) x = omega (arith, size_is x, calls_at_most s x)
  calls_at_most (Binding n s) x = omega (arith, size_is x, calls_at_most s x)
  calls_at_most (Attr s names) x = omega (arith, size_is x, calls_at_most s x)
  calls_at_most (Alt ss) x = omega (arith, size_is x, first_calls_at_most ss x)
  calls_at_most (Multi ss) x = omega (arith, size_is x)
  calls_at_most (Ancestrage l r) x =
      omega (arith, size_is x, calls_at_most l x, calls_on_at_most r (parents x), either_at_most (holds l x) (calls_on r (parents x)) 0, ap (λ n. nodes r * n) (size_is x))

  first_calls_at_most : (ss : Syntaxes) (x : Tree) → first_calls ss x ≤ nodes_of_all ss * size x
  first_calls_at_most none x = omega arith
  first_calls_at_most (more s ss) x = omega (arith, calls_at_most s x, first_calls_at_most ss x, either_at_most (holds s x) 0 (first_calls ss x))

  calls_on_at_most : (s : Syntax) (xs : List Tree) → calls_on s xs ≤ nodes s * (1 + total xs)
  calls_on_at_most Wildcard xs = omega arith
  calls_on_at_most (Entry t) xs = omega (arith, first_at_most (calls (Entry t)) 1 (λ x. omega (arith, size_is x)) (is_of_type t) xs)
  calls_on_at_most (Neg s) xs = omega (arith, calls_on_at_most s xs)
  calls_on_at_most (Binding n s) xs = omega (arith, calls_on_at_most s xs)
  calls_on_at_most (Attr s names) xs = omega (arith, calls_on_at_most s xs)
  calls_on_at_most (Alt ss) xs = omega (arith, first_calls_on_at_most ss xs)
  calls_on_at_most (Multi ss) xs = omega (arith, all_calls_at_most ss xs)
  calls_on_at_most (Ancestrage l r) xs =
      omega (
        arith,
        first_at_most (calls (Ancestrage l r)) (1 + nodes l + nodes r)
            (λ x. omega (arith, size_is x, calls_at_most l x, calls_on_at_most r (parents x), either_at_most (holds l x) (calls_on r (parents x)) 0, ap (λ n. nodes r * n) (size_is x)))
            (holds (Ancestrage l r)) xs,
      )

  first_calls_on_at_most : (ss : Syntaxes) (xs : List Tree) → first_calls_on ss xs ≤ nodes_of_all ss * (1 + total xs)
  first_calls_on_at_most none xs = omega arith
  first_calls_on_at_most (more s ss) xs =
      omega (arith, calls_on_at_most s xs, first_calls_on_at_most ss xs, either_at_most (is_some (candidates s xs)) 0 (first_calls_on ss xs))

  all_calls_at_most : (ss : Syntaxes) (xs : List Tree) → all_calls ss xs ≤ nodes_of_all ss * total xs
  all_calls_at_most none xs = omega arith
  all_calls_at_most (more s ss) xs = omega (arith, sum_at_most (calls s) (nodes s) (λ x. calls_at_most s x) xs, all_calls_at_most ss xs)

-- one tick before
pub ticks_more : {T E : Type 0} (r : Result T E) (old new n : ℕ) → Ticks r (old + 1) new n → Ticks r old new (1 + n)
ticks_more (Ok x) old new n h = omega arith
ticks_more (Err e) old new n h = omega arith
