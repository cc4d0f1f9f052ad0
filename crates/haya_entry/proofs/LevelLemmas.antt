-- Levels from the parents on, and what is asked there.
use Rattle.std.proofs.Common.{◌≡◌, ◌≢◌, ℕ, zero, suc, ◌+◌, ◌-◌, ◌*◌, ◌<◌, ◌≤◌, Bool, true, false, List, [], ◌∷◌, ◌++◌, length, map, drop, drop-cons, Option, None, Some, refl, sym, ap, ◌∙◌, append-nil, add_assoc, zero-add, ltb, ltb-true, ltb-false, arith}
use Rattle.std.specs.Prelude.{flat_map, slice_get, sum_by}
use Rattle.std.specs.List.{range_with_len}
use Rattle.std.proofs.Math.ListN.{drop_of_length-le}
use Rattle.std.proofs.Math.Nat.{le-max_left, le-max_right, suc-mul}
use Rattle.std.proofs.lemmas.Grind.{flat_map-append}
use Rattle.std.proofs.lemmas.List.{length-append, length-map, map-append}
use Rattle.std.proofs.lemmas.List.Sums.{sum_by-cons}
use Rattle.std.proofs.lemmas.Option.{get_or_from_slice_get, slice_get_within}
use Rattle.std.specs.Borrow.{Bor}
use Rattle.std.specs.Bool.{MatchBool}
use Rattle.haya_entry.specs.Levels.{Asks, AsksAllWithin, all_asked, first_answers, rest_asked, ancestors, height, heights, level, levels_from, parent_places}
use Rattle.haya_entry.specs.declared.entry.Entry.{Entry}
use Rattle.haya_entry.specs.Tree.{Tree, Trees, node, no_trees, one_more, parents, tree_list, size, sizes, view}
use Rattle.haya_entry.specs.declared.entry.ancestors.Depth.{Depth}
use Rattle.haya_entry.specs.declared.entry.ancestors.Depth.TheOpen as open'
use Rattle.haya_entry.specs.declared.entry.ancestors.Depth.TheVariants as depth
use Rattle.haya_entry.specs.declared.entry.ancestors.Depth.TheViews.{roll-Depth}
use Rattle.haya_entry.specs.declared.entry.ancestors.Depth.TheFolds.{map-Depth, fold-roll-Depth}
use Rattle.haya_entry.specs.Walks.{AsksWithin, levels_further, levels_further_step}

-- the paths of a level that lead over parents from place i on
abbrev pub fronts : ℕ → ℕ → List Tree → List (List ℕ)
fronts d i [] = []
fronts d i (t ∷ ts) = map (λ path. i ∷ path) (level t d) ++ fronts d (suc i) ts

pub from_place : {X : Type 0} (xs : List X) (i : ℕ) (x : X) → slice_get xs i ≡ Some x → drop i xs ≡ x ∷ drop (suc i) xs
from_place xs i x e =
    drop-cons xs i x (slice_get_within xs i x e) ∙ ap (λ y. y ∷ drop (suc i) xs) (get_or_from_slice_get xs i x x e)

pub places_from : {X : Type 0} (xs : List X) (i : ℕ) (x : X) (ys : List X) → drop i xs ≡ x ∷ ys → (slice_get xs i ≡ Some x) × (drop (suc i) xs ≡ ys)
places_from [] zero x ys e = absurd (cc)
places_from [] (suc i) x ys e = absurd (cc)
places_from (y ∷ xs) zero x ys e = (cc, cc)
places_from (y ∷ xs) (suc i) x ys e = places_from xs i x ys e

first_level : (i : ℕ) (ts : List Tree) → map (λ j. j ∷ []) (range_with_len i (length ts)) ≡ fronts 0 i ts
first_level i [] = refl
first_level i (t ∷ ts) = let e : i + 1 ≡ suc i = omega arith in rw e (ap (λ ps. (i ∷ []) ∷ ps) (first_level (suc i) ts))

pub map-map : {A B C : Type 0} (f : B → C) (g : A → B) (xs : List A) → map f (map g xs) ≡ map (λ x. f (g x)) xs
map-map f g [] = refl
map-map f g (x ∷ xs) = ap (λ ys. f (g x) ∷ ys) (map-map f g xs)

-- a step further from each of these paths
abbrev step_from : Tree → List ℕ → List (List ℕ)
step_from x path = map (λ i. path ++ i ∷ []) (parent_places x path)

module _ (x t : Tree) (i : ℕ) (e : slice_get (parents x) i ≡ Some t) where
  step-under_parent : (path : List ℕ) → step_from x (i ∷ path) ≡ map (λ p. i ∷ p) (step_from t path)
  step-under_parent path = rw e (sym (map-map (λ p. i ∷ p) (λ j. path ++ j ∷ []) (parent_places t path)))

  steps-under_parent : (paths : List (List ℕ)) → flat_map (step_from x) (map (λ p. i ∷ p) paths) ≡ map (λ p. i ∷ p) (flat_map (step_from t) paths)
  steps-under_parent [] = refl
  steps-under_parent (path ∷ paths) =
      rw (step-under_parent path, steps-under_parent paths) (sym (map-append (λ p. i ∷ p) (step_from t path) (flat_map (step_from t) paths)))

next_level : (x : Tree) (d i : ℕ) (ts : List Tree) → drop i (parents x) ≡ ts → flat_map (step_from x) (fronts d i ts) ≡ fronts (suc d) i ts
next_level x d i [] e = refl
next_level x d i (t ∷ ts) e =
    let here = places_from (parents x) i t ts e in
    rw (flat_map-append (step_from x) (map (λ p. i ∷ p) (level t d)) (fronts d (suc i) ts), steps-under_parent x t i here.0 (level t d), next_level x d (suc i) ts here.1) refl

-- a level goes over the parents
pub level-first : (x : Tree) (d : ℕ) → level x (suc d) ≡ fronts d 0 (parents x)
level-first x zero = append-nil _ ∙ first_level 0 (parents x)
level-first x (suc d) = ap (flat_map (step_from x)) (level-first x d) ∙ next_level x d 0 (parents x) refl

module _ {S E T : Type 0} {value : E → Tree} {step : S → E → Option T → S → Type 0} where
  -- what is asked of a parent's ancestors is asked of its child's
  pub Asks-under_parent : (x t : Tree) (i : ℕ) → slice_get (parents x) i ≡ Some t → {s u : S} {paths : List (List ℕ)} {n : ℕ} {answer : Option T}
      → Asks value step t s paths n answer u → Asks value step x s (map (λ p. i ∷ p) paths) n answer u
  Asks-under_parent x t i e all_asked = all_asked
  Asks-under_parent x t i e (first_answers there did) = first_answers (rw e there) did
  Asks-under_parent x t i e (rest_asked there did rest) = rest_asked (rw e there) did (Asks-under_parent x t i e rest)

  -- where none answers, the next are asked
  pub Asks-then : (x : Tree) {s u v : S} {ps qs : List (List ℕ)} {m n : ℕ} {answer : Option T}
      → Asks value step x s ps m None u → Asks value step x u qs n answer v → Asks value step x s (ps ++ qs) (m + n) answer v
  Asks-then x {n = n} all_asked next = rw (zero-add n) next
  Asks-then x (rest_asked {n = m} there did rest) next = rw (add_assoc 1 m _) (rest_asked there did (Asks-then x rest next))

  -- after an answer nobody is asked
  pub Asks-answered : (x : Tree) {s u : S} {ps : List (List ℕ)} (qs : List (List ℕ)) {n : ℕ} {y : T}
      → Asks value step x s ps n (Some y) u → Asks value step x s (ps ++ qs) n (Some y) u
  Asks-answered x qs (first_answers there did) = first_answers there did
  Asks-answered x qs (rest_asked there did rest) = rest_asked there did (Asks-answered x qs rest)

sizes-tree_list : (ts : Trees) → sizes ts ≡ sum_by size (tree_list ts)
sizes-tree_list no_trees = refl
sizes-tree_list (one_more t ts) = ap (λ n. size t + n) (sizes-tree_list ts) ∙ sym (sum_by-cons size t (tree_list ts))

pub size-parents : (x : Tree) → size x ≡ 1 + sum_by size (parents x)
size-parents (node f ts) = ap (λ n. 1 + n) (sizes-tree_list ts)

some-under_parent : (i : ℕ) (ps qs : List (List ℕ)) → ps ≢ [] → map (λ path. i ∷ path) ps ++ qs ≢ []
some-under_parent i [] qs some = λ _. some refl
some-under_parent i (p ∷ ps) qs some = λ e. absurd (cc)

-- who answers was asked
pub Asks-some : {S E T : Type 0} {value : E → Tree} {step : S → E → Option T → S → Type 0} (x : Tree) {s u : S} {ps : List (List ℕ)} {n : ℕ} {y : T}
    → Asks value step x s ps n (Some y) u → ps ≢ []
Asks-some x (first_answers there did) = λ e. absurd (cc)
Asks-some x (rest_asked there did rest) = λ e. absurd (cc)

-- nobody but the entry itself
pub Asks-itself : {S E T : Type 0} (value : E → Tree) (step : S → E → Option T → S → Type 0) (s u : S) (e : E) (r : Option T)
    → step s e r u → Asks value step (value e) s ([] ∷ []) 1 r u
Asks-itself value step s u e (Some y) did = first_answers refl did
Asks-itself value step s u e None did = rest_asked refl did all_asked

-- where a walk over the parents stands: what asking the rest comes to for all, how often it has
-- ticked at most, and whether somebody was reached
pub record IsUnderWay {S E T : Type 0} (value : E → Tree) (step : S → E → Option T → S → Type 0) (x : Tree) (d : ℕ) (first now : S) (place from seen : ℕ) (is_reached : Bool) : Type 0 where
  pub count : ℕ
  pub ticked : from + count ≤ seen
  pub joins : (n : ℕ) (a : Option T) (u : S) → Asks value step x now (fronts d place (drop place (parents x))) n a u
      → Asks value step x first (fronts d 0 (parents x)) (count + n) a u
  pub most : seen + sum_by size (drop place (parents x)) ≤ from + sum_by size (parents x)
  pub reached : MatchBool is_reached (fronts d 0 (parents x) ≢ []) (fronts d 0 (parents x) ≡ fronts d place (drop place (parents x)))

module _ {S E T : Type 0} {value : E → Tree} {step : S → E → Option T → S → Type 0} (x : Tree) (d : ℕ) where
  pub under_way_first : (s : S) (from : ℕ) → IsUnderWay value step x d s s 0 from from false
  under_way_first s from = record {
    count = 0;
    ticked = omega arith;
    joins = λ n a u asks. rw (zero-add n) asks;
    most = omega arith;
    reached = refl;
  }

  module _ {first now : S} {place from seen : ℕ} {is_reached : Bool} (w : IsUnderWay value step x d first now place from seen is_reached)
      (p : Tree) (e : slice_get (parents x) place ≡ Some p) where
    here : fronts d place (drop place (parents x)) ≡ map (λ path. place ∷ path) (level p d) ++ fronts d (suc place) (drop (suc place) (parents x))
    here = ap (fronts d place) (from_place (parents x) place p e)

    sizes_here : sum_by size (drop place (parents x)) ≡ size p + sum_by size (drop (suc place) (parents x))
    sizes_here = ap (sum_by size) (from_place (parents x) place p e) ∙ sum_by-cons size p (drop (suc place) (parents x))

    pub under_way_answered : {y : T} {later : S} {then : ℕ} → (asks : AsksWithin value step p now (level p d) (Some y) later seen then)
        → AsksWithin value step x first (fronts d 0 (parents x)) (Some y) later from then
    under_way_answered {y} {later} asks = (
      w.count + asks.0,
      w.joins asks.0 (Some y) later (rw here (Asks-answered x (fronts d (suc place) (drop (suc place) (parents x))) (Asks-under_parent x p place e asks.1))),
      omega (arith, w.ticked, asks.2),
    )

    pub under_way_most : (then : ℕ) → then ≤ seen + size p → then + 1 ≤ from + size x
    under_way_most then h = omega (arith, w.most, sizes_here, size-parents x)

    module _ {later : S} {then : ℕ} (asks : AsksWithin value step p now (level p d) None later seen then) (h : then ≤ seen + size p) where
      next : (reached : Bool) → MatchBool reached (fronts d 0 (parents x) ≢ []) (fronts d 0 (parents x) ≡ fronts d (suc place) (drop (suc place) (parents x)))
          → IsUnderWay value step x d first later (place + 1) from then reached
      next reached r =
          let one : place + 1 ≡ suc place = omega arith in
          rw one (record {
            count = w.count + asks.0;
            ticked = omega (arith, w.ticked, asks.2);
            joins = λ n a u rest. rw (add_assoc w.count asks.0 n) (w.joins (asks.0 + n) a u (rw here (Asks-then x (Asks-under_parent x p place e asks.1) rest)));
            most = omega (arith, w.most, sizes_here, h);
            reached = r;
          })

      pub under_way_nobody : level p d ≡ [] → IsUnderWay value step x d first later (place + 1) from then is_reached
      under_way_nobody none =
          let same = here ∙ ap (λ ps. map (λ path. place ∷ path) ps ++ fronts d (suc place) (drop (suc place) (parents x))) none in
          next is_reached ((elim is_reached as (λ b. MatchBool b (fronts d 0 (parents x) ≢ []) (fronts d 0 (parents x) ≡ fronts d place (drop place (parents x)))
          → MatchBool b (fronts d 0 (parents x) ≢ []) (fronts d 0 (parents x) ≡ fronts d (suc place) (drop (suc place) (parents x)))) [
            | true ↦ λ r. r
            | false ↦ λ r. r ∙ same
          ]) w.reached)

      pub under_way_asked : level p d ≢ [] → IsUnderWay value step x d first later (place + 1) from then true
      under_way_asked some = next true ((elim is_reached as (λ b. MatchBool b (fronts d 0 (parents x) ≢ []) (fronts d 0 (parents x) ≡ fronts d place (drop place (parents x))) → fronts d 0 (parents x) ≢ []) [
        | true ↦ λ r. r
        | false ↦ λ r none. some-under_parent place (level p d) (fronts d (suc place) (drop (suc place) (parents x))) some (sym (r ∙ here) ∙ none)
      ]) w.reached)

  -- after the last parent
  module _ {first now : S} {place from seen : ℕ} {is_reached : Bool} (w : IsUnderWay value step x d first now place from seen is_reached) (h : length (parents x) ≤ place) where
    none_left : drop place (parents x) ≡ []
    none_left = drop_of_length-le (parents x) h

    pub under_way_asks : AsksWithin value step x first (fronts d 0 (parents x)) None now from seen
    under_way_asks =
        let rest = w.joins 0 None now (rw (ap (fronts d place) none_left) all_asked) in
        (w.count + 0, rest, omega (arith, w.ticked))

    pub under_way_reached : MatchBool is_reached (fronts d 0 (parents x) ≢ []) (fronts d 0 (parents x) ≡ [])
    under_way_reached = (elim is_reached as (λ b. MatchBool b (fronts d 0 (parents x) ≢ []) (fronts d 0 (parents x) ≡ fronts d place (drop place (parents x))) → MatchBool b (fronts d 0 (parents x) ≢ []) (fronts d 0 (parents x) ≡ [])) [
      | true ↦ λ r. r
      | false ↦ λ r. r ∙ ap (fronts d place) none_left
    ]) w.reached

    pub under_way_end : seen + 1 ≤ from + size x
    under_way_end = omega (arith, w.most, size-parents x, ap (sum_by size) none_left)

levels_further_rolled : (x : open'.Depth-F Depth) → levels_further (roll-Depth x) ≡ levels_further_step (map-Depth Depth ℕ levels_further x)
levels_further_rolled = fold-roll-Depth ℕ levels_further_step

pub levels_further-one : levels_further depth.One ≡ 0
levels_further-one = ap levels_further (sym depth.rolls-One) ∙ levels_further_rolled open'.One

pub levels_further-next : (d : Bor Depth) → levels_further (depth.Next d) ≡ suc (levels_further d.now)
levels_further-next d = ap levels_further (sym (depth.rolls-Next d)) ∙ levels_further_rolled (open'.Next d)

-- no entry stands above the height
mutual
  level_above : (x : Tree) (d : ℕ) → height x < d → level x d ≡ []
  level_above x zero h = absurd (omega arith)
  level_above (node f ts) (suc d) h = level-first (node f ts) d ∙ fronts_above ts d 0 h

  fronts_above : (ts : Trees) (d i : ℕ) → heights ts < suc d → fronts d i (tree_list ts) ≡ []
  fronts_above no_trees d i h = refl
  fronts_above (one_more t ts) d i h =
      let low : height t < d = omega (arith, le-max_left (1 + height t) (heights ts)) in
      let rest : heights ts < suc d = omega (arith, le-max_right (1 + height t) (heights ts)) in
      rw (level_above t d low, fronts_above ts d (suc i) rest) refl

pub reached_within : (x : Tree) (d : ℕ) → level x d ≢ [] → d ≤ height x
reached_within x d some =
    (elim (ltb (height x) d) as (λ b. ltb (height x) d ≡ b → d ≤ height x) [
      | true ↦ λ e. absurd (some (level_above x d (ltb-true (height x) d e)))
      | false ↦ λ e. ltb-false (height x) d e
    ]) refl

some-over_parents : (ps qs : List (List ℕ)) → qs ≢ [] → ps ++ qs ≢ []
some-over_parents [] qs some = some
some-over_parents (p ∷ ps) qs some = λ e. absurd (cc)

-- and some entry stands at each level below
mutual
  pub level_below : (x : Tree) (d : ℕ) → d ≤ height x → level x d ≢ []
  level_below x zero h = λ e. absurd (cc)
  level_below (node f ts) (suc d) h = λ e. fronts_below ts d 0 h (sym (level-first (node f ts) d) ∙ e)

  fronts_below : (ts : Trees) (d i : ℕ) → suc d ≤ heights ts → fronts d i (tree_list ts) ≢ []
  fronts_below no_trees d i h = absurd (omega arith)
  fronts_below (one_more t ts) d i h =
      elim (ltb (height t) d) as (λ b. ltb (height t) d ≡ b → fronts d i (tree_list (one_more t ts)) ≢ []) [
        | true ↦ λ e.
            let low = ltb-true (height t) d e in
            let rest : suc d ≤ heights ts = omega arith in
            some-over_parents (map (λ path. i ∷ path) (level t d)) (fronts d (suc i) (tree_list ts)) (fronts_below ts d (suc i) rest)
        | false ↦ λ e. some-under_parent i (level t d) (fronts d (suc i) (tree_list ts)) (level_below t d (ltb-false (height t) d e))
      ] refl

levels_empty : (x : Tree) (n d : ℕ) → level x d ≡ [] → flat_map (level x) (range_with_len d n) ≡ []
levels_empty x zero d none = refl
levels_empty x (suc n) d none = let next : level x (d + 1) ≡ [] = let e : d + 1 ≡ suc d = omega arith in rw (e, none) refl in rw (none, levels_empty x n (d + 1) next) refl

pub levels_from-nobody : (x : Tree) (d : ℕ) → level x d ≡ [] → levels_from x d ≡ level x d
levels_from-nobody x d none = levels_empty x (height x + 1 - d) d none ∙ sym none

pub levels_from-some : (x : Tree) (d : ℕ) → d ≤ height x → levels_from x d ≡ level x d ++ levels_from x (suc d)
levels_from-some x d h =
    let e : height x + 1 - d ≡ suc (height x + 1 - suc d) = omega arith in
    let next : d + 1 ≡ suc d = omega arith in
    rw (e, next) refl

-- how many entries stand on n levels from d on
abbrev count_on : Tree → ℕ → ℕ → ℕ
count_on x d n = length (flat_map (level x) (range_with_len d n))

count_on-suc : (x : Tree) (d n : ℕ) → count_on x d (suc n) ≡ length (level x d) + count_on x (suc d) n
count_on-suc x d n = let e : d + 1 ≡ suc d = omega arith in rw e (length-append (level x d) (flat_map (level x) (range_with_len (suc d) n)))

length-fronts : (d i : ℕ) (ts : List Tree) → length (fronts d i ts) ≡ sum_by (λ t. length (level t d)) ts
length-fronts d i [] = refl
length-fronts d i (t ∷ ts) =
    length-append (map (λ path. i ∷ path) (level t d)) (fronts d (suc i) ts)
    ∙ rw (length-map (level t d) (λ path. i ∷ path), length-fronts d (suc i) ts) (sym (sum_by-cons (λ t. length (level t d)) t ts))

sum_by-plus : {X : Type 0} (f g : X → ℕ) (xs : List X) → sum_by f xs + sum_by g xs ≡ sum_by (λ x. f x + g x) xs
sum_by-plus f g [] = refl
sum_by-plus f g (x ∷ xs) = rw (sum_by-cons f x xs, sum_by-cons g x xs, sum_by-cons (λ x. f x + g x) x xs) (omega (arith, sum_by-plus f g xs))

sum_by-same : {X : Type 0} (f g : X → ℕ) (xs : List X) → ((x : X) → f x ≡ g x) → sum_by f xs ≡ sum_by g xs
sum_by-same f g [] same = refl
sum_by-same f g (x ∷ xs) same = rw (sum_by-cons f x xs, sum_by-cons g x xs, same x, sum_by-same f g xs same) refl

-- the levels from the next on are those of the parents
count_on-parents : (x : Tree) (n d : ℕ) → count_on x (suc d) n ≡ sum_by (λ t. count_on t d n) (parents x)
count_on-parents x zero d = sym (sum_by-zero (parents x))
  where
    sum_by-zero : (ts : List Tree) → sum_by (λ t. 0) ts ≡ 0
    sum_by-zero [] = refl
    sum_by-zero (t ∷ ts) = sum_by-cons (λ t. 0) t ts ∙ zero-add _ ∙ sum_by-zero ts
count_on-parents x (suc n) d =
    count_on-suc x (suc d) n
    ∙ rw (level-first x d, length-fronts d 0 (parents x), count_on-parents x n (suc d), sum_by-plus (λ t. length (level t d)) (λ t. count_on t (suc d) n) (parents x))
    (sum_by-same _ _ (parents x) (λ t. sym (count_on-suc t d n)))

mutual
  all_counted : (x : Tree) (n : ℕ) → height x < n → count_on x 0 n ≡ size x
  all_counted x zero h = absurd (omega arith)
  all_counted (node f ts) (suc n) h =
      count_on-suc (node f ts) 0 n ∙ rw (count_on-parents (node f ts) n 0) (ap (λ m. 1 + m) (each_counted ts n h))

  each_counted : (ts : Trees) (n : ℕ) → heights ts < suc n → sum_by (λ t. count_on t 0 n) (tree_list ts) ≡ sizes ts
  each_counted no_trees n h = refl
  each_counted (one_more t ts) n h =
      let low : height t < n = omega (arith, le-max_left (1 + height t) (heights ts)) in
      let rest : heights ts < suc n = omega (arith, le-max_right (1 + height t) (heights ts)) in
      rw (sum_by-cons (λ t. count_on t 0 n) t (tree_list ts), all_counted t n low, each_counted ts n rest) refl

pub size-ancestors : (x : Tree) → size x ≡ 1 + length (ancestors x)
size-ancestors x =
    let n : height x + 1 - 1 ≡ height x = omega arith in
    let e : height x + 1 ≡ suc (height x) = omega arith in
    rw n (sym (all_counted x (suc (height x)) (omega arith)) ∙ count_on-suc x 0 (height x))

-- what one walk and those after it take
pub walks-more : (h k n : ℕ) → k ≤ h → (h + 1 - k) * n ≡ (h + 1 - suc k) * n + n
walks-more h k n below = let e : h + 1 - k ≡ suc (h + 1 - suc k) = omega arith in rw e (suc-mul (h + 1 - suc k) n)

-- a search from the parents on is one over all ancestors
pub asks_ancestors : {S T : Type 0} (step : S → Bor Entry → Option T → S → Type 0) (x : Tree) (k : ℕ) → k ≡ 0 → (s u : S) (answer : Option T) (from to : ℕ)
    → AsksWithin (λ e. view e.now) step x s (levels_from x (suc k)) answer u from to → AsksAllWithin step x s (ancestors x) answer from to
asks_ancestors step x k e s u answer from to asks = let first = rw e at asks in (first.0, u, first.1, first.2)
