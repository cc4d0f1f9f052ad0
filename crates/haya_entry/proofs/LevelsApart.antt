-- No path is among the ancestors twice.
use Rattle.std.proofs.Common.{◌≡◌, ◌≢◌, ℕ, zero, suc, ◌+◌, ◌-◌, ◌≤◌, List, [], ◌∷◌, ◌++◌, length, map, refl, ap, arith}
use Rattle.std.specs.Prelude.{AllPairs, flat_map}
use Rattle.std.specs.List.{AllByRecursion, range_with_len}
use Rattle.std.proofs.lemmas.List.Elements.{All-from_recursion}
use Rattle.std.proofs.lemmas.List.Kept.{AllPairs-cons}
use Rattle.haya_entry.specs.Levels.{AncestorsOnce, ancestors, height, level}
use Rattle.haya_entry.specs.Tree.{Tree, parents}
use Rattle.haya_entry.proofs.LevelLemmas.{fronts, level-first, size-ancestors}

abbrev Path : Type 0
Path = List ℕ

every-map : {A B : Type 0} (P : A → Type 0) (Q : B → Type 0) (f : A → B) → ((a : A) → P a → Q (f a)) → (xs : List A) → AllByRecursion P xs → AllByRecursion Q (map f xs)
every-map P Q f h [] all = tt
every-map P Q f h (x ∷ xs) all = (h x all.0, every-map P Q f h xs all.1)

every-more : {A : Type 0} (P Q : A → Type 0) → ((a : A) → P a → Q a) → (xs : List A) → AllByRecursion P xs → AllByRecursion Q xs
every-more P Q h [] all = tt
every-more P Q h (x ∷ xs) all = (h x all.0, every-more P Q h xs all.1)

every-append : {A : Type 0} (P : A → Type 0) (xs ys : List A) → AllByRecursion P xs → AllByRecursion P ys → AllByRecursion P (xs ++ ys)
every-append P [] ys all more = more
every-append P (x ∷ xs) ys all more = (all.0, every-append P xs ys all.1 more)

-- no two of these are equal
abbrev AreApart : List Path → Type 0
AreApart [] = Unit {0}
AreApart (p ∷ ps) = AllByRecursion (λ q. p ≢ q) ps × AreApart ps

apart-append : (ps qs : List Path) → AreApart ps → AreApart qs → AllByRecursion (λ p. AllByRecursion (λ q. p ≢ q) qs) ps → AreApart (ps ++ qs)
apart-append [] qs these those between = those
apart-append (p ∷ ps) qs these those between = (every-append (λ q. p ≢ q) ps qs these.0 between.0, apart-append ps qs these.1 those between.1)

tail_of : Path → Path
tail_of [] = []
tail_of (i ∷ p) = p

apart-under_parent : (i : ℕ) (ps : List Path) → AreApart ps → AreApart (map (λ p. i ∷ p) ps)
unfolding tail_of
apart-under_parent i [] h = tt
apart-under_parent i (p ∷ ps) h = (every-map (λ q. p ≢ q) (λ q. (i ∷ p) ≢ q) (λ q. i ∷ q) (λ q other same. other (ap tail_of same)) ps h.0, apart-under_parent i ps h.1)

-- the path begins with a place from i on
abbrev BeginsFrom : ℕ → Path → Type 0
BeginsFrom i p = (j : ℕ) × (q : Path) × (p ≡ j ∷ q) × (i ≤ j)

led_begin : (i : ℕ) (ps : List Path) → AllByRecursion (BeginsFrom i) (map (λ p. i ∷ p) ps)
led_begin i [] = tt
led_begin i (p ∷ ps) = ((i, p, refl, omega arith), led_begin i ps)

fronts_begin : (d i : ℕ) (ts : List Tree) → AllByRecursion (BeginsFrom i) (fronts d i ts)
fronts_begin d i [] = tt
fronts_begin d i (t ∷ ts) =
    every-append (BeginsFrom i) (map (λ p. i ∷ p) (level t d)) (fronts d (suc i) ts) (led_begin i (level t d))
    (every-more (BeginsFrom (suc i)) (BeginsFrom i) (λ p b. (b.0, b.1, b.2, omega (arith, b.3))) (fronts d (suc i) ts) (fronts_begin d (suc i) ts))

later_apart : (i : ℕ) (p : Path) (qs : List Path) → AllByRecursion (BeginsFrom (suc i)) qs → AllByRecursion (λ q. (i ∷ p) ≢ q) qs
later_apart i p qs h = every-more (BeginsFrom (suc i)) (λ q. (i ∷ p) ≢ q) (λ q b same. let e : i ∷ p ≡ b.0 ∷ b.1 = rw same b.2 in let k : i ≡ b.0 = cc in absurd (omega (arith, b.3, k))) qs h

each_apart : (i : ℕ) (ps qs : List Path) → AllByRecursion (BeginsFrom (suc i)) qs → AllByRecursion (λ p. AllByRecursion (λ q. p ≢ q) qs) (map (λ p. i ∷ p) ps)
each_apart i [] qs h = tt
each_apart i (p ∷ ps) qs h = (later_apart i p qs h, each_apart i ps qs h)

fronts_apart : (d i : ℕ) (ts : List Tree) → ((t : Tree) → AreApart (level t d)) → AreApart (fronts d i ts)
fronts_apart d i [] h = tt
fronts_apart d i (t ∷ ts) h =
    apart-append (map (λ p. i ∷ p) (level t d)) (fronts d (suc i) ts) (apart-under_parent i (level t d) (h t)) (fronts_apart d (suc i) ts h)
    (each_apart i (level t d) (fronts d (suc i) ts) (fronts_begin d (suc i) ts))

level_apart : (x : Tree) (d : ℕ) → AreApart (level x d)
level_apart x zero = (tt, tt)
level_apart x (suc d) = rw (level-first x d) (fronts_apart d 0 (parents x) (λ t. level_apart t d))

abbrev IsLong : ℕ → Path → Type 0
IsLong n p = length p ≡ n

fronts_long : (d i : ℕ) (ts : List Tree) → ((t : Tree) → AllByRecursion (IsLong d) (level t d)) → AllByRecursion (IsLong (suc d)) (fronts d i ts)
fronts_long d i [] h = tt
fronts_long d i (t ∷ ts) h =
    every-append (IsLong (suc d)) (map (λ p. i ∷ p) (level t d)) (fronts d (suc i) ts)
    (every-map (IsLong d) (IsLong (suc d)) (λ p. i ∷ p) (λ p e. ap (λ n. suc n) e) (level t d) (h t)) (fronts_long d (suc i) ts h)

level_long : (x : Tree) (d : ℕ) → AllByRecursion (IsLong d) (level x d)
level_long x zero = (refl, tt)
level_long x (suc d) = rw (level-first x d) (fronts_long d 0 (parents x) (λ t. level_long t d))

abbrev IsLonger : ℕ → Path → Type 0
IsLonger n p = n ≤ length p

levels_long : (x : Tree) (n d : ℕ) → AllByRecursion (IsLonger d) (flat_map (level x) (range_with_len d n))
levels_long x zero d = tt
levels_long x (suc n) d =
    every-append (IsLonger d) (level x d) (flat_map (level x) (range_with_len (d + 1) n)) (every-more (IsLong d) (IsLonger d) (λ p e. omega (arith, e)) (level x d) (level_long x d))
    (every-more (IsLonger (d + 1)) (IsLonger d) (λ p h. omega (arith, h)) (flat_map (level x) (range_with_len (d + 1) n)) (levels_long x n (d + 1)))

longer_apart : (d : ℕ) (ps qs : List Path) → AllByRecursion (IsLong d) ps → AllByRecursion (IsLonger (d + 1)) qs → AllByRecursion (λ p. AllByRecursion (λ q. p ≢ q) qs) ps
longer_apart d ps qs short long =
    every-more (IsLong d) (λ p. AllByRecursion (λ q. p ≢ q) qs) (λ p e. every-more (IsLonger (d + 1)) (λ q. p ≢ q) (λ q h same. let k : length p ≡ length q = ap length same in absurd (omega (arith, e, h, k))) qs long) ps short

levels_apart : (x : Tree) (n d : ℕ) → AreApart (flat_map (level x) (range_with_len d n))
levels_apart x zero d = tt
levels_apart x (suc n) d =
    apart-append (level x d) (flat_map (level x) (range_with_len (d + 1) n)) (level_apart x d) (levels_apart x n (d + 1))
    (longer_apart d (level x d) (flat_map (level x) (range_with_len (d + 1) n)) (level_long x d) (levels_long x n (d + 1)))

all_pairs : (ps : List Path) → AreApart ps → AllPairs (λ p q. p ≢ q) ps
all_pairs [] h = λ i j d below within. absurd (omega arith)
all_pairs (p ∷ ps) h = AllPairs-cons (λ p q. p ≢ q) p ps (All-from_recursion (λ q. p ≢ q) ps h.0) (all_pairs ps h.1)

pub ancestors_once : AncestorsOnce
ancestors_once x = (size-ancestors x, all_pairs (ancestors x) (levels_apart x (height x + 1 - 1) 1))
