-- The last element of a key, and libraries in which no key comes again.
use Rattle.std.proofs.Common.{◌≡◌, ◌≢◌, ℕ, zero, suc, ◌+◌, ◌<◌, ◌≤◌, Bool, Bor, true, false, cond, List, [], ◌∷◌, ◌++◌, length, map, reverse, get_or, take, Option, None, Some, option_map, refl, sym, ap, ◌∙◌, append_assoc, append-nil, length-append, arith}
use Rattle.std.specs.Prelude.{find, fold, slice_get, if◌then◌else◌}
use Rattle.std.specs.Bool.{Decides}
use Rattle.std.specs.List.{AllByRecursion, list_any}
use Rattle.std.specs.Option.{option_or}
use Rattle.std.specs.Str.{bytes_eq}
use Rattle.std.proofs.lemmas.Bool.{false_from_ne_true}
use Rattle.std.proofs.lemmas.List.{length-map, reverse-append}
use Rattle.std.proofs.lemmas.List.Folds.{find-append}
use Rattle.std.proofs.lemmas.Slice.Eq.{bytes_eq-Decides}
use Rattle.haya_entry.specs.Tree.{Tree}
use Rattle.hayagriva.specs.Library.{AreDistinct, from_entries, has_key, key_of, push, with_replacement}
use Rattle.haya_source.specs.Elements.{Element, entries_of}
use Rattle.haya_source.specs.Places.{part_for}

-- ---- a library of as many entries as elements

-- the entries that are pushed in turn
pushed : List Tree → List Tree → List Tree
pushed library ts = fold (λ done t. push t done) library ts

-- what a push leaves
push-cases : (t : Tree) (library : List Tree) (P : List Tree → Type 0)
    → (length (with_replacement t library) ≡ length library → P (with_replacement t library))
    → P (library ++ t ∷ []) → P (push t library)
push-cases t library P same more =
    by (list_any (has_key (key_of t)) library)
  where
    by : (b : Bool)
        → P (if b then with_replacement t library else library ++ t ∷ [])
    by true = same (length-map library (λ u. if has_key (key_of t) u then t else u))
    by false = more

length-push : (t : Tree) (library : List Tree) → length (push t library) ≤ length library + 1
length-push t library =
    push-cases t library (λ l. length l ≤ length library + 1) (λ e. omega arith)
    (omega (arith, length-append library (t ∷ [])))

-- a push that adds an entry adds it last
push-longer : (t : Tree) (library : List Tree) → length (push t library) ≡ length library + 1
    → push t library ≡ library ++ t ∷ []
push-longer t library =
    push-cases t library (λ l. length l ≡ length library + 1 → l ≡ library ++ t ∷ [])
    (λ same e. absurd (omega arith)) (λ e. refl)

length-pushed : (library ts : List Tree) → length (pushed library ts) ≤ length library + length ts
unfolding pushed
length-pushed library [] = omega arith
length-pushed library (t ∷ ts) =
    omega (arith, length-pushed (push t library) ts, length-push t library)

pushed-longest : (library ts : List Tree) → length (pushed library ts) ≡ length library + length ts
    → pushed library ts ≡ library ++ ts
unfolding pushed
pushed-longest library [] e = sym (append-nil library)
pushed-longest library (t ∷ ts) e =
    let most = length-pushed (push t library) ts in
    let step = length-push t library in
    let one : length (push t library) ≡ length library + 1 = omega (arith, most, step, e) in
    let last = push-longer t library one in
    let rest : length (pushed (push t library) ts) ≡ length (push t library) + length ts =
    omega (arith, e, one) in
    pushed-longest (push t library) ts rest ∙ ap (λ l. l ++ ts) last
    ∙ append_assoc library (t ∷ []) ts

-- A library that has as many entries as it was made of has these.
pub from_entries-whole : (ts : List Tree) → length (from_entries ts) ≡ length ts
    → from_entries ts ≡ ts
unfolding pushed
from_entries-whole ts e =
    let none : length (from_entries ts) ≡ 0 + length ts = omega arith in
    pushed-longest [] ts none

-- ---- the last element of a key

pub part_for-more : (key : List ℕ) (es : List Element) (e : Element)
    → part_for key (es ++ e ∷ [])
    ≡ (if has_key key e.1 then Some e.0 else part_for key es)
part_for-more key es e =
    ap (λ l. option_map (λ x. x.0) (find (λ x. has_key key x.1) l)) (reverse-append es (e ∷ []))
    ∙ by (has_key key e.1)
  where
    by : (b : Bool)
        → option_map (λ x. x.0) (cond b (Some e) (find (λ x. has_key key x.1) (reverse es)))
        ≡ (if b then Some e.0 else part_for key es)
    by true = refl
    by false = refl

part_for-first : (key : List ℕ) (es : List Element) (e : Element)
    → part_for key (e ∷ es)
    ≡ option_or (part_for key es) (if has_key key e.1 then Some e.0 else None)
part_for-first key es e =
    ap (λ l. option_map (λ x. x.0) (find (λ x. has_key key x.1) l)) (reverse-append (e ∷ []) es)
    ∙ ap (option_map (λ x. x.0)) (find-append (λ x. has_key key x.1) (reverse es) (e ∷ []))
    ∙ by (find (λ x. has_key key x.1) (reverse es)) (has_key key e.1)
  where
    by : (o : Option Element) (b : Bool)
        → option_map (λ x. x.0) (option_or o (cond b (Some e) None))
        ≡ option_or (option_map (λ x. x.0) o) (if b then Some e.0 else None)
    by None true = refl
    by None false = refl
    by (Some x) b = refl

part_for-none : (key : List ℕ) (es : List Element)
    → AllByRecursion (λ e. key ≢ key_of e.1) es → part_for key es ≡ None
part_for-none key [] h = refl
part_for-none key (e ∷ es) h =
    part_for-first key es e
    ∙ (λ i. option_or (part_for-none key es h.1 i) (if other i then Some e.0 else None))
  where
    other : has_key key e.1 ≡ false
    other =
        false_from_ne_true (has_key key e.1)
        (λ same. h.0 ((bytes_eq-Decides key (key_of e.1)).0 same))

own_key : (t : Tree) → has_key (key_of t) t ≡ true
own_key t = (bytes_eq-Decides (key_of t) (key_of t)).1 refl

-- the keys of the entries behind the first differ from its key
each_differs : (key : List ℕ) (es : List Element)
    → ((i : ℕ) → i < length (map key_of (entries_of es))
    → key ≢ get_or (map key_of (entries_of es)) i [])
    → AllByRecursion (λ x. key ≢ key_of x.1) es
each_differs key [] h = tt
each_differs key (x ∷ es) h =
    (h 0 (omega arith), each_differs key es (λ i l. h (suc i) (omega arith)))

others_differ : (e : Element) (es : List Element) → AreDistinct (entries_of (e ∷ es))
    → AllByRecursion (λ x. key_of e.1 ≢ key_of x.1) es
others_differ e es d =
    each_differs (key_of e.1) es (λ i l. d 0 (suc i) [] (omega arith) (omega arith))

rest_distinct : (e : Element) (es : List Element) → AreDistinct (entries_of (e ∷ es))
    → AreDistinct (entries_of es)
rest_distinct e es d = λ i j k below within. d (suc i) (suc j) k (omega arith) (omega arith)

-- each element is that of its key, where no key comes twice
pub each_found : (es : List Element) → AreDistinct (entries_of es)
    → AllByRecursion (λ x. part_for (key_of x.1) es ≡ Some x.0) es
each_found [] d = tt
each_found (e ∷ es) d =
    let none = part_for-none (key_of e.1) es (others_differ e es d) in
    let first : part_for (key_of e.1) (e ∷ es) ≡ Some e.0 =
    part_for-first (key_of e.1) es e
    ∙ (λ i. option_or (none i) (if own_key e.1 i then Some e.0 else None)) in
    (first, later es (each_found es (rest_distinct e es d)))
  where
    later : (xs : List Element) → AllByRecursion (λ x. part_for (key_of x.1) es ≡ Some x.0) xs
        → AllByRecursion (λ x. part_for (key_of x.1) (e ∷ es) ≡ Some x.0) xs
    later [] h = tt
    later (x ∷ xs) h = (
      part_for-first (key_of x.1) es e
          ∙ ap (λ o. option_or o (if has_key (key_of x.1) e.1 then Some e.0 else None)) h.0,
      later xs h.1,
    )

pub all_found : (es : List Element) → AreDistinct (entries_of es)
    → map (λ e. part_for (key_of e.1) es) es ≡ map (λ e. Some e.0) es
all_found es d = by es (each_found es d)
  where
    by : (xs : List Element) → AllByRecursion (λ x. part_for (key_of x.1) es ≡ Some x.0) xs
        → map (λ e. part_for (key_of e.1) es) xs ≡ map (λ e. Some e.0) xs
    by [] h = refl
    by (x ∷ xs) h = (λ i. h.0 i ∷ by xs h.1 i)

-- ---- places

bytes_eq-flip : (a b : List ℕ) → bytes_eq a b ≡ bytes_eq b a
bytes_eq-flip a b = by (bytes_eq a b) (bytes_eq b a) (bytes_eq-Decides a b) (bytes_eq-Decides b a)
  where
    by : (x y : Bool) → Decides x (a ≡ b) → Decides y (b ≡ a) → x ≡ y
    by true true h k = refl
    by true false h k = sym (k.1 (sym (h.0 refl)))
    by false true h k = h.1 (sym (k.0 refl))
    by false false h k = refl

-- what is kept under each key, behind one element more
pub one_more : (kept next : List ℕ → Option (List ℕ)) (before : List Element) (e : Element)
    → ((k : List ℕ) → kept k ≡ part_for k before)
    → ((k : List ℕ) → next k ≡ (if bytes_eq (key_of e.1) k then Some e.0 else kept k))
    → (k : List ℕ) → next k ≡ part_for k (before ++ e ∷ [])
one_more kept next before e h g k =
    g k
    ∙ (λ i. if bytes_eq-flip (key_of e.1) k i then Some e.0 else h k i)
    ∙ sym (part_for-more k before e)

-- the element at a place
pub record At (es : List Element) (i : ℕ) : Type 0 where
  pub element : Element
  pub more : take (i + 1) es ≡ take i es ++ element ∷ []
  pub part : get_or (map (λ e. e.0) es) i [] ≡ element.0
  pub entry : slice_get (map (λ e. e.1) es) i ≡ Some element.1

pub at : (es : List Element) (i : ℕ) → i < length es → At es i
at [] i l = absurd (omega arith)
at (e ∷ es) zero l = record { element = e; more = refl; part = refl; entry = refl }
at (e ∷ es) (suc i) l =
    let rest = at es i (omega arith) in
    let longer : suc i + 1 ≡ suc (i + 1) = omega arith in
    record {
      element = rest.element;
      more = ap (λ n. take n (e ∷ es)) longer ∙ ap (λ t. e ∷ t) rest.more;
      part = rest.part;
      entry = rest.entry;
    }

-- a slice by value, and the bytes at its place
pub now_at : (xs : List (Bor (List ℕ))) (i : ℕ) (d : Bor (List ℕ)) → i < length xs
    → (get_or xs i d).now ≡ get_or (map (λ s. s.now) xs) i []
now_at [] i d l = absurd (omega arith)
now_at (x ∷ xs) zero d l = refl
now_at (x ∷ xs) (suc i) d l = now_at xs i d (omega arith)

-- what the element at a place says
pub says_at : (P : Element → Type 0) (es : List Element) (i : ℕ) (l : i < length es)
    → AllByRecursion P es → P (at es i l).element
unfolding at
says_at P [] i l h = absurd (omega arith)
says_at P (e ∷ es) zero l h = h.0
says_at P (e ∷ es) (suc i) l h = says_at P es i (omega arith) h.1

-- as many elements as slices
pub same_length : (xs : List (Bor (List ℕ))) (es : List Element)
    → map (λ s. s.now) xs ≡ map (λ e. e.0) es → length xs ≡ length es
same_length xs es h =
    sym (length-map xs (λ s. s.now)) ∙ ap length h ∙ length-map es (λ e. e.0)

-- what is kept behind one element more, at its place
pub at_place : (kept next : List ℕ → Option (List ℕ)) (before es : List Element) (i : ℕ)
    (l : i < length es) (part key : List ℕ) → part ≡ (at es i l).element.0
    → key ≡ key_of (at es i l).element.1
    → ((k : List ℕ) → kept k ≡ part_for k (before ++ take i es))
    → ((k : List ℕ) → next k ≡ (if bytes_eq key k then Some part else kept k))
    → (k : List ℕ) → next k ≡ part_for k (before ++ take (i + 1) es)
at_place kept next before es i l part key part_is key_is h g k =
    let a = at es i l in
    one_more kept next (before ++ take i es) a.element h
    (λ q. g q ∙ (λ j. if bytes_eq (key_is j) q then Some (part_is j) else kept q)) k
    ∙ ap (part_for k)
    (append_assoc before (take i es) (a.element ∷ []) ∙ ap (λ t. before ++ t) (sym a.more))
