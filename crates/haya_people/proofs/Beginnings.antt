-- The beginnings of a text, as a search for its last blank meets them.
use Rattle.std.proofs.Common.{◌≡◌, ◌≢◌, ℕ, suc, ◌<◌, ◌≤◌, Bool, true, false, List, [], ◌∷◌, ◌++◌, length, get_or, drop, refl, ap, sym, ◌∙◌, arith, length-append, Option, None, Some}
use Rattle.std.specs.Prelude.{◌==◌, cond, map, filter, IfSome}
use Rattle.std.specs.List.{last_or, AllByRecursion}
use Rattle.std.specs.Str.{NoCharPasses, IsCharBoundary}
use Rattle.std.specs.Str.Pattern.{RFindsChar, SplitsAroundMatch}
use Rattle.std.proofs.lemmas.Str.Pattern.{NoCharPasses-char, drop_at_char}
use Rattle.std.proofs.lemmas.Str.{IsCharBoundary-before_ascii}
use Rattle.std.proofs.Math.Seq.{get_or-append_seam}
use Rattle.std.proofs.lemmas.Bool.{eqb-true}
use Rattle.std.proofs.lemmas.Bool.Decides.{nat_tests}
use Rattle.std.proofs.lemmas.List.{map-append, append-nil, take-append-drop}
use Rattle.std.proofs.lemmas.List.Elements.{filter-append}
use Rattle.haya_people.specs.Signs.{blank}
use Rattle.haya_people.specs.Particles.{is_particle, beginnings, name_particle, IsParticleOf}

beginnings-unblank : (text : List ℕ) → ((i : ℕ) → i < length text → get_or text i 0 ≢ blank) → beginnings text ≡ []
beginnings-unblank [] h = refl
beginnings-unblank (b ∷ rest) h =
    let later = beginnings-unblank rest (λ i lt. h (suc i) (omega arith)) in
    let other : b ≢ blank = h 0 (omega arith) in
    let here : (b == blank) ≡ false = grind (arith, nat_tests) in
    rw (here, later) refl

if-append : {X : Type 0} (c : Bool) (x : X) (xs ys : List X) → cond c (x ∷ (xs ++ ys)) (xs ++ ys) ≡ cond c (x ∷ xs) xs ++ ys
if-append true x xs ys = refl
if-append false x xs ys = refl

map-twice : (b : ℕ) (f : List ℕ → List ℕ) (bs : List (List ℕ)) → map (λ t. b ∷ t) (map f bs) ≡ map (λ t. b ∷ f t) bs
map-twice b f [] = refl
map-twice b f (x ∷ bs) = rw (map-twice b f bs) refl

beginnings-split : (front back : List ℕ) → beginnings (front ++ blank ∷ back) ≡ beginnings front ++ front ∷ map (λ t. front ++ blank ∷ t) (beginnings back)
beginnings-split [] back = refl
beginnings-split (b ∷ front) back =
    rw (beginnings-split front back, map-append, map-twice b (λ t. front ++ blank ∷ t) (beginnings back)) (if-append (b == blank) [] _ _)

beginnings-blank : (front back : List ℕ) → beginnings back ≡ [] → beginnings (front ++ blank ∷ back) ≡ beginnings front ++ front ∷ []
beginnings-blank front back h = beginnings-split front back ∙ rw h refl

last-push : (o : Option (List ℕ)) (xs : List (List ℕ)) (x : List ℕ) → last_or o (xs ++ x ∷ []) ≡ Some x
last-push o [] x = refl
last-push o (y ∷ ys) x = last-push (Some y) ys x

-- the last blank of a text: what stands before it is the longest beginning
record EndsBefore (text front : List ℕ) : Type 0 where
  back : List ℕ
  unblank : beginnings back ≡ []
  split : text ≡ front ++ blank ∷ back

ends-before : (text front back : List ℕ) → SplitsAroundMatch (RFindsChar blank) text front back → EndsBefore text front
ends-before text front back h = record {
  back = drop h.1 text;
  unblank = beginnings-unblank (drop h.1 text) (λ i lt. NoCharPasses-char blank (drop h.1 text) i h.2.0 (omega arith) lt);
  split = rw (h.3, ← drop_at_char blank text h.0 h.1 h.2.1 (omega arith)) (sym (take-append-drop h.0 text));
}

pub name_particle-listed : (table : List (List ℕ)) (text front back : List ℕ) → SplitsAroundMatch (RFindsChar blank) text front back → is_particle table front ≡ true → name_particle table text ≡ Some front
name_particle-listed table text front back h listed =
    let e = ends-before text front back h in
    rw (e.split, beginnings-blank front e.back e.unblank, filter-append, listed) (last-push None (filter (is_particle table) (beginnings front)) front)

pub name_particle-shorter : (table : List (List ℕ)) (text front back : List ℕ) → SplitsAroundMatch (RFindsChar blank) text front back → is_particle table front ≡ false → name_particle table text ≡ name_particle table front
name_particle-shorter table text front back h unlisted =
    let e = ends-before text front back h in
    rw (e.split, beginnings-blank front e.back e.unblank, filter-append, unlisted, append-nil) refl

pub name_particle-none : (table : List (List ℕ)) (text : List ℕ) → NoCharPasses (λ d. d == blank) text → name_particle table text ≡ None
name_particle-none table text h = ap (λ bs. last_or None (filter (is_particle table) bs)) (beginnings-unblank text (λ i lt. NoCharPasses-char blank text i h (omega arith) lt))

-- a text that begins so, before a blank
record Begins (text beginning : List ℕ) : Type 0 where
  rest : List ℕ
  split : text ≡ beginning ++ blank ∷ rest

longer-begin : (b : ℕ) (rest : List ℕ) (bs : List (List ℕ)) → AllByRecursion (Begins rest) bs → AllByRecursion (Begins (b ∷ rest)) (map (λ beginning. b ∷ beginning) bs)
longer-begin b rest [] h = tt
longer-begin b rest (x ∷ bs) h = (record { rest = h.0.rest; split = ap (λ t. b ∷ t) h.0.split }, longer-begin b rest bs h.1)

begin-if : (b : ℕ) (rest : List ℕ) (bs : List (List ℕ)) (c : Bool) → (c ≡ true → b ≡ blank) → AllByRecursion (Begins (b ∷ rest)) bs → AllByRecursion (Begins (b ∷ rest)) (cond c ([] ∷ bs) bs)
begin-if b rest bs true is h = (record { rest = rest; split = ap (λ x. x ∷ rest) (is refl) }, h)
begin-if b rest bs false is h = h

beginnings-begin : (text : List ℕ) → AllByRecursion (Begins text) (beginnings text)
beginnings-begin [] = tt
beginnings-begin (b ∷ rest) = begin-if b rest _ (b == blank) (eqb-true b blank) (longer-begin b rest (beginnings rest) (beginnings-begin rest))

keep-if : (P : List ℕ → Type 0) (x : List ℕ) (xs : List (List ℕ)) (c : Bool) → P x → AllByRecursion P xs → AllByRecursion P (cond c (x ∷ xs) xs)
keep-if P x xs true h hs = (h, hs)
keep-if P x xs false h hs = hs

filter-keeps : (P : List ℕ → Type 0) (test : List ℕ → Bool) (xs : List (List ℕ)) → AllByRecursion P xs → AllByRecursion P (filter test xs)
filter-keeps P test [] h = tt
filter-keeps P test (x ∷ xs) h = keep-if P x (filter test xs) (test x) h.0 (filter-keeps P test xs h.1)

last-has : (P : List ℕ → Type 0) (o : Option (List ℕ)) (xs : List (List ℕ)) (x : List ℕ) → IfSome o P → AllByRecursion P xs → last_or o xs ≡ Some x → P x
last-has P o [] x first all e = rw e at first
last-has P o (y ∷ ys) x first all e = last-has P (Some y) ys x all.0 all.1 e

pub particle-boundary : (table : List (List ℕ)) (name particle : List ℕ) → name_particle table name ≡ Some particle → IsCharBoundary name (length particle)
particle-boundary table name particle e =
    let b = last-has (Begins name) None (filter (is_particle table) (beginnings name)) particle tt (filter-keeps (Begins name) (is_particle table) (beginnings name) (beginnings-begin name)) e in
    let fits : length particle < length name = rw b.split (omega (arith, length-append particle (blank ∷ b.rest))) in
    let there : get_or name (length particle) 0 ≡ blank = rw b.split (get_or-append_seam particle blank b.rest 0) in
    IsCharBoundary-before_ascii name (length particle) fits (omega (arith, there))

-- the particle of a name is one
keep-listed : (table : List (List ℕ)) (name x : List ℕ) (xs : List (List ℕ)) (c : Bool) → c ≡ is_particle table x → Begins name x → AllByRecursion (IsParticleOf table name) xs → AllByRecursion (IsParticleOf table name) (cond c (x ∷ xs) xs)
keep-listed table name x xs true e h hs = (record { rest = h.rest; split = h.split; listed = sym e }, hs)
keep-listed table name x xs false e h hs = hs

filter-listed : (table : List (List ℕ)) (name : List ℕ) (xs : List (List ℕ)) → AllByRecursion (Begins name) xs → AllByRecursion (IsParticleOf table name) (filter (is_particle table) xs)
filter-listed table name [] h = tt
filter-listed table name (x ∷ xs) h = keep-listed table name x (filter (is_particle table) xs) (is_particle table x) refl h.0 (filter-listed table name xs h.1)

pub particle-is_one : (table : List (List ℕ)) (name particle : List ℕ) → name_particle table name ≡ Some particle → IsParticleOf table name particle
particle-is_one table name particle e =
    last-has (IsParticleOf table name) None (filter (is_particle table) (beginnings name)) particle tt (filter-listed table name (beginnings name) (beginnings-begin name)) e

-- another particle of the name appears in the list, and what follows it is longer
last-from : (o : Option (List ℕ)) (xs : List (List ℕ)) (x : List ℕ) (ys : List (List ℕ)) → last_or o (xs ++ x ∷ ys) ≡ last_or (Some x) ys
last-from o [] x ys = refl
last-from o (z ∷ zs) x ys = last-from (Some z) zs x ys

longer-all : (front : List ℕ) (bs : List (List ℕ)) → AllByRecursion (λ q. length front ≤ length q) (map (λ t. front ++ blank ∷ t) bs)
longer-all front [] = tt
longer-all front (b ∷ bs) = (omega (arith, length-append front (blank ∷ b)), longer-all front bs)

name_particle-from : (table : List (List ℕ)) (name front : List ℕ) (p : IsParticleOf table name front)
    → name_particle table name ≡ last_or (Some front) (filter (is_particle table) (map (λ t. front ++ blank ∷ t) (beginnings p.rest)))
name_particle-from table name front p =
    rw (p.split, beginnings-split front p.rest, filter-append, p.listed) (last-from None (filter (is_particle table) (beginnings front)) front _)

pub particle-longest : (table : List (List ℕ)) (name particle other : List ℕ) → name_particle table name ≡ Some particle → IsParticleOf table name other → length other ≤ length particle
particle-longest table name particle other e p =
    let longer = map (λ t. other ++ blank ∷ t) (beginnings p.rest) in
    last-has (λ q. length other ≤ length q) (Some other) (filter (is_particle table) longer) particle (omega arith)
    (filter-keeps (λ q. length other ≤ length q) (is_particle table) longer (longer-all other (beginnings p.rest))) (sym (name_particle-from table name other p) ∙ e)

last-some : (x : List ℕ) (xs : List (List ℕ)) → last_or (Some x) xs ≡ None → ⊥
last-some x [] h = cc
last-some x (y ∷ ys) h = last-some y ys h

pub no-particle : (table : List (List ℕ)) (name other : List ℕ) → name_particle table name ≡ None → IsParticleOf table name other → ⊥
no-particle table name other e p = last-some other (filter (is_particle table) (map (λ t. other ++ blank ∷ t) (beginnings p.rest))) (sym (name_particle-from table name other p) ∙ e)
