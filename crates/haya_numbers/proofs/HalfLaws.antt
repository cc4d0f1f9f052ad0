-- The halves of a text are the one list that is cut right.
use Rattle.std.proofs.Common.{◌≡◌, ◌≢◌, ℕ, ◌<◌, Bool, true, false, ◌&&◌, ◌||◌, cond, eqb, inl, inr, List, [], ◌∷◌, ◌++◌, length, refl, ap, sym, ◌∙◌, arith, lit<}
use Rattle.std.proofs.lemmas.Bool.Decides.{nat_tests}
use Rattle.std.proofs.lemmas.List.{append_assoc, length-append}
use Rattle.std.proofs.lemmas.List.Elements.{All-from_recursion}
use Rattle.std.proofs.lemmas.List.Splits.{slice_split_at, slice_split_none}
use Rattle.std.specs.List.{All, AllByRecursion, onto_first}
use Rattle.haya_numbers.specs.Cuts.{dash_split, escaped_split, is_dash}
use Rattle.haya_numbers.specs.Halves.{AreHalves, HasNoMark, IsCut, IsDash, IsEscapedHyphen}
use Rattle.haya_numbers.proofs.CutLemmas.{HasNoEscape, escape-is, escaped_split-at, escaped_split-none}

-- a text without a mark is its own half, and the half up to a mark comes first
record Cuts (IsMark : List ℕ → Type 0) (split : List ℕ → List (List ℕ)) : Type 0 where
  whole : (text : List ℕ) → HasNoMark IsMark text → split text ≡ text ∷ []
  first : (half mark rest : List ℕ) → IsMark mark → HasNoMark IsMark half → split (half ++ (mark ++ rest)) ≡ half ∷ split rest

only : {IsMark : List ℕ → Type 0} {split : List ℕ → List (List ℕ)} → Cuts IsMark split → (text : List ℕ) (hs : List (List ℕ)) → AreHalves IsMark text hs → hs ≡ split text
only cuts text [] h = absurd h
only {split} cuts text (half ∷ []) (e, none) = sym (cuts.whole half none) ∙ ap split (sym e)
only {split} cuts text (half ∷ next ∷ more) (rest, cut, hs) = ap (λ l. half ∷ l) (only cuts rest (next ∷ more) hs) ∙ sym (cuts.first half cut.mark rest cut.is cut.none) ∙ ap split (sym cut.joined)

-- no mark stands first
abbrev BeginsWithNoMark : (List ℕ → Type 0) → List ℕ → Type 0
BeginsWithNoMark IsMark text = (mark back : List ℕ) → IsMark mark → text ≢ mark ++ back

HasNoMark-cons : {IsMark : List ℕ → Type 0} (c : ℕ) (cs : List ℕ) → BeginsWithNoMark IsMark (c ∷ cs) → HasNoMark IsMark cs → HasNoMark IsMark (c ∷ cs)
HasNoMark-cons c cs begins none [] mark back m e = begins mark back m e
HasNoMark-cons c cs begins none (f ∷ front) mark back m e = none front mark back m (let t : cs ≡ front ++ (mark ++ back) = cc in t)

begins-front : {IsMark : List ℕ → Type 0} (xs ys : List ℕ) → BeginsWithNoMark IsMark (xs ++ ys) → BeginsWithNoMark IsMark xs
begins-front xs ys begins mark back m e = begins mark (back ++ ys) m (ap (λ l. l ++ ys) e ∙ append_assoc mark back ys)

-- the halves of what stands behind a mark, with the half before it
halves-cons : {IsMark : List ℕ → Type 0} (text half rest : List ℕ) (hs : List (List ℕ)) → IsCut IsMark text half rest → AreHalves IsMark rest hs → AreHalves IsMark text (half ∷ hs)
halves-cons text half rest [] cut h = absurd h
halves-cons text half rest (next ∷ more) cut h = (rest, cut, h)

-- the halves with one more character in the first
halves-onto : {IsMark : List ℕ → Type 0} (c : ℕ) (cs : List ℕ) (hs : List (List ℕ)) → BeginsWithNoMark IsMark (c ∷ cs) → AreHalves IsMark cs hs → AreHalves IsMark (c ∷ cs) (onto_first c hs)
halves-onto c cs [] begins h = absurd h
halves-onto {IsMark} c cs (half ∷ []) begins (e, none) = (ap (λ l. c ∷ l) e, HasNoMark-cons c half (rw e at begins) none)
halves-onto {IsMark} c cs (half ∷ next ∷ more) begins (rest, cut, h) =
    let joined : c ∷ cs ≡ (c ∷ half) ++ (cut.mark ++ rest) = ap (λ l. c ∷ l) cut.joined in
    (rest, record { mark = cut.mark; is = cut.is; joined = joined; none = HasNoMark-cons c half (begins-front (c ∷ half) (cut.mark ++ rest) (rw joined at begins)) cut.none }, h)

-- at escaped hyphens
escape-cuts : Cuts IsEscapedHyphen escaped_split
escape-cuts = record {
  whole = λ text none. escaped_split-none text (lacks text none);
  first = λ half mark rest m none. rw m (escaped_split-at half rest (lacks half none));
}
  where
    lacks : (text : List ℕ) → HasNoMark IsEscapedHyphen text → HasNoEscape text
    lacks text none xs ys e = none xs (92 ∷ 45 ∷ []) ys refl e

shorter : (text : List ℕ) → length text < 2 → HasNoMark IsEscapedHyphen text
shorter text short front mark back m e = absurd (omega (arith, ap length (rw m at e), length-append front (92 ∷ 45 ∷ back), short))

-- no escaped hyphen stands first
no-escape : (c d : ℕ) (cs mark back : List ℕ) → (eqb c 92 && eqb d 45) ≡ false → IsEscapedHyphen mark → c ∷ d ∷ cs ≢ mark ++ back
no-escape c d cs mark back h m e =
    let g : c ∷ d ∷ cs ≡ 92 ∷ 45 ∷ back = rw m at e in
    let p : c ≡ 92 = cc in
    let q : d ≡ 45 = cc in
    let r = rw (p, q) at h in cc

escape-halves : (text : List ℕ) → AreHalves IsEscapedHyphen text (escaped_split text)
escape-halves [] = (refl, shorter [] (lit< tt))
escape-halves (c ∷ []) = (refl, shorter (c ∷ []) (lit< tt))
escape-halves (c ∷ d ∷ cs) = go (eqb c 92 && eqb d 45) refl (escape-halves cs) (escape-halves (d ∷ cs))
  where
    go : (b : Bool) → (eqb c 92 && eqb d 45) ≡ b → AreHalves IsEscapedHyphen cs (escaped_split cs) → AreHalves IsEscapedHyphen (d ∷ cs) (escaped_split (d ∷ cs))
        → AreHalves IsEscapedHyphen (c ∷ d ∷ cs) (cond b ([] ∷ escaped_split cs) (onto_first c (escaped_split (d ∷ cs))))
    go true h behind more =
        let e = escape-is c d h in
        halves-cons (c ∷ d ∷ cs) [] cs (escaped_split cs) (record { mark = 92 ∷ 45 ∷ []; is = refl; joined = rw (e.0, e.1) refl; none = shorter [] (lit< tt) }) behind
    go false h behind more = halves-onto c (d ∷ cs) (escaped_split (d ∷ cs)) (λ mark back m e. no-escape c d cs mark back h m e) more

pub escaped-halves : (text : List ℕ) (hs : List (List ℕ)) → (AreHalves IsEscapedHyphen text hs → hs ≡ escaped_split text) × (hs ≡ escaped_split text → AreHalves IsEscapedHyphen text hs)
escaped-halves text hs = (only escape-cuts text hs, λ e. rw e (escape-halves text))

-- at dashes
dash-is : (c : ℕ) → is_dash c ≡ true → IsDash (c ∷ [])
dash-is c h = go (eqb c 45) refl h
  where
    go : (b : Bool) → eqb c 45 ≡ b → (b || eqb c 8211) ≡ true → IsDash (c ∷ [])
    go true k _ = let e : c ≡ 45 = grind (arith, nat_tests, k) in inl (rw e refl)
    go false k h = let e : c ≡ 8211 = grind (arith, nat_tests, h) in inr (rw e refl)

no-dash : (c : ℕ) (cs mark back : List ℕ) → is_dash c ≡ false → IsDash mark → c ∷ cs ≢ mark ++ back
no-dash c cs mark back h (inl m) e = let g : c ∷ cs ≡ 45 ∷ back = rw m at e in let p : c ≡ 45 = cc in let r = rw p at h in cc
no-dash c cs mark back h (inr m) e = let g : c ∷ cs ≡ 8211 ∷ back = rw m at e in let p : c ≡ 8211 = cc in let r = rw p at h in cc

none-dash : (cs : List ℕ) → HasNoMark IsDash cs → AllByRecursion (λ c. is_dash c ≡ false) cs
none-dash [] none = tt
none-dash (c ∷ cs) none = (go (is_dash c) refl, none-dash cs (λ front mark back m e. none (c ∷ front) mark back m (ap (λ l. c ∷ l) e)))
  where
    go : (b : Bool) → is_dash c ≡ b → b ≡ false
    go true h = absurd (none [] (c ∷ []) cs (dash-is c h) refl)
    go false h = refl

nothing-without : HasNoMark IsDash []
nothing-without [] mark back (inl m) e = let g : [] ≡ 45 ∷ back = rw m at e in cc
nothing-without [] mark back (inr m) e = let g : [] ≡ 8211 ∷ back = rw m at e in cc
nothing-without (f ∷ front) mark back m e = cc

dash-cuts : Cuts IsDash dash_split
dash-cuts = record {
  whole = λ text none. slice_split_none is_dash text (All-from_recursion (λ c. is_dash c ≡ false) text (none-dash text none));
  first = λ half mark rest m none. at half mark rest m (All-from_recursion (λ c. is_dash c ≡ false) half (none-dash half none));
}
  where
    at : (half mark rest : List ℕ) → IsDash mark → All (λ c. is_dash c ≡ false) half → dash_split (half ++ (mark ++ rest)) ≡ half ∷ dash_split rest
    at half mark rest (inl m) none = rw m (slice_split_at is_dash half 45 rest none refl)
    at half mark rest (inr m) none = rw m (slice_split_at is_dash half 8211 rest none refl)

dash-halves : (text : List ℕ) → AreHalves IsDash text (dash_split text)
dash-halves [] = (refl, nothing-without)
dash-halves (c ∷ cs) = go (is_dash c) refl (dash-halves cs)
  where
    go : (b : Bool) → is_dash c ≡ b → AreHalves IsDash cs (dash_split cs) → AreHalves IsDash (c ∷ cs) (cond b ([] ∷ dash_split cs) (onto_first c (dash_split cs)))
    go true h behind = halves-cons (c ∷ cs) [] cs (dash_split cs) (record { mark = c ∷ []; is = dash-is c h; joined = refl; none = nothing-without }) behind
    go false h behind = halves-onto c cs (dash_split cs) (λ mark back m e. no-dash c cs mark back h m e) behind

pub plain-halves : (text : List ℕ) (hs : List (List ℕ)) → (AreHalves IsDash text hs → hs ≡ dash_split text) × (hs ≡ dash_split text → AreHalves IsDash text hs)
plain-halves text hs = (only dash-cuts text hs, λ e. rw e (dash-halves text))
