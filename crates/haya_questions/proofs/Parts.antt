-- A text that has another in it.
use Rattle.std.proofs.Common.{◌≡◌, ℕ, Bool, true, false, ◌||◌, List, [], ◌∷◌, ◌++◌, length, drop, refl, ap, ◌∙◌}
use Rattle.std.specs.Prelude.{nat_eq, ◌↔◌}
use Rattle.std.specs.Cmp.{both_ways}
use Rattle.std.specs.List.{starts_with}
use Rattle.std.specs.Str.Iter.{HasSubslice}
use Rattle.std.proofs.lemmas.Bool.Decides.{Decides-eqb}
use Rattle.std.proofs.lemmas.Slice.Eq.{starts_is}
use Rattle.haya_questions.specs.CaseAside.{has_part}

begins : (text part : List ℕ) → starts_with nat_eq text part ≡ true → text ≡ part ++ drop (length part) text
begins text part = (starts_is Decides-eqb text part (starts_with nat_eq text part) refl).0

begun : (text part rest : List ℕ) → text ≡ part ++ rest → starts_with nat_eq text part ≡ true
begun text part = (starts_is Decides-eqb text part (starts_with nat_eq text part) refl).1

or_true : (r : Bool) → (r || true) ≡ true
or_true true = refl
or_true false = refl

one_more : (part : List ℕ) (b : ℕ) (bs : List ℕ) (r : Bool) → starts_with nat_eq (b ∷ bs) part ≡ r → (r || has_part part bs) ≡ true
    → (has_part part bs ≡ true → HasSubslice bs part) → HasSubslice (b ∷ bs) part
one_more part b bs true is h more = ([], drop (length part) (b ∷ bs), begins (b ∷ bs) part is)
one_more part b bs false is h more = let s = more h in (b ∷ s.0, s.1, ap (λ l. b ∷ l) s.2)

has-from : (part text : List ℕ) → has_part part text ≡ true → HasSubslice text part
has-from part [] h = ([], drop (length part) [], begins [] part h)
has-from part (b ∷ bs) h = one_more part b bs (starts_with nat_eq (b ∷ bs) part) refl h (has-from part bs)

tails : (x y : ℕ) (xs ys : List ℕ) → x ∷ xs ≡ y ∷ ys → xs ≡ ys
tails x y xs ys h = cc

has-to : (part text before rest : List ℕ) → text ≡ before ++ (part ++ rest) → has_part part text ≡ true
has-to part [] [] rest h = begun [] part rest h
has-to part [] (c ∷ cs) rest h = cc
has-to part (b ∷ bs) [] rest h = ap (λ r. r || has_part part bs) (begun (b ∷ bs) part rest h)
has-to part (b ∷ bs) (c ∷ cs) rest h =
    ap (λ r. starts_with nat_eq (b ∷ bs) part || r) (has-to part bs cs rest (tails b c bs _ h)) ∙ or_true (starts_with nat_eq (b ∷ bs) part)

-- the test is what the words say
pub has_part-says : (part text : List ℕ) → (has_part part text ≡ true) ↔ HasSubslice text part
has_part-says part text = (has-from part text, λ s. has-to part text s.0 s.1 s.2)

-- what tells the same is the same
pub told_part : (r : Bool) (part text : List ℕ) → (r ≡ true) ↔ HasSubslice text part → r ≡ has_part part text
told_part r part text told = both_ways r (has_part part text) (λ y. has-to part text (told.0 y).0 (told.0 y).1 (told.0 y).2) (λ y. told.1 (has-from part text y))
