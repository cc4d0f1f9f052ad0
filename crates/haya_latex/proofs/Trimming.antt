-- Blanks between characters, of which none is at the ends.
use Rattle.std.proofs.Common.{◌≡◌, ◌<◌, ◌+◌, ◌++◌, ◌==◌, ◌&&◌, ℕ, Bool, true, false, Option, None, Some, List, [], ◌∷◌, if◌then◌else◌, flat_map, reverse, refl, sym, ◌∙◌, ap, arith, add-one, append_assoc, drop, drop-cons, get_or, length}
use Rattle.std.proofs.lemmas.Bool.Decides.{nat_tests}
use Rattle.std.proofs.lemmas.List.{append-nil, reverse-append}
use Rattle.std.proofs.lemmas.List.Concat.{flat_map-append, flat_map-cons}
use Rattle.haya_latex.specs.RunViews.{run_bytes}
use Rattle.haya_latex.specs.Texts.{behind_blanks, blank_of, char_bytes, first_blank, is_blank, single_blanks, trimmed, without_first_blank, without_last_blank}
use Rattle.haya_latex.specs.declared.kinds.Kind.{Kind}
use Rattle.haya_latex.specs.declared.runs.Run.{Run}

-- what characters behind others come to, between which there may be a blank
abbrev pub held : Option Kind → List (ℕ × Kind) → List (ℕ × Kind)
held p [] = []
held p (c ∷ cs) = if is_blank c then held (Some (first_blank p c.1)) cs else blank_of p ++ (c ∷ held None cs)

-- a blank at the end goes from the rest
first_with : (x y : ℕ × Kind) (r : List (ℕ × Kind)) →
    without_first_blank ((r ++ (y ∷ [])) ++ (x ∷ [])) ≡ without_first_blank (r ++ (y ∷ [])) ++ (x ∷ [])
first_with x y [] =
    elim (is_blank y) as (λ b. (if b then x ∷ [] else y ∷ x ∷ []) ≡ (if b then [] else y ∷ []) ++ (x ∷ [])) [ true ↦ refl | false ↦ refl ]
first_with x y (z ∷ r) =
    elim (is_blank z) as (λ b. (if b then (r ++ (y ∷ [])) ++ (x ∷ []) else z ∷ ((r ++ (y ∷ [])) ++ (x ∷ []))) ≡ (if b then r ++ (y ∷ []) else z ∷ (r ++ (y ∷ []))) ++ (x ∷ []))
    [ true ↦ refl | false ↦ refl ]

last_with : (x y : ℕ × Kind) (l : List (ℕ × Kind)) → without_last_blank (x ∷ y ∷ l) ≡ x ∷ without_last_blank (y ∷ l)
last_with x y l =
    let behind : reverse (y ∷ l) ≡ reverse l ++ (y ∷ []) = reverse-append (y ∷ []) l in
    let all : reverse (x ∷ y ∷ l) ≡ (reverse l ++ (y ∷ [])) ++ (x ∷ []) = reverse-append (x ∷ []) (y ∷ l) ∙ ap (λ r. r ++ (x ∷ [])) behind in
    ap (λ r. reverse (without_first_blank r)) all
    ∙ (ap reverse (first_with x y (reverse l))
    ∙ (reverse-append (without_first_blank (reverse l ++ (y ∷ []))) (x ∷ [])
    ∙ ap (λ r. x ∷ reverse (without_first_blank r)) (sym behind)))

abbrev is_some : Option Kind → Bool
is_some None = false
is_some (Some k) = true

blank_is : (c : ℕ × Kind) → is_blank c ≡ true → c ≡ (32, c.1)
blank_is c e = let x : c.0 ≡ 32 = grind (arith, nat_tests) in ap (λ n. (n, c.1)) x

-- one character more, where the rest is held
abbrev HoldsRest : List (ℕ × Kind) → Type 0
HoldsRest cs = (x : ℕ × Kind) (p : Option Kind) → is_blank x ≡ false →
    without_last_blank (x ∷ (blank_of p ++ single_blanks (is_some p) cs)) ≡ x ∷ held p cs

holds_more : (b : Bool) (c : ℕ × Kind) (cs : List (ℕ × Kind)) (x : ℕ × Kind) (p : Option Kind) → HoldsRest cs →
    is_blank c ≡ b → is_blank x ≡ false →
    without_last_blank (x ∷ (blank_of p ++ (if b && is_some p then single_blanks true cs else c ∷ single_blanks b cs)))
    ≡ x ∷ (if b then held (Some (first_blank p c.1)) cs else blank_of p ++ (c ∷ held None cs))
holds_more true c cs x None rest e n =
    ap (λ d. without_last_blank (x ∷ d ∷ single_blanks true cs)) (blank_is c e) ∙ rest x (Some c.1) n
holds_more true c cs x (Some k) rest e n = rest x (Some k) n
holds_more false c cs x None rest e n =
    last_with x c (single_blanks false cs) ∙ ap (λ l. x ∷ l) (rest c None e)
holds_more false c cs x (Some k) rest e n =
    last_with x (32, k) (c ∷ single_blanks false cs)
    ∙ (ap (λ l. x ∷ l) (last_with (32, k) c (single_blanks false cs)) ∙ ap (λ l. x ∷ (32, k) ∷ l) (rest c None e))

holds : (cs : List (ℕ × Kind)) → HoldsRest cs
holds [] x None n = rw n refl
holds [] x (Some k) n = refl
holds (c ∷ cs) x p n = holds_more (is_blank c) c cs x p (holds cs) refl n

-- behind blanks there is the first character that stays
abbrev from_first : List (ℕ × Kind) → List (ℕ × Kind)
from_first [] = []
from_first (c ∷ cs) = c ∷ held None cs

starts_by : (b : Bool) (c : ℕ × Kind) (cs all : List (ℕ × Kind)) → (behind_blanks cs ≡ all → trimmed cs ≡ from_first all) →
    is_blank c ≡ b → (if b then behind_blanks cs else c ∷ cs) ≡ all →
    without_last_blank (if b && true then single_blanks true cs else c ∷ single_blanks b cs) ≡ from_first all
starts_by true c cs all rest e h = rest h
starts_by false c cs all rest e h = holds cs c None e ∙ ap from_first h

starts : (cs all : List (ℕ × Kind)) → behind_blanks cs ≡ all → trimmed cs ≡ from_first all
starts [] all h = ap from_first h
starts (c ∷ cs) all h = starts_by (is_blank c) c cs all (starts cs all) refl h

-- and none, where all are blanks
pub none_stays : (cs : List (ℕ × Kind)) → behind_blanks cs ≡ [] → trimmed cs ≡ []
none_stays cs h = starts cs [] h

first_stays : (cs : List (ℕ × Kind)) (x : ℕ × Kind) (xs : List (ℕ × Kind)) → behind_blanks cs ≡ x ∷ xs →
    flat_map char_bytes (trimmed cs) ≡ char_bytes x ++ flat_map char_bytes (held None xs)
first_stays cs x xs h = ap (flat_map char_bytes) (starts cs (x ∷ xs) h) ∙ flat_map-cons char_bytes x (held None xs)

pub first_bytes : (cs : List (ℕ × Kind)) (x : ℕ × Kind) (xs : List (ℕ × Kind)) (rs : List Run) (r : Run) → behind_blanks cs ≡ x ∷ xs →
    rs ≡ [] → run_bytes r ≡ char_bytes x →
    flat_map char_bytes (trimmed cs) ≡ flat_map run_bytes (rs ++ r ∷ []) ++ flat_map char_bytes (held None xs)
first_bytes cs x xs rs r h none is =
    let one : flat_map run_bytes (r ∷ []) ≡ char_bytes x = flat_map-cons run_bytes r [] ∙ (append-nil (run_bytes r) ∙ is) in
    first_stays cs x xs h
    ∙ (ap (λ l. l ++ flat_map char_bytes (held None xs)) (sym one)
    ∙ ap (λ l. flat_map run_bytes (l ++ r ∷ []) ++ flat_map char_bytes (held None xs)) (sym none))

-- each step over those behind it
is_32 : (n : ℕ) → n ≡ 32 → (n == 32) ≡ true
is_32 n e = grind (arith, nat_tests)

is_not_32 : (n : ℕ) → ¬ (n ≡ 32) → (n == 32) ≡ false
is_not_32 n e = grind (arith, nat_tests)

drop_here : (xs : List (ℕ × Kind)) (i : ℕ) (d : ℕ × Kind) → i < length xs → drop i xs ≡ get_or xs i d ∷ drop (i + 1) xs
drop_here xs i d h = rw add-one (drop-cons xs i d h)

pub blank_step : (all old : List (ℕ × Kind)) (p q : Option Kind) (xs : List (ℕ × Kind)) (i : ℕ) (d : ℕ × Kind) →
    all ≡ old ++ flat_map char_bytes (held p (drop i xs)) → i < length xs → (get_or xs i d).0 ≡ 32 → q ≡ Some (first_blank p (get_or xs i d).1) →
    all ≡ old ++ flat_map char_bytes (held q (drop (i + 1) xs))
blank_step all old p q xs i d h l e first =
    let c = get_or xs i d in
    let cs = drop (i + 1) xs in
    let on : held p (c ∷ cs) ≡ held q cs = rw (is_32 c.0 e) (ap (λ o. held o cs) (sym first)) in
    h ∙ ap (λ m. old ++ flat_map char_bytes m) (ap (held p) (drop_here xs i d l) ∙ on)

pub other_step : (all old mid new : List (ℕ × Kind)) (p : Option Kind) (xs : List (ℕ × Kind)) (i : ℕ) (d : ℕ × Kind) →
    all ≡ old ++ flat_map char_bytes (held p (drop i xs)) → i < length xs → ¬ ((get_or xs i d).0 ≡ 32) →
    mid ≡ old ++ flat_map char_bytes (blank_of p) → new ≡ mid ++ char_bytes (get_or xs i d) →
    all ≡ new ++ flat_map char_bytes (held None (drop (i + 1) xs))
other_step all old mid new p xs i d h l e blank char =
    let c = get_or xs i d in
    let cs = drop (i + 1) xs in
    let rest = flat_map char_bytes (held None cs) in
    let front = flat_map char_bytes (blank_of p) in
    let on : flat_map char_bytes (held p (c ∷ cs)) ≡ front ++ (char_bytes c ++ rest) =
    rw (is_not_32 c.0 e) (flat_map-append char_bytes (blank_of p) (c ∷ held None cs) ∙ ap (λ m. front ++ m) (flat_map-cons char_bytes c (held None cs))) in
    let joined : old ++ (front ++ (char_bytes c ++ rest)) ≡ ((old ++ front) ++ char_bytes c) ++ rest =
    sym (append_assoc (old ++ front) (char_bytes c) rest ∙ append_assoc old front (char_bytes c ++ rest)) in
    h
    ∙ (ap (λ m. old ++ flat_map char_bytes (held p m)) (drop_here xs i d l)
    ∙ (ap (λ m. old ++ m) on ∙ (joined ∙ ap (λ m. m ++ rest) (ap (λ m. m ++ char_bytes c) (sym blank) ∙ sym char))))
