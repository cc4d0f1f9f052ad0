-- Room that is spent on uses of strings, one after another.
use Rattle.std.proofs.Common.{◌≡◌, ℕ, ◌-◌, ◌<◌, ◌≤◌, true, false, cond, nat_le, List, [], ◌∷◌, ◌++◌, Some, length, Result, Ok, Err, refl, ap, sym, ◌∙◌, arith}
use Rattle.std.proofs.lemmas.Bool.Decides.{nat_tests}
use Rattle.haya_bibtex_text.specs.Pieces.{fault}
use Rattle.haya_bibtex_text.specs.Stops.{StopsBy}
use Rattle.haya_bibtex_text.specs.Uses.{Use, spend, use_of}
use Rattle.haya_bibtex_text.specs.declared.fault.FaultKind.TheVariants as kind
use Rattle.haya_bibtex_text.specs.declared.fault.Refusal.{Refusal}
use Rattle.haya_bibtex_text.specs.declared.fault.Stop.{Stop}
use Rattle.haya_bibtex_text.proofs.Stopping.{stops_whole}

-- the room behind uses, and then behind others
abbrev onward : Result ℕ Refusal → List Use → Result ℕ Refusal
onward (Ok room) us = spend room us
onward (Err f) us = Err f

spend-append : (us vs : List Use) (room : ℕ) → spend room (us ++ vs) ≡ onward (spend room us) vs
spend-append [] vs room = refl
spend-append (u ∷ us) vs room =
    elim (nat_le u.size room) as (λ b. cond b (spend (room - u.size) (us ++ vs)) (Err (fault kind.Strings u.left))
    ≡ onward (cond b (spend (room - u.size) us) (Err (fault kind.Strings u.left))) vs)
    [ true ↦ spend-append us vs (room - u.size) | false ↦ refl ]

-- what is left behind the first uses is there for the others
pub spend_on : (us vs : List Use) (room left : ℕ) → spend room us ≡ Ok left → spend room (us ++ vs) ≡ spend left vs
spend_on us vs room left e = spend-append us vs room ∙ ap (λ r. onward r vs) e

-- where there is no room for the first uses, there is none for all
pub spend_fails : (us vs : List Use) (room : ℕ) (f : Refusal) → spend room us ≡ Err f → spend room (us ++ vs) ≡ Err f
spend_fails us vs room f e = spend-append us vs room ∙ ap (λ r. onward r vs) e

-- the room so far, for the uses that are left, is that of all: one turn on
pub spend_turn : (us vs all : List Use) (first room left : ℕ) → spend room (us ++ vs) ≡ spend first all → spend room us ≡ Ok left
    → spend left vs ≡ spend first all
spend_turn us vs all first room left so_far e = sym (spend_on us vs room left e) ∙ so_far

-- and where a turn fails, all do
pub stops_all : (us vs all : List Use) (first room : ℕ) → spend room (us ++ vs) ≡ spend first all → (e : Stop)
    → StopsBy (λ f. spend room us ≡ Err f) e → StopsBy (λ f. spend first all ≡ Err f) e
stops_all us vs all first room so_far e part =
    stops_whole (λ f. spend room us ≡ Err f) (λ f. spend first all ≡ Err f)
    (λ f h. sym so_far ∙ spend_fails us vs room f h) e part

is_more : (m n : ℕ) → n < m → nat_le m n ≡ false
is_more m n h = grind (arith, nat_tests)

is_no_more : (m n : ℕ) → m ≤ n → nat_le m n ≡ true
is_no_more m n h = grind (arith, nat_tests)

-- a string that is longer than the room, and one that isn't
pub spend_none : (left room : ℕ) (t : List ℕ) → room < length t → spend room (use_of left (Some t)) ≡ Err (fault kind.Strings left)
spend_none left room t h =
    ap (λ b. cond b (Ok (room - length t)) (Err (fault kind.Strings left))) (is_more (length t) room h)

pub spend_some : (left room : ℕ) (t : List ℕ) → length t ≤ room → spend room (use_of left (Some t)) ≡ Ok (room - length t)
spend_some left room t h =
    ap (λ b. cond b (Ok (room - length t)) (Err (fault kind.Strings left))) (is_no_more (length t) room h)

-- one turn on, where what is left begins with some uses
pub turn_on : (before us vs all : List Use) (room left first : ℕ) → before ≡ us ++ vs → spend room before ≡ spend first all
    → spend room us ≡ Ok left → spend left vs ≡ spend first all
turn_on before us vs all room left first is so_far e =
    spend_turn us vs all first room left (ap (λ b. spend room b) (sym is) ∙ so_far) e

pub turn_stops : (before us vs all : List Use) (room first : ℕ) → before ≡ us ++ vs → spend room before ≡ spend first all
    → (e : Stop) → StopsBy (λ f. spend room us ≡ Err f) e → StopsBy (λ f. spend first all ≡ Err f) e
turn_stops before us vs all room first is so_far e part =
    stops_all us vs all first room (ap (λ b. spend room b) (sym is) ∙ so_far) e part
