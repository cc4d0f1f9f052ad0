-- A list whose elements are found one after another.
use Rattle.std.proofs.Common.{◌≡◌, ℕ, true, false, Bor, List, [], ◌∷◌, ◌++◌, None, Option, Some, refl, sym, ap, ◌∙◌, subst, append_assoc}
use Rattle.std.specs.Prelude.{IfSome, Vec, map}
use Rattle.std.specs.declared.alloc.Global.{Global}
use Rattle.std.specs.List.{AllByRecursion}
use Rattle.haya_json_elements.specs.Steps.{closing_bracket, opening_bracket}
use Rattle.haya_json_elements.specs.declared.place.Brackets.{Brackets}
use Rattle.haya_slices.specs.Layout.{AreSeparated, IsElement, IsLaidOut, IsWhite}
use Rattle.haya_slices.specs.Scan.{BeginsByte, BeginsWith}

-- whatever elements the rest of a list has, the text has those that were found, and then these
abbrev pub IsLaidOutBut : Brackets → List ℕ → List (List ℕ) → List ℕ → Type 0
IsLaidOutBut b text found rest =
    (p : List ℕ) (ps : List (List ℕ)) (list back : List ℕ)
    → rest ≡ list ++ closing_bracket b ∷ back → AreSeparated (p ∷ ps) list
    → AllByRecursion (IsElement b) (p ∷ ps) → IsWhite back → IsLaidOut b text (found ++ p ∷ ps)

module _ (b : Brackets) (text : List ℕ) where
  -- behind the bracket that opens
  pub none_found : (rest : List ℕ) → BeginsByte (opening_bracket b) text rest
      → IsLaidOutBut b text [] rest
  none_found rest begins p ps list back is separated elements white =
      record {
        front = begins.front;
        list = list;
        back = back;
        is = begins.is ∙ ap (λ r. begins.front ++ opening_bracket b ∷ r) is;
        before = begins.before;
        behind = white;
        separated = separated;
        elements = elements;
      }

  -- where the bracket that closes follows at once
  pub no_elements : (rest back : List ℕ) → BeginsByte (opening_bracket b) text rest
      → BeginsByte (closing_bracket b) rest back → IsWhite back → IsLaidOut b text []
  no_elements rest back begins closes white =
      record {
        front = begins.front;
        list = closes.front;
        back = back;
        is = begins.is ∙ ap (λ r. begins.front ++ opening_bracket b ∷ r) closes.is;
        before = begins.before;
        behind = white;
        separated = closes.before;
        elements = tt;
      }

  -- behind an element and its comma
  pub one_found : (found : List (List ℕ)) (rest element behind : List ℕ)
      → IsLaidOutBut b text found rest → BeginsWith b rest element false behind
      → IsLaidOutBut b text (found ++ element ∷ []) behind
  one_found found rest element behind before begins p ps list back is separated elements white =
      subst (IsLaidOut b text) (sym (append_assoc found (element ∷ []) (p ∷ ps)))
      (before element (p ∷ ps) (begins.first ++ 44 ∷ list) back
      (begins.is ∙ ap (λ r. begins.first ++ 44 ∷ r) is
      ∙ sym (append_assoc begins.first (44 ∷ list) (closing_bracket b ∷ back)))
      (begins.first, list, refl, begins.padded, separated)
      (begins.element_is, elements) white)

  -- behind the last
  pub last_found : (found : List (List ℕ)) (rest element behind : List ℕ)
      → IsLaidOutBut b text found rest → BeginsWith b rest element true behind → IsWhite behind
      → IsLaidOut b text (found ++ element ∷ [])
  last_found found rest element behind before begins white =
      before element [] begins.first behind begins.is begins.padded (begins.element_is, tt) white

-- the slices are handed on where white space is behind them
pub kept : (b : Brackets) (text : List ℕ) (found : Option (Vec (Bor (List ℕ)) Global))
    (slices : List (Bor (List ℕ))) (behind : List ℕ)
    → IfSome found (λ same. (same.items ≡ slices) × IsWhite behind)
    → (IsWhite behind → IsLaidOut b text (map (λ s. s.now) slices))
    → IfSome found (λ same. IsLaidOut b text (map (λ s. s.now) same.items))
kept b text None slices behind h laid = tt
kept b text (Some v) slices behind h laid =
    subst (λ xs. IsLaidOut b text (map (λ s. s.now) xs)) (sym h.0) (laid h.1)
