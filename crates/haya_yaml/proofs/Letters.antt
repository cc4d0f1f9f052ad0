-- Lines that begin with a letter.
use Rattle.std.proofs.Common.{◌≡◌, ℕ, ◌+◌, ◌≤◌, List, [], ◌∷◌, Bool, true, false, ◌==◌, ◌||◌, ◌&&◌, cond, drop, refl, sym, ap, ◌∙◌, arith}
use Rattle.std.specs.Prelude.{nat_lt}
use Rattle.haya_yaml_text.proofs.Steps.{drop_one}
use Rattle.haya_yaml_text.specs.Signs.{begins_with, blanks, is_end, skip}
use Rattle.haya_yaml.specs.Line.{begins_letter, belongs, indent, is_closer, is_dash, is_dash_at, is_skipped, rest_of}

-- tabs don't matter where a letter follows the spaces
same_if : (c : ℕ) (cs : List ℕ) (b : Bool) → (c == 32) ≡ b → (begins_letter (skip false cs) ≡ true → skip true cs ≡ skip false cs)
    → begins_letter (skip false (c ∷ cs)) ≡ true → skip true (c ∷ cs) ≡ skip false (c ∷ cs)
same_if c cs true is more letter =
    let blank : c ≡ 32 = grind (arith, is) in
    let behind : (tabs : Bool) → skip tabs (32 ∷ cs) ≡ skip tabs cs = λ tabs. drop_one (blanks tabs cs) 32 cs in
    let first : begins_letter (skip false (32 ∷ cs)) ≡ true = sym (ap (λ d. begins_letter (skip false (d ∷ cs))) blank) ∙ letter in
    rw blank (behind true ∙ more (sym (ap begins_letter (behind false)) ∙ first) ∙ sym (behind false))
same_if c cs false is more letter =
    let solid : skip false (c ∷ cs) ≡ c ∷ cs = ap (λ b. drop (cond (b || false) (1 + blanks false cs) 0) (c ∷ cs)) is in
    let first : begins_letter (c ∷ cs) ≡ true = sym (ap begins_letter solid) ∙ letter in
    let tab : (c == 9) ≡ false = grind (arith, first) in
    ap (λ b. drop (cond (b || (c == 9)) (1 + blanks true cs) 0) (c ∷ cs)) is
    ∙ ap (λ b. drop (cond b (1 + blanks true cs) 0) (c ∷ cs)) tab ∙ sym solid

same_rest : (line : List ℕ) → begins_letter (skip false line) ≡ true → skip true line ≡ skip false line
same_rest [] letter = refl
same_rest (c ∷ cs) letter = same_if c cs (c == 32) refl (same_rest cs) letter

and_false : (a b : Bool) → b ≡ false → (a && b) ≡ false
and_false true b e = e
and_false false b e = refl

letter_if : (dashes : Bool) (column : ℕ) (line rest : List ℕ) → rest_of line ≡ rest → begins_letter rest ≡ true → indent line ≤ column → belongs dashes column line ≡ false
letter_if dashes column line [] is letter most = absurd (grind (arith, letter))
letter_if dashes column line (c ∷ cs) is letter most =
    let hash : (c == 35) ≡ false = grind (arith, letter) in
    let bracket : (c == 93) ≡ false = grind (arith, letter) in
    let brace : (c == 125) ≡ false = grind (arith, letter) in
    let sign : (c == 45) ≡ false = grind (arith, letter) in
    let skipped : is_skipped line ≡ false = ap is_end (same_rest line (ap begins_letter is ∙ letter) ∙ is) ∙ hash in
    let closer : is_closer line ≡ false = ap (λ r. begins_with 93 r || begins_with 125 r) is ∙ ap (λ b. b || (c == 125)) bracket ∙ brace in
    let deeper : nat_lt column (indent line) ≡ false = grind (arith, most) in
    let no_dash : is_dash (rest_of line) ≡ false = ap is_dash is ∙ rw sign refl in
    let dash : (dashes && is_dash_at column line) ≡ false = and_false dashes (is_dash_at column line) (and_false (indent line == column) (is_dash (rest_of line)) no_dash) in
    ap (λ b. b || is_closer line || nat_lt column (indent line) || (dashes && is_dash_at column line)) skipped
    ∙ ap (λ b. b || nat_lt column (indent line) || (dashes && is_dash_at column line)) closer
    ∙ ap (λ b. b || (dashes && is_dash_at column line)) deeper ∙ dash

pub letter_line : (dashes : Bool) (column : ℕ) (line : List ℕ) → begins_letter (rest_of line) ≡ true → indent line ≤ column → belongs dashes column line ≡ false
letter_line dashes column line letter most = letter_if dashes column line (rest_of line) refl letter most
