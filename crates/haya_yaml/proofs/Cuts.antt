-- Lines that belong to what stands above them.
use Rattle.std.proofs.Common.{◌≡◌, ℕ, ◌+◌, ◌<◌, ◌≤◌, List, [], ◌∷◌, ◌++◌, length, take, drop, get_or, Bool, true, false, refl, sym, ap, ◌∙◌, append_assoc, append-nil}
use Rattle.std.specs.Borrow.{Bor}
use Rattle.std.proofs.lemmas.List.{at_drop_more, take_more, drop_all, map-append}
use Rattle.haya_yaml.specs.Line.{Lines, belongs, texts}
use Rattle.haya_yaml.specs.Block.{Cut, cut, cut_at, entries_of}

-- more lines before that belong to what stands above
abbrev pub with_front : Lines → Cut → Cut
with_front lines c = record { front = lines ++ c.front; entries = c.entries }

pub no_front : (c : Cut) → with_front [] c ≡ c
no_front c = refl

-- a line that belongs to what stands above
pub cut_own : (map dashes : Bool) (column : ℕ) (line : List ℕ) (lines : Lines) → belongs dashes column line ≡ true
    → cut map dashes column (line ∷ lines) ≡ with_front (line ∷ []) (cut map dashes column lines)
unfolding cut
cut_own map dashes column line lines own = ap (λ b. cut_at b dashes map column line lines (λ next. cut map next column lines)) own

-- one that begins an entry
pub cut_other : (map dashes : Bool) (column : ℕ) (line : List ℕ) (lines : Lines) → belongs dashes column line ≡ false
    → cut map dashes column (line ∷ lines) ≡ record { front = []; entries = entries_of map column (line ∷ lines) }
unfolding cut
cut_other map dashes column line lines other = ap (λ b. cut_at b dashes map column line lines (λ next. cut map next column lines)) other

pub cut_none : (map dashes : Bool) (column : ℕ) → cut map dashes column [] ≡ record { front = []; entries = [] }
unfolding cut
cut_none map dashes column = refl

-- one more line belongs to it
pub own_more : (map dashes : Bool) (column : ℕ) (ls : List (Bor (List ℕ))) (n : ℕ) (d : Bor (List ℕ)) → n < length ls → belongs dashes column (get_or ls n d).now ≡ true
    → cut map dashes column (texts ls) ≡ with_front (texts (take n ls)) (cut map dashes column (texts (drop n ls)))
    → cut map dashes column (texts ls) ≡ with_front (texts (take (n + 1) ls)) (cut map dashes column (texts (drop (n + 1) ls)))
own_more map dashes column ls n d within own so_far =
    let line = (get_or ls n d).now in
    let rest = texts (drop (n + 1) ls) in
    let step = at_drop_more (λ xs. cut map dashes column (texts xs)) ls n d within ∙ cut_own map dashes column line rest own in
    let longer : texts (take (n + 1) ls) ≡ texts (take n ls) ++ line ∷ [] = ap texts (take_more ls n d within) ∙ map-append (λ t. t.now) (take n ls) (get_or ls n d ∷ []) in
    let joined = append_assoc (texts (take n ls)) (line ∷ []) (cut map dashes column rest).front in
    so_far ∙ ap (with_front (texts (take n ls))) step
    ∙ ap (λ front. record { front = front; entries = (cut map dashes column rest).entries }) (sym joined)
    ∙ ap (λ front. with_front front (cut map dashes column rest)) (sym longer)

-- no more do
pub own_all : (map dashes : Bool) (column : ℕ) (ls : List (Bor (List ℕ))) (n : ℕ) (d : Bor (List ℕ)) → n < length ls → belongs dashes column (get_or ls n d).now ≡ false
    → cut map dashes column (texts ls) ≡ with_front (texts (take n ls)) (cut map dashes column (texts (drop n ls)))
    → cut map dashes column (texts ls) ≡ record { front = texts (take n ls); entries = entries_of map column (texts (drop n ls)) }
own_all map dashes column ls n d within other so_far =
    let line = (get_or ls n d).now in
    let rest = texts (drop (n + 1) ls) in
    let step = at_drop_more (λ xs. cut map dashes column (texts xs)) ls n d within ∙ cut_other map dashes column line rest other in
    so_far ∙ ap (with_front (texts (take n ls))) step
    ∙ ap (λ front. record { front = front; entries = entries_of map column (line ∷ rest) }) (append-nil (texts (take n ls)))
    ∙ ap (λ es. record { front = texts (take n ls); entries = es }) (sym (at_drop_more (λ xs. entries_of map column (texts xs)) ls n d within))

-- nothing is left
pub own_end : (map dashes : Bool) (column : ℕ) (ls : List (Bor (List ℕ))) (n : ℕ) → length ls ≤ n
    → cut map dashes column (texts ls) ≡ with_front (texts (take n ls)) (cut map dashes column (texts (drop n ls)))
    → cut map dashes column (texts ls) ≡ record { front = texts (take n ls); entries = entries_of map column (texts (drop n ls)) }
own_end map dashes column ls n all so_far =
    let none = drop_all n ls all in
    so_far ∙ ap (λ xs. with_front (texts (take n ls)) (cut map dashes column (texts xs))) none ∙ ap (with_front (texts (take n ls))) (cut_none map dashes column)
    ∙ ap (λ front. record { front = front; entries = [] }) (append-nil (texts (take n ls)))
    ∙ ap (λ xs. record { front = texts (take n ls); entries = entries_of map column (texts xs) }) (sym none)
