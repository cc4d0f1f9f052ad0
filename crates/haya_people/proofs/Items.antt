-- The items of a given name that are written so far.
use Rattle.std.proofs.Common.{◌≡◌, ℕ, Bor, List, [], ◌∷◌, ◌++◌, map, refl, ap, sym, ◌∙◌, append_assoc}
use Rattle.std.proofs.lemmas.List.{map-append}
use Rattle.std.specs.List.{join_with_byte}
use Rattle.haya_people.specs.FirstName.{delimiter_behind}
use Rattle.haya_people.specs.Signs.{blank}

abbrev pub joined_items : List ℕ → List (List ℕ) → List ℕ
joined_items delimiter items = join_with_byte blank (map (λ item. item ++ delimiter_behind delimiter item) items)

-- what stands before one more item
abbrev pub separator_behind : List (List ℕ) → List ℕ
separator_behind [] = []
separator_behind (item ∷ items) = blank ∷ []

pub joined_items-push : (delimiter : List ℕ) (items : List (List ℕ)) (item : List ℕ) → joined_items delimiter (items ++ item ∷ []) ≡ joined_items delimiter items ++ (separator_behind items ++ (item ++ delimiter_behind delimiter item))
joined_items-push delimiter [] item = refl
joined_items-push delimiter (x ∷ []) item = refl
joined_items-push delimiter (x ∷ y ∷ items) item =
    ap (λ t. (x ++ delimiter_behind delimiter x) ++ blank ∷ t) (joined_items-push delimiter (y ∷ items) item)
    ∙ sym (append_assoc (x ++ delimiter_behind delimiter x) (blank ∷ joined_items delimiter (y ∷ items)) _)

pub separator-push : (items : List (List ℕ)) (item : List ℕ) → separator_behind (items ++ item ∷ []) ≡ blank ∷ []
separator-push [] item = refl
separator-push (x ∷ items) item = refl

-- one more item is written, with what stands before and behind it
pub items_more : (delimiter : List ℕ) (items : List (Bor (List ℕ))) (item : Bor (List ℕ)) (sep behind : List ℕ) → sep ≡ separator_behind (map (λ t. t.now) items) → behind ≡ delimiter_behind delimiter item.now
    → joined_items delimiter (map (λ t. t.now) items) ++ (sep ++ (item.now ++ behind)) ≡ joined_items delimiter (map (λ t. t.now) (items ++ item ∷ []))
items_more delimiter items item sep behind s b =
    let texts : List (List ℕ) = map (λ t. t.now) items in
    ap (λ l. joined_items delimiter texts ++ (l ++ (item.now ++ behind))) s ∙ ap (λ l. joined_items delimiter texts ++ (separator_behind texts ++ (item.now ++ l))) b
    ∙ sym (joined_items-push delimiter texts item.now) ∙ ap (joined_items delimiter) (sym (map-append (λ t. t.now) items (item ∷ [])))

pub separator_more : (items : List (Bor (List ℕ))) (item : Bor (List ℕ)) → blank ∷ [] ≡ separator_behind (map (λ t. t.now) (items ++ item ∷ []))
separator_more items item = sym (ap separator_behind (map-append (λ t. t.now) items (item ∷ [])) ∙ separator-push (map (λ t. t.now) items) item.now)
