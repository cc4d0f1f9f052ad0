-- The items of a text are parts of it.
use Rattle.std.proofs.Common.{◌≡◌, ℕ, List, [], ◌∷◌, ◌++◌, sym, ap, ◌∙◌, append_assoc}
use Rattle.std.specs.Prelude.{All}
use Rattle.std.proofs.lemmas.List.Elements.{All-cons, All-nil, All-weaker}
use Rattle.haya_slices.specs.Layout.{IsPartOf}
use Rattle.haya_bibtex_slices.specs.Items.{AreInOrder, Item}

-- a part of what is behind a front
behind_front : (part rest text front : List ℕ) → text ≡ front ++ rest → IsPartOf part rest → IsPartOf part text
behind_front part rest text front is part_of = record {
  front = front ++ part_of.front;
  back = part_of.back;
  is = is ∙ ap (λ t. front ++ t) part_of.is ∙ sym (append_assoc front part_of.front (part ++ part_of.back));
}

pub parts_in_order : (items : List Item) (text : List ℕ) → AreInOrder items text → All (λ i. IsPartOf i.part text) items
parts_in_order [] text h = All-nil (λ i. IsPartOf i.part text)
parts_in_order (i ∷ is) text (gap, behind, split, h) =
    let P : Item → Type 0 = λ j. IsPartOf j.part text in
    let whole : text ≡ (gap ++ i.part) ++ behind = split ∙ sym (append_assoc gap i.part behind) in
    All-cons P i is (record { front = gap; back = behind; is = split })
    (All-weaker (λ j. IsPartOf j.part behind) P (λ j of. behind_front j.part behind text (gap ++ i.part) whole of) is (parts_in_order is behind h))
