-- The elements of a text are parts of it.
use Rattle.std.proofs.Common.{◌≡◌, ℕ, List, [], ◌∷◌, ◌++◌, refl, sym, ap, ◌∙◌, append_assoc}
use Rattle.std.specs.List.{AllByRecursion}
use Rattle.haya_json_elements.specs.Steps.{closing_bracket, opening_bracket}
use Rattle.haya_json_elements.specs.declared.place.Brackets.{Brackets}
use Rattle.haya_slices.specs.Layout.{AreSeparated, IsLaidOut, IsPartOf}

-- bytes in front of a text
pub behind : (part more text front : List ℕ) → text ≡ front ++ more → IsPartOf part more
    → IsPartOf part text
behind part more text front is p = record {
  front = front ++ p.front;
  back = p.back;
  is = is ∙ ap (λ l. front ++ l) p.is ∙ sym (append_assoc front p.front (part ++ p.back));
}

-- bytes behind it
pub before : (part first text back : List ℕ) → text ≡ first ++ back → IsPartOf part first
    → IsPartOf part text
before part first text back is p = record {
  front = p.front;
  back = p.back ++ back;
  is = is ∙ ap (λ l. l ++ back) p.is ∙ append_assoc p.front (part ++ p.back) back
      ∙ ap (λ l. p.front ++ l) (append_assoc part p.back back);
}

pub all_behind : (parts : List (List ℕ)) (more text front : List ℕ) → text ≡ front ++ more
    → AllByRecursion (λ part. IsPartOf part more) parts
    → AllByRecursion (λ part. IsPartOf part text) parts
all_behind [] more text front is h = tt
all_behind (p ∷ ps) more text front is h =
    (behind p more text front is h.0, all_behind ps more text front is h.1)

pub all_before : (parts : List (List ℕ)) (first text back : List ℕ) → text ≡ first ++ back
    → AllByRecursion (λ part. IsPartOf part first) parts
    → AllByRecursion (λ part. IsPartOf part text) parts
all_before [] first text back is h = tt
all_before (p ∷ ps) first text back is h =
    (before p first text back is h.0, all_before ps first text back is h.1)

-- parts between commas
separated : (parts : List (List ℕ)) (text : List ℕ) → AreSeparated parts text
    → AllByRecursion (λ part. IsPartOf part text) parts
separated [] text h = tt
separated (p ∷ []) text h = (record { front = h.front; back = h.back; is = h.is }, tt)
separated (p ∷ (q ∷ ps)) text h =
    let first = h.0 in
    let more = h.1 in
    let here : IsPartOf p first = record { front = h.3.front; back = h.3.back; is = h.3.is } in
    let rest = separated (q ∷ ps) more h.4 in (
      before p first text (44 ∷ more) h.2 here,
      all_behind (q ∷ ps) more text (first ++ 44 ∷ [])
          (h.2 ∙ sym (append_assoc first (44 ∷ []) more)) rest,
    )

pub parts_of_list : (b : Brackets) (text : List ℕ) (parts : List (List ℕ)) → IsLaidOut b text parts
    → AllByRecursion (λ part. IsPartOf part text) parts
parts_of_list b text parts h =
    all_behind parts (opening_bracket b ∷ (h.list ++ closing_bracket b ∷ h.back)) text h.front h.is
    (all_behind parts (h.list ++ closing_bracket b ∷ h.back)
    (opening_bracket b ∷ (h.list ++ closing_bracket b ∷ h.back)) (opening_bracket b ∷ []) refl
    (all_before parts h.list (h.list ++ closing_bracket b ∷ h.back) (closing_bracket b ∷ h.back)
    refl (separated parts h.list h.separated)))
