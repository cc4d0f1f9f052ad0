-- Lines with the same tokens are the same elements, and a list that is printed is laid out.
use Rattle.std.proofs.Common.{◌≡◌, ℕ, false, List, [], ◌∷◌, ◌++◌, map, refl, sym, ap, ◌∙◌, append-nil, append_assoc}
use Rattle.std.specs.List.{AllByRecursion}
use Rattle.json.specs.Json.{Items, no_items, item, Members, no_members, member, value}
use Rattle.json.specs.Lex.{tokens}
use Rattle.haya_json_elements.specs.Elements.{AreItems, AreMembers}
use Rattle.haya_json_elements.specs.Steps.{closing_bracket, opening_bracket}
use Rattle.haya_json_elements.specs.declared.place.Brackets.{Brackets}
use Rattle.haya_slices.specs.Layout.{AreSeparated, IsElement, IsLaidOut, list_text, text_from}

pub same_items : (ls ps : List (List ℕ)) (js : Items) → map tokens ls ≡ map tokens ps
    → AreItems ls js → AreItems ps js
same_items [] [] js e h = h
same_items [] (p ∷ ps) js e h = absurd cc
same_items (l ∷ ls) [] js e h = absurd cc
same_items (l ∷ ls) (p ∷ ps) no_items e h = absurd h
same_items (l ∷ ls) (p ∷ ps) (item j js) e h =
    let first : tokens l ≡ tokens p = cc in
    let rest : map tokens ls ≡ map tokens ps = cc in
    (ap (value 127) (sym first) ∙ h.0, same_items ls ps js rest h.1)

pub same_members : (ls ps : List (List ℕ)) (ms : Members) → map tokens ls ≡ map tokens ps
    → AreMembers ls ms → AreMembers ps ms
same_members [] [] ms e h = h
same_members [] (p ∷ ps) ms e h = absurd cc
same_members (l ∷ ls) [] ms e h = absurd cc
same_members (l ∷ ls) (p ∷ ps) no_members e h = absurd h
same_members (l ∷ ls) (p ∷ ps) (member k j ms) e h =
    let first : tokens l ≡ tokens p = cc in
    let rest : map tokens ls ≡ map tokens ps = cc in (
      record { left = h.0.left; named = sym first ∙ h.0.named; said = h.0.said },
      same_members ls ps ms rest h.1,
    )

-- ---- a list that is printed

-- what is between the brackets, behind a part
inner : List (List ℕ) → List ℕ
inner [] = 10 ∷ []
inner (p ∷ ps) = 44 ∷ 10 ∷ (p ++ inner ps)

text_from-inner : (b : Brackets) (ps : List (List ℕ))
    → text_from b false ps ≡ inner ps ++ closing_bracket b ∷ 10 ∷ []
unfolding inner
text_from-inner b [] = refl
text_from-inner b (p ∷ ps) =
    ap (λ t. 44 ∷ 10 ∷ t)
    (ap (λ t. p ++ t) (text_from-inner b ps)
    ∙ sym (append_assoc p (inner ps) (closing_bracket b ∷ 10 ∷ [])))

separated : (p : List ℕ) (ps : List (List ℕ)) → AreSeparated (p ∷ ps) (10 ∷ (p ++ inner ps))
unfolding inner
separated p [] =
    record { front = 10 ∷ []; back = 10 ∷ []; is = refl; before = (refl, tt); behind = (refl, tt) }
separated p (q ∷ ps) = (
  10 ∷ p,
  10 ∷ (q ++ inner ps),
  refl,
  record {
    front = 10 ∷ [];
    back = [];
    is = ap (λ t. 10 ∷ t) (sym (append-nil p));
    before = (refl, tt);
    behind = tt;
  },
  separated q ps,
)

pub list_laid_out : (b : Brackets) (parts : List (List ℕ)) → AllByRecursion (IsElement b) parts
    → IsLaidOut b (list_text b parts) parts
list_laid_out b [] h =
    record {
      front = [];
      list = [];
      back = 10 ∷ [];
      is = refl;
      before = tt;
      behind = (refl, tt);
      separated = tt;
      elements = h;
    }
list_laid_out b (p ∷ ps) h =
    record {
      front = [];
      list = 10 ∷ (p ++ inner ps);
      back = 10 ∷ [];
      is = ap (λ t. opening_bracket b ∷ 10 ∷ t)
          (ap (λ t. p ++ t) (text_from-inner b ps)
          ∙ sym (append_assoc p (inner ps) (closing_bracket b ∷ 10 ∷ [])));
      before = tt;
      behind = (refl, tt);
      separated = separated p ps;
      elements = h;
    }
