-- Items of texts, one behind the other.
use Rattle.std.proofs.Common.{◌≡◌, ◌+◌, ◌<◌, ◌≤◌, get_or, length, ℕ, List, [], ◌∷◌, ◌++◌, take, drop, map, flat_map, refl, sym, ap, ap₂, ◌∙◌, subst, append_assoc, append-nil, take-append-drop}
use Rattle.std.specs.Borrow.{Bor}
use Rattle.std.specs.List.{AllZip}
use Rattle.std.specs.Prelude.{All}
use Rattle.std.proofs.lemmas.List.{map-append, take_all, take_more}
use Rattle.std.proofs.lemmas.List.Elements.{All-push}
use Rattle.std.proofs.lemmas.Grind.{flat_map-append}
use Rattle.haya_bibtex_slices.specs.Items.{AreInOrder, AreItemsIn, AreItemsOf, Item, Says}

-- a part behind a gap
abbrev pub IsCut : List ℕ → List ℕ → List ℕ → Type 0
IsCut text part behind = (gap : List ℕ) × (text ≡ gap ++ (part ++ behind))

pub cut_twice : (text more part behind : List ℕ) (n k : ℕ) → more ≡ drop n text → part ≡ take k more → behind ≡ drop k more → IsCut text part behind
cut_twice text more part behind n k is first second =
    let split : more ≡ part ++ behind = sym (ap₂ (λ a b. a ++ b) first second ∙ take-append-drop k more) in
    (take n text, sym (take-append-drop n text) ∙ ap (λ t. take n text ++ t) (sym is ∙ split))

-- these items, and any of what is left, are those of the text
abbrev pub Continues : List ℕ → List Item → List ℕ → Type 0
Continues text items rest = (is : List Item) → AreInOrder is rest → AreInOrder (items ++ is) text

pub none_yet : (text : List ℕ) → Continues text [] text
none_yet text is h = h

pub one_more : (text rest behind : List ℕ) (items new : List Item) (i : Item) → Continues text items rest → IsCut rest i.part behind → new ≡ items ++ i ∷ []
    → Continues text new behind
one_more text rest behind items new i so_far (gap, split) more is h =
    rw (more, append_assoc items (i ∷ []) is) (so_far (i ∷ is) (gap, behind, split, h))

-- the same of an item whose bytes are a part
pub item_cut : (text rest part behind : List ℕ) (items new : List Item) (i : Item) → Continues text items rest → IsCut rest part behind → i.part ≡ part
    → new ≡ items ++ i ∷ [] → Continues text new behind
item_cut text rest part behind items new i so_far (gap, split) same more =
    one_more text rest behind items new i so_far (gap, split ∙ ap (λ p. gap ++ (p ++ behind)) (sym same)) more

pub item_pushed : (items new : List Item) (i : Item) → All Says items → Says i → new ≡ items ++ i ∷ [] → All Says new
item_pushed items new i all says is = subst (All Says) (sym is) (All-push Says items i all says)

pub all_of : (text rest : List ℕ) (items : List Item) → Continues text items rest → AreInOrder items text
all_of text rest items so_far = subst (λ is. AreInOrder is text) (append-nil items) (so_far [] tt)

-- ---- texts one behind the other

pub zip_more : {A B : Type 0} (R : A → B → Type 0) (xs : List A) (ys : List B) (x : A) (y : B) → AllZip R xs ys → R x y → AllZip R (xs ++ x ∷ []) (ys ++ y ∷ [])
zip_more R [] [] x y all r = (r, tt)
zip_more R [] (z ∷ ys) x y all r = absurd all
zip_more R (w ∷ xs) [] x y all r = absurd all
zip_more R (w ∷ xs) (z ∷ ys) x y all r = (all.0, zip_more R xs ys x y all.1 r)

pub no_texts : AreItemsIn [] []
no_texts = record { of_texts = []; each = tt; all = refl }

pub text_more : (texts : List (List ℕ)) (text : List ℕ) (items more : List Item) → AreItemsIn texts items → AreItemsOf text more → AreItemsIn (texts ++ text ∷ []) (items ++ more)
text_more texts text items more are of = record {
  of_texts = are.of_texts ++ more ∷ [];
  each = zip_more AreItemsOf texts are.of_texts text more are.each of;
  all = ap (λ is. is ++ more) are.all
      ∙ sym (flat_map-append (λ is. is) are.of_texts (more ∷ []) ∙ ap (λ is. flat_map (λ is. is) are.of_texts ++ is) (append-nil more));
}

abbrev pub texts_of : List (Bor (List ℕ)) → List (List ℕ)
texts_of = map (λ s. s.now)

pub texts_more : (texts : List (Bor (List ℕ))) (n : ℕ) (d : Bor (List ℕ)) (items more new : List Item) → n < length texts → AreItemsIn (texts_of (take n texts)) items
    → AreItemsOf (get_or texts n d).now more → new ≡ items ++ more → AreItemsIn (texts_of (take (n + 1) texts)) new
texts_more texts n d items more new within are of is =
    let taken : texts_of (take (n + 1) texts) ≡ texts_of (take n texts) ++ (get_or texts n d).now ∷ [] =
    ap texts_of (take_more texts n d within) ∙ map-append (λ s. s.now) (take n texts) (get_or texts n d ∷ []) in
    subst (AreItemsIn (texts_of (take (n + 1) texts))) (sym is)
    (subst (λ ts. AreItemsIn ts (items ++ more)) (sym taken) (text_more (texts_of (take n texts)) (get_or texts n d).now items more are of))

pub all_texts : (texts : List (Bor (List ℕ))) (n : ℕ) (items : List Item) → length texts ≤ n → AreItemsIn (texts_of (take n texts)) items → AreItemsIn (texts_of texts) items
all_texts texts n items end are = subst (λ ts. AreItemsIn (texts_of ts) items) (take_all n texts end) are
