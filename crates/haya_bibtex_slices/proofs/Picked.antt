-- Items that are picked from others.
use Rattle.std.proofs.Common.{◌≡◌, ◌<◌, ◌+◌, ℕ, List, [], ◌∷◌, ◌++◌, Some, map, length, get_or, subst, sym, ap, ◌∙◌, arith, append-nil, append_assoc}
use Rattle.std.specs.Borrow.{Bor}
use Rattle.std.specs.Prelude.{Contains}
use Rattle.std.proofs.Math.ListN.{get_or-map}
use Rattle.std.proofs.lemmas.List.{length-map, map-append}
use Rattle.std.proofs.lemmas.List.Elements.{All-append, All-cons, All-nil, Contains-get_or}
use Rattle.haya_bibtex_slices.specs.Adding.{AddsCalled, AddsSome}
use Rattle.haya_bibtex_slices.specs.Items.{Item}
use Rattle.haya_bibtex_slices.specs.Views.{item_view}
use Rattle.haya_bibtex_slices.specs.declared.item.BibtexItem.{BibtexItem}

abbrev pub parts_of : List (Bor (List ℕ)) → List (List ℕ)
parts_of = map (λ s. s.now)

-- what is at a place is among all
pub contains_at : {X Y : Type 0} (f : X → Y) (xs : List X) (k : ℕ) (d : X) → k < length xs → Contains (map f xs) (f (get_or xs k d))
contains_at f xs k d within =
    let inside : k < length (map f xs) = omega (arith, length-map xs f) in
    subst (Contains (map f xs)) (get_or-map f xs k d) (Contains-get_or (map f xs) k (f d) inside)

pub none_more : (items : List Item) (parts : List (List ℕ)) → AddsSome items parts parts
none_more items parts = record { more = []; among = All-nil (Contains items); is = sym (append-nil parts) }

pub then_more : (items : List Item) (a b c : List (List ℕ)) → AddsSome items a b → AddsSome items b c → AddsSome items a c
then_more items a b c first second = record {
  more = first.more ++ second.more;
  among = All-append (Contains items) first.more second.more first.among second.among;
  is = second.is ∙ ap (λ ps. ps ++ map (λ i. i.part) second.more) first.is
      ∙ append_assoc a (map (λ i. i.part) first.more) (map (λ i. i.part) second.more)
      ∙ ap (λ ps. a ++ ps) (sym (map-append (λ i. i.part) first.more second.more));
}

pub at_place : (items : List BibtexItem) (k : ℕ) (d : BibtexItem) (old new : List (Bor (List ℕ))) → k < length items
    → new ≡ old ++ (get_or items k d).text ∷ [] → AddsSome (map item_view items) (parts_of old) (parts_of new)
at_place items k d old new within more = record {
  more = item_view (get_or items k d) ∷ [];
  among = All-cons (Contains (map item_view items)) (item_view (get_or items k d)) [] (contains_at item_view items k d within) (All-nil (Contains (map item_view items)));
  is = ap parts_of more ∙ map-append (λ s. s.now) old ((get_or items k d).text ∷ []);
}

pub called_from : (items : List BibtexItem) (k : ℕ) (x : BibtexItem) (key : List ℕ) (old new : List (Bor (List ℕ))) → k < length items
    → x ≡ get_or items k x → (item_view x).key ≡ Some key → new ≡ old ++ x.text ∷ [] → AddsCalled (map item_view items) key (parts_of old) (parts_of new)
called_from items k x key old new within at named more = record {
  item = item_view x;
  among = subst (λ i. Contains (map item_view items) (item_view i)) (sym at) (contains_at item_view items k x within);
  named = named;
  is = ap parts_of more ∙ map-append (λ s. s.now) old (x.text ∷ []);
}
