-- Items that are picked for hits.
use Rattle.std.proofs.Common.{◌≡◌, ℕ, List, [], ◌∷◌, ◌++◌, Some, map, sym, ap, ◌∙◌, append-nil, append_assoc}
use Rattle.std.specs.Prelude.{Contains, filter}
use Rattle.std.proofs.lemmas.List.{map-append}
use Rattle.std.proofs.lemmas.List.Elements.{All-append, All-nil, All-push}
use Rattle.hayagriva.specs.Library.{key_of}
use Rattle.hayagriva.specs.Query.{hit_entry}
use Rattle.hayagriva.specs.declared.query.Hit.{Hit}
use Rattle.haya_bibtex_slices.specs.Adding.{AddsCalled, AddsSome}
use Rattle.haya_bibtex_slices.specs.Items.{Item}
use Rattle.haya_bibtex_slices.specs.Printed.{AddsPicked, IsPickedText, SaysHits}
use Rattle.haya_bibtex_slices.specs.Texts.{is_definition, items_text}
use Rattle.haya_bibtex_slices.proofs.InOrder.{zip_more}

pub none_picked : (items : List Item) (parts : List (List ℕ)) → AddsPicked items [] parts parts
none_picked items parts =
    record { picked = []; among = All-nil (Contains items); each = tt; is = sym (append-nil parts) }

pub picked_more : (items : List Item) (hits : List Hit) (hit : Hit) (a b c : List (List ℕ)) → AddsPicked items hits a b
    → AddsCalled items (key_of (hit_entry hit)) b c → AddsPicked items (hits ++ hit ∷ []) a c
picked_more items hits hit a b c before called = record {
  picked = before.picked ++ called.item ∷ [];
  among = All-push (Contains items) before.picked called.item before.among called.among;
  each = zip_more (λ h item. item.key ≡ Some (key_of (hit_entry h))) hits before.picked hit called.item before.each called.named;
  is = called.is ∙ ap (λ ps. ps ++ called.item.part ∷ []) before.is
      ∙ append_assoc a (map (λ i. i.part) before.picked) (called.item.part ∷ [])
      ∙ ap (λ ps. a ++ ps) (sym (map-append (λ i. i.part) before.picked (called.item ∷ [])));
}

pub put_together : (items : List Item) (hits : List Hit) (defined picked all : List (List ℕ)) (text : List ℕ)
    → defined ≡ map (λ i. i.part) (filter is_definition items) → AddsPicked items hits defined picked → AddsSome items picked all
    → text ≡ items_text all → SaysHits text hits → IsPickedText items hits text
put_together items hits defined picked all text definitions found sources is says = record {
  picked = found.picked;
  more = sources.more;
  among = All-append (Contains items) found.picked sources.more found.among sources.among;
  each = found.each;
  is = is ∙ ap items_text (whole ∙ sym joined);
  says = says;
}
  where
    whole : all ≡ map (λ i. i.part) (filter is_definition items) ++ (map (λ i. i.part) found.picked ++ map (λ i. i.part) sources.more)
    whole =
        sources.is ∙ ap (λ ps. ps ++ map (λ i. i.part) sources.more) (found.is ∙ ap (λ ps. ps ++ map (λ i. i.part) found.picked) definitions)
        ∙ append_assoc (map (λ i. i.part) (filter is_definition items)) (map (λ i. i.part) found.picked) (map (λ i. i.part) sources.more)

    joined : map (λ i. i.part) (filter is_definition items ++ (found.picked ++ sources.more))
        ≡ map (λ i. i.part) (filter is_definition items) ++ (map (λ i. i.part) found.picked ++ map (λ i. i.part) sources.more)
    joined =
        map-append (λ i. i.part) (filter is_definition items) (found.picked ++ sources.more)
        ∙ ap (λ ps. map (λ i. i.part) (filter is_definition items) ++ ps) (map-append (λ i. i.part) found.picked sources.more)
