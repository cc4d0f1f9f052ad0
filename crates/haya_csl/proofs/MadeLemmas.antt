-- What is made of items, an item at a time, and in the end.
use Rattle.std.proofs.Common.{◌≡◌, ℕ, ◌+◌, List, [], ◌∷◌, Option, None, Some, refl, ap, ◌∙◌}
use Rattle.json.specs.Json.{Json, Items, no_items, item, array, parse_map, document, if_last}
use Rattle.json.specs.Lex.{tokens}
use Rattle.json.specs.Token.{Token}
use Rattle.haya_csl.specs.Made.{IsMadeOf, IsMadeOfNone, IsMadeOfText, TakesItem}
use Rattle.haya_csl.specs.Turns.{items_left, list_document}
use Rattle.haya_csl.specs.declared.item_key.ItemKey.{ItemKey}
use Rattle.haya_csl.specs.declared.turns.Made.{Made}
use Rattle.haya_csl.proofs.ListTurns.{document-list}

pub none_taken : (by : ItemKey) (list : Option (Items × List Token)) (made : Made) → IsMadeOfNone made → IsMadeOf by list list 0 made
none_taken by None made h = refl
none_taken by (Some l) made h = (l.0, refl, h by l.0)

pub one_more_taken : (by : ItemKey) (list left : Option (Items × List Token)) (j : Json) (place : ℕ) (old new : Made) → TakesItem by j place old new → IsMadeOf by (parse_map (item j) left) list place old
    → IsMadeOf by left list (place + 1) new
one_more_taken by list None j place old new more h = h
one_more_taken by list (Some left) j place old new more h = (h.0, h.1, more left.0 h.0 h.2)

module _ (by : ItemKey) (text : List ℕ) (ts : List Token) (opened : tokens text ≡ Token.begin_array ∷ ts) where
  pub no_document : items_left ts ≡ None → document text ≡ None
  no_document none = document-list text ts opened ∙ ap list_document none

  module _ (left : List Token) (place : ℕ) (made : Made) (h : IsMadeOf by (Some (no_items, left)) (items_left ts) place made) where
    pub no_document_before : (t : Token) (more : List Token) → left ≡ t ∷ more → document text ≡ None
    no_document_before t more is = document-list text ts opened ∙ ap list_document h.1 ∙ ap (if_last (array h.0)) is

    pub made_of_text : left ≡ [] → IsMadeOfText by text made
    made_of_text is = record {
      list = h.0;
      place = place;
      parsed = document-list text ts opened ∙ ap list_document h.1 ∙ ap (if_last (array h.0)) is;
      of_all = h.2;
    }
