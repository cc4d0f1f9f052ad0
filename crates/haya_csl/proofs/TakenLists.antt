-- Entries that are taken one after another are those of a list.
use Rattle.std.proofs.Common.{◌≡◌, ℕ, List, [], ◌∷◌, Option, None, Some, refl, sym, ap, ◌∙◌}
use Rattle.std.specs.List.{FoldsTo}
use Rattle.json.specs.Json.{Json, Items, no_items, item, array, parse_map, document}
use Rattle.json.specs.Lex.{tokens}
use Rattle.json.specs.Strict.{ItemsHaveUniqueKeys}
use Rattle.json.specs.Token.{Token}
use Rattle.haya_entry.specs.Tree.{Tree}
use Rattle.haya_json.specs.Notes.{NotesView, all_kept, kept_of, none_kept}
use Rattle.haya_json.specs.Told.{told_alone}
use Rattle.haya_json.proofs.NotesKept.{kept_from_none, kept_together}
use Rattle.haya_csl.specs.ItemLines.{ItemsSay}
use Rattle.haya_csl.specs.Items.{item_said}
use Rattle.haya_csl.specs.Taken.{TakesItems, TakesList, TakesOne}
use Rattle.haya_csl.specs.Turns.{items_left, list_document}
use Rattle.haya_csl.specs.declared.item_key.ItemKey.{ItemKey}
use Rattle.haya_csl.proofs.ItemLists.{alone_told, told_of_entries}
use Rattle.haya_csl.proofs.ListTurns.{document-list}

module _ {T : Type 0} (takes : T → Tree → T → Type 0) (by : ItemKey) where
  -- Items are taken where those that are left of them are.
  abbrev pub TakesBut : Items → Items → NotesView → NotesView → T → T → Type 0
  TakesBut left list noted kept before after =
      (more : NotesView) (last : T) → TakesItems takes by left kept more after last → TakesItems takes by list noted more before last

  -- the same of a list that is read from tokens, and of what is left of it, where that is a list
  abbrev pub TakesFirst : Option (Items × List Token) → Option (Items × List Token) → NotesView → NotesView → T → T → Type 0
  TakesFirst None list noted kept before after = Unit {0}
  TakesFirst (Some left) list noted kept before after = (js : Items) × (list ≡ Some (js, left.1)) × TakesBut left.0 js noted kept before after

  -- nothing is taken yet
  pub none_taken : (list : Option (Items × List Token)) (noted : NotesView) (s : T) → TakesFirst list list noted noted s s
  none_taken None noted s = tt
  none_taken (Some l) noted s = (l.0, refl, λ more last all. all)

  -- one more item is taken
  pub one_more_taken : (list left : Option (Items × List Token)) (j : Json) (noted kept between : NotesView) (s t u : T) → TakesOne takes by j kept between t u
      → TakesFirst (parse_map (item j) left) list noted kept s t → TakesFirst left list noted between s u
  one_more_taken list None j noted kept between s t u one h = tt
  one_more_taken list (Some left) j noted kept between s t u one h = (h.0, h.1, λ more last all. h.2 more last (between, u, one, all))

  -- items that are taken say entries, which are taken in turn
  record AreTaken (js : Items) (noted kept : NotesView) (s t : T) : Type 0 where
    entries : List Tree
    read : ItemsSay by js entries
    unique : ItemsHaveUniqueKeys js
    told : kept ≡ all_kept (alone_told by js) noted
    run : FoldsTo takes s entries t

  entries_taken : (js : Items) (noted kept : NotesView) (s t : T) → TakesItems takes by js noted kept s t → AreTaken js noted kept s t
  unfolding alone_told
  entries_taken no_items noted kept s t all = record { entries = []; read = tt; unique = tt; told = all.0; run = sym all.1 }
  entries_taken (item j js) noted kept s t all =
      let one = all.2 in
      let rest = entries_taken js all.0 kept all.1 t all.3 in
      record {
        entries = one.entry ∷ rest.entries;
        read = (one.said, rest.read);
        unique = (one.unique, rest.unique);
        told = rest.told ∙ ap (all_kept (alone_told by js)) one.told ∙ sym (kept_together (told_alone (item_said by j)) (alone_told by js) noted);
        run = (all.1, one.taken, rest.run);
      }

  -- the items of a text whose tokens are read to their end are those of a list
  pub list_taken : (text : List ℕ) (ts : List Token) (js : Items) (kept : NotesView) (s t : T) → tokens text ≡ Token.begin_array ∷ ts → items_left ts ≡ Some (js, []) → TakesItems takes by js none_kept kept s t
      → TakesList takes by text kept s t
  list_taken text ts js kept s t opened left all =
      let are = entries_taken js none_kept kept s t all in
      let parsed : document text ≡ Some (array js) = document-list text ts opened ∙ ap list_document left in
      record {
        entries = are.entries;
        list = record { items = js; parsed = parsed; unique = are.unique; read = are.read };
        told = λ distinct. rw parsed (are.told ∙ kept_from_none (alone_told by js) ∙ ap kept_of (sym (told_of_entries by js [] are.entries are.read distinct)));
        run = are.run;
      }
