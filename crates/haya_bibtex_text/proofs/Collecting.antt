-- What the items of a text come to, one after another.
use Rattle.std.proofs.Common.{◌≡◌, ◌++◌, ◌⊎◌, List, ℕ, [], ◌∷◌, Ok, Err, inl, inr, ap, sym, ◌∙◌, append_assoc, append-nil}
use Rattle.haya_bibtex_text.specs.Bibliography.{BibliographyTexts, EntryTexts, Note, bibliography, bibliography_behind, bibliography_from, item_entries, item_notes, keys_behind, strings_behind}
use Rattle.haya_bibtex_text.specs.Items.{Fails, RawItem, Says}
use Rattle.haya_bibtex_text.specs.Names.{Names}
use Rattle.haya_bibtex_text.specs.Outcomes.{IsRefused, Reads, by_grammar, by_strings}
use Rattle.haya_bibtex_text.specs.Stops.{StopsBy}
use Rattle.haya_bibtex_text.specs.Strings.{Strings}
use Rattle.haya_bibtex_text.specs.Uses.{item_uses, room_of, spend, uses, uses_behind}
use Rattle.haya_bibtex_text.specs.declared.fault.Refusal.{Refusal}
use Rattle.haya_bibtex_text.specs.declared.fault.Stop.{Stop}
use Rattle.haya_bibtex_text.specs.declared.fault.Stop.TheVariants as stop
use Rattle.haya_bibtex_text.proofs.Spending.{spend_fails, spend_on}
use Rattle.haya_bibtex_text.proofs.Stopping.{stops_whole}

-- what there is so far, and what comes of the items that are left, is what comes of all
pub record Collected (text left : List ℕ) (ss : Strings) (keys : Names) (room : ℕ) (es : List EntryTexts) (ns : List Note) : Type 0 where
  pub done : List RawItem
  pub said : (is : List RawItem) → Says left is → Says text (done ++ is)
  pub come_to : (is : List RawItem) → bibliography_from es ns (bibliography_behind ss keys is) ≡ bibliography (done ++ is)
  pub spent : (is : List RawItem) → spend room (uses_behind ss keys is) ≡ spend (room_of text) (uses (done ++ is))
  pub fault : (f : Refusal) → Fails left f → Fails text f

-- an item is the next
abbrev pub IsNext : List ℕ → List ℕ → RawItem → Type 0
IsNext left rest i = (is : List RawItem) → Says rest is → Says left (i ∷ is)

come_to_more : (es : List EntryTexts) (ns : List Note) (ss : Strings) (keys : Names) (i : RawItem) (is : List RawItem)
    → bibliography_from es ns (bibliography_behind ss keys (i ∷ is))
    ≡ bibliography_from (es ++ item_entries ss keys i) (ns ++ item_notes ss keys i) (bibliography_behind (strings_behind ss i) (keys_behind keys i) is)
come_to_more es ns ss keys i is =
    let b = bibliography_behind (strings_behind ss i) (keys_behind keys i) is in
    let entries = append_assoc es (item_entries ss keys i) b.entries in
    let notes = append_assoc ns (item_notes ss keys i) b.passed_over in
    cc

pub collected_next : (text left rest : List ℕ) (ss ss' : Strings) (keys keys' : Names) (room room' : ℕ) (es es' : List EntryTexts) (ns ns' : List Note) (i : RawItem)
    → Collected text left ss keys room es ns → IsNext left rest i → ((f : Refusal) → Fails rest f → Fails left f)
    → ss' ≡ strings_behind ss i → keys' ≡ keys_behind keys i → es' ≡ es ++ item_entries ss keys i → ns' ≡ ns ++ item_notes ss keys i
    → spend room (item_uses ss keys i) ≡ Ok room' → Collected text rest ss' keys' room' es' ns'
collected_next text left rest ss ss' keys keys' room room' es es' ns ns' i so_far next later s k e n spends =
    rw (s, k, e, n) (record {
      done = so_far.done ++ (i ∷ []);
      said = λ is v. rw (append_assoc so_far.done (i ∷ []) is) (so_far.said (i ∷ is) (next is v));
      come_to = λ is.
          sym (come_to_more es ns ss keys i is) ∙ so_far.come_to (i ∷ is) ∙ ap bibliography (sym (append_assoc so_far.done (i ∷ []) is));
      spent = λ is.
          sym (spend_on (item_uses ss keys i) (uses_behind (strings_behind ss i) (keys_behind keys i) is) room room' spends)
          ∙ so_far.spent (i ∷ is) ∙ ap (λ v. spend (room_of text) (uses v)) (sym (append_assoc so_far.done (i ∷ []) is));
      fault = λ f h. so_far.fault f (later f h);
    })

-- all are read
pub collected_all : (text left : List ℕ) (ss : Strings) (keys : Names) (room : ℕ) (es : List EntryTexts) (ns : List Note) (b : BibliographyTexts)
    → Collected text left ss keys room es ns → Says left [] → b ≡ record { entries = es; passed_over = ns } → Reads text b
collected_all text left ss keys room es ns b so_far end is = record {
  items = so_far.done ++ [];
  said = so_far.said [] end;
  room = room;
  fits = sym (so_far.spent []);
  is =
      let entries = append-nil es in
      let notes = append-nil ns in
      let whole : record { entries = es; passed_over = ns } ≡ bibliography_from es ns (bibliography_behind ss keys []) = cc in
      is ∙ whole ∙ so_far.come_to [];
}

-- a fault of the grammar
pub refused_by_grammar : (text left : List ℕ) (ss : Strings) (keys : Names) (room : ℕ) (es : List EntryTexts) (ns : List Note)
    → Collected text left ss keys room es ns → (e : Stop) → StopsBy (Fails left) e → StopsBy (IsRefused text) e
refused_by_grammar text left ss keys room es ns so_far e h =
    stops_whole (Fails left) (IsRefused text) (λ f fails. by_grammar (so_far.fault f fails)) e h

-- a fault behind an item, or else the item's own
pub refused_first : (text left rest : List ℕ) (ss : Strings) (keys : Names) (room : ℕ) (es : List EntryTexts) (ns : List Note) (i : RawItem) (own first : Stop)
    → Collected text left ss keys room es ns → IsNext left rest i → ((f : Refusal) → Fails rest f → Fails left f)
    → StopsBy (λ f. spend room (item_uses ss keys i) ≡ Err f) own
    → StopsBy (λ f. Fails rest f ⊎ (((is : List RawItem) × Says rest is) × (own ≡ stop.Refused f))) first
    → StopsBy (IsRefused text) first
refused_first text left rest ss keys room es ns i own first so_far next later fails h =
    stops_whole (λ f. Fails rest f ⊎ (((is : List RawItem) × Says rest is) × (own ≡ stop.Refused f))) (IsRefused text) (λ f. refused f) first h
  where
    own_fault : (f : Refusal) → own ≡ stop.Refused f → spend room (item_uses ss keys i) ≡ Err f
    own_fault f e = rw e at fails

    refused : (f : Refusal) → Fails rest f ⊎ (((is : List RawItem) × Says rest is) × (own ≡ stop.Refused f)) → IsRefused text f
    refused f (inl grammar) = by_grammar (so_far.fault f (later f grammar))
    refused f (inr ((is, says), e)) =
        by_strings (so_far.said (i ∷ is) (next is says))
        (sym (so_far.spent (i ∷ is)) ∙ spend_fails (item_uses ss keys i) (uses_behind (strings_behind ss i) (keys_behind keys i) is) room f (own_fault f e))
