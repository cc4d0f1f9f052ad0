-- The library of the entries that a text lists, an item a line, and what is told of it.
use Rattle.std.proofs.Common.{◌≡◌, ℕ, ◌+◌, Bool, true, false, ◌&&◌, List, [], ◌∷◌, ◌++◌, None, Some, Result, Ok, Err, flat_map, refl, sym, ap, ◌∙◌, subst, append_assoc}
use Rattle.std.specs.Prelude.{find, fold}
use Rattle.std.specs.List.{AllZip, list_any}
use Rattle.std.proofs.lemmas.Bool.{or_parts}
use Rattle.std.proofs.lemmas.Slice.Eq.{bytes_eq-Decides}
use Rattle.json.specs.Json as json
use Rattle.json.specs.Json.{Json, Items, array, document}
use Rattle.json.specs.Strict.{HasUniqueKeys, ItemsHaveUniqueKeys}
use Rattle.haya_json_elements.specs.Elements.{AreItems, elements}
use Rattle.haya_json_elements.specs.declared.place.Brackets.TheVariants.{Square}
use Rattle.haya_json_elements.proofs.Complete.{items-of-array}
use Rattle.haya_json_elements.proofs.Documents.{document_of_items}
use Rattle.haya_entry.specs.Tree.{Tree}
use Rattle.hayagriva.specs.Library.{AreDistinct, from_entries, get, has_key, key_of, push}
use Rattle.hayagriva.proofs.Parts.{AreApart-distinct, from_entries-distinct}
use Rattle.haya_json.specs.Fields.{EntryView}
use Rattle.haya_json.specs.Told.{told_alone, told_first}
use Rattle.haya_json.specs.Notes.{NoteView, NotesView, kept_of}
use Rattle.haya_json.specs.Refusal.{Refusal, and_then, to_item, within}
use Rattle.haya_json.proofs.ValuesAlone.{one_item}
use Rattle.haya_json.proofs.TextsRead.{both_ok, ok_same, within_ok}
use Rattle.haya_csl.specs.ItemLines.{IsItemLineOf, ItemsSay, LinesList, Lists, line_told}
use Rattle.haya_csl.specs.Items.{item_of, item_said}
use Rattle.haya_csl.specs.Libraries.{DescribesAsCsl, csl_library_of, items_pushed}
use Rattle.haya_csl.specs.Told.{TellsAsCsl, items_told}
use Rattle.haya_csl.specs.declared.item_key.ItemKey.{ItemKey}

module _ (by : ItemKey) where
  -- ---- the items of lines

  -- lines that say entries are items
  items_of_lines : (ls : List (List ℕ)) (entries : List Tree) → AllZip (IsItemLineOf by) ls entries → (js : Items) × AreItems ls js
  items_of_lines [] [] listed = (json.no_items, tt)
  items_of_lines [] (t ∷ ts) listed = absurd listed
  items_of_lines (l ∷ ls) [] listed = absurd listed
  items_of_lines (l ∷ ls) (t ∷ ts) listed =
      let first = listed.0 in
      let more = items_of_lines ls ts listed.1 in
      (json.item first.value more.0, (first.parsed, more.1))

  -- the items say the entries that the lines do, and no object in them has a name twice
  entries_of_lines : (ls : List (List ℕ)) (js : Items) (entries : List Tree) → AreItems ls js → AllZip (IsItemLineOf by) ls entries → ItemsHaveUniqueKeys js × ItemsSay by js entries
  entries_of_lines [] json.no_items [] are listed = (tt, tt)
  entries_of_lines [] json.no_items (t ∷ ts) are listed = absurd listed
  entries_of_lines [] (json.item j js) ts are listed = absurd are
  entries_of_lines (l ∷ ls) json.no_items ts are listed = absurd are
  entries_of_lines (l ∷ ls) (json.item j js) [] are listed = absurd listed
  entries_of_lines (l ∷ ls) (json.item j js) (t ∷ ts) are listed =
      let first = listed.0 in
      let same : first.value ≡ j = one_item l first.value j first.parsed are.0 in
      let more = entries_of_lines ls js ts are.1 listed.1 in
      ((rw (← same) first.unique, more.0), (rw (← same) first.read, more.1))

  -- the other way, lines that are items say the entries of these
  lines_of_entries : (ls : List (List ℕ)) (js : Items) (entries : List Tree) → AreItems ls js → ItemsHaveUniqueKeys js → ItemsSay by js entries → AllZip (IsItemLineOf by) ls entries
  lines_of_entries [] json.no_items [] are unique read = tt
  lines_of_entries [] json.no_items (t ∷ ts) are unique read = absurd read
  lines_of_entries [] (json.item j js) ts are unique read = absurd are
  lines_of_entries (l ∷ ls) json.no_items ts are unique read = absurd are
  lines_of_entries (l ∷ ls) (json.item j js) [] are unique read = absurd read
  lines_of_entries (l ∷ ls) (json.item j js) (t ∷ ts) are unique read =
      (record { value = j; parsed = are.0; unique = unique.0; read = read.0 }, lines_of_entries ls js ts are.1 unique.1 read.1)

  -- what is told of items whose keys aren't looked for
  unfoldable pub alone_told : Items → List NoteView
  alone_told json.no_items = []
  alone_told (json.item j js) = told_alone (item_said by j) ++ alone_told js

  -- what is told of lines is what is told of their items
  told_of_lines : (ls : List (List ℕ)) (js : Items) → AreItems ls js → flat_map (line_told by) ls ≡ alone_told js
  unfolding alone_told
  told_of_lines [] json.no_items are = refl
  told_of_lines [] (json.item j js) are = absurd are
  told_of_lines (l ∷ ls) json.no_items are = absurd are
  told_of_lines (l ∷ ls) (json.item j js) are = rw (are.0, told_of_lines ls js are.1) refl

  -- ---- entries that are pushed in turn

  -- the entries of items are pushed in turn
  pushed_of_entries : (js : Items) (library entries : List Tree) (place : ℕ) → ItemsSay by js entries → items_pushed by library place js ≡ Ok (fold (λ done t. push t done) library entries)
  pushed_of_entries json.no_items library [] place says = refl
  pushed_of_entries json.no_items library (t ∷ ts) place says = absurd says
  pushed_of_entries (json.item j js) library [] place says = absurd says
  pushed_of_entries (json.item j js) library (t ∷ ts) place says = rw says.0 (pushed_of_entries js (push t library) ts (place + 1) says.1)

  -- the other way, items say the entries that are pushed
  entries_of_pushed : (js : Items) (before library : List Tree) (place : ℕ) → items_pushed by before place js ≡ Ok library
      → (ts : List Tree) × (library ≡ fold (λ done t. push t done) before ts) × ItemsSay by js ts
  entries_of_pushed json.no_items before library place h = ([], sym (ok_same h), tt)
  entries_of_pushed (json.item j js) before library place h =
      let first = both_ok (within (to_item place) (item_of by j)) _ library h in
      let t = first.value in
      let more = entries_of_pushed js (push t before) library (place + 1) first.then in
      (t ∷ more.0, more.1, (within_ok (to_item place) (item_of by j) t first.first, more.2))

  -- ---- entries with distinct keys

  -- what is told of an item whose key is new, and of those behind it
  told_of_new : (library : List Tree) (said : Result EntryView Refusal) (t : Tree) (more : List Tree → List NoteView)
      → and_then said (λ v. Ok v.entry) ≡ Ok t → get (key_of t) library ≡ None
      → told_first library said more ≡ told_alone said ++ more (push t library)
  told_of_new library (Ok v) t more is none =
      let same : v.entry ≡ t = ok_same is in
      rw (same, none) refl
  told_of_new library (Err r) t more is none = cc

-- what no entry passes is not found
none_found : (p : Tree → Bool) (ts : List Tree) → list_any p ts ≡ false → find p ts ≡ None
none_found p [] h = refl
none_found p (t ∷ ts) h = let parts = or_parts (p t) (list_any p ts) h in rw parts.0 (none_found p ts parts.1)

-- an entry whose key no entry before it has
record IsNew (library : List Tree) (t : Tree) : Type 0 where
  unknown : get (key_of t) library ≡ None
  last : push t library ≡ library ++ t ∷ []

-- an entry whose key is none of those before it
is_new : (library ts : List Tree) (t : Tree) → AreDistinct (library ++ t ∷ ts) → IsNew library t
is_new library ts t d =
    let none : list_any (has_key (key_of t)) library ≡ false = first_none _ _ (AreApart-distinct library (t ∷ ts) d (key_of t)) (own_key t ts) in
    record {
      unknown = none_found (has_key (key_of t)) library none;
      last = rw none refl;
    }
  where
    own_key : (t : Tree) (ts : List Tree) → list_any (has_key (key_of t)) (t ∷ ts) ≡ true
    own_key t ts = rw ((bytes_eq-Decides (key_of t) (key_of t)).1 refl) refl

    first_none : (a b : Bool) → (a && b) ≡ false → b ≡ true → a ≡ false
    first_none true b h k = cc
    first_none false b h k = refl

module _ (by : ItemKey) where
  -- of items whose keys are distinct no more is told than of each alone
  pub told_of_entries : (js : Items) (library entries : List Tree) → ItemsSay by js entries → AreDistinct (library ++ entries) → items_told by library js ≡ alone_told by js
  unfolding alone_told
  told_of_entries json.no_items library [] says d = refl
  told_of_entries json.no_items library (t ∷ ts) says d = absurd says
  told_of_entries (json.item j js) library [] says d = absurd says
  told_of_entries (json.item j js) library (t ∷ ts) says d =
      let new = is_new library ts t d in
      let behind : push t library ++ ts ≡ library ++ t ∷ ts = ap (λ l. l ++ ts) new.last ∙ append_assoc library (t ∷ []) ts in
      told_of_new by library (item_said by j) t (λ more. items_told by more js) says.0 new.unknown
      ∙ ap (λ more. told_alone (item_said by j) ++ more) (told_of_entries js (push t library) ts says.1 (rw behind d))

  -- ---- a text

  -- the lines of a text that is an array are its items
  record IsArrayOf (text : List ℕ) (js : Items) : Type 0 where
    are : AreItems (elements Square text) js
    parsed : document text ≡ Some (array js)

  array_of_lines : (text : List ℕ) (entries : List Tree) → AllZip (IsItemLineOf by) (elements Square text) entries → (js : Items) × IsArrayOf text js
  array_of_lines text entries each =
      let js = items_of_lines by (elements Square text) entries each in
      (js.0, record { are = js.1; parsed = document_of_items text js.0 js.1 })

  -- a text lists what its lines do
  pub list_of_lines : (text : List ℕ) (entries : List Tree) (kept : NotesView) → LinesList by text entries kept → Lists by text entries
  list_of_lines text entries kept lines =
      let whole = array_of_lines text entries lines.each in
      let said = entries_of_lines by (elements Square text) whole.0 entries whole.1.are lines.each in
      record { items = whole.0; parsed = whole.1.parsed; unique = said.0; read = said.1 }

  -- what is told of the lines is what is told of the whole, where no key comes twice
  told_in_list : (text : List ℕ) (entries : List Tree) (list : Lists by text entries) → AreDistinct entries → items_told by [] list.items ≡ flat_map (line_told by) (elements Square text)
  told_in_list text entries list distinct =
      told_of_entries list.items [] entries list.read distinct
      ∙ sym (told_of_lines by (elements Square text) list.items (items-of-array text list.items list.parsed))

  pub notes_of_lines : (text : List ℕ) (entries : List Tree) (kept : NotesView) → LinesList by text entries kept → AreDistinct entries → TellsAsCsl by text kept
  notes_of_lines text entries kept lines distinct =
      let list = list_of_lines text entries kept lines in
      rw list.parsed (lines.notes ∙ sym (ap kept_of (told_in_list text entries list distinct)))

  -- the other way, the lines of a text list what it does, and tell what it does
  pub lines_of_list : (text : List ℕ) (entries : List Tree) (kept : NotesView) → Lists by text entries → AreDistinct entries → TellsAsCsl by text kept → LinesList by text entries kept
  lines_of_list text entries kept list distinct told =
      let of_items : kept ≡ kept_of (items_told by [] list.items) = rw list.parsed at told in
      record {
        each = lines_of_entries by (elements Square text) list.items entries (items-of-array text list.items list.parsed) list.unique list.read;
        notes = of_items ∙ ap kept_of (told_in_list text entries list distinct);
      }

  -- a text that lists entries describes the library of them
  pub pushed_of_list : (text : List ℕ) (entries : List Tree) → Lists by text entries → DescribesAsCsl by text (from_entries entries)
  pushed_of_list text entries list = record {
    value = array list.items;
    parsed = list.parsed;
    unique = list.unique;
    read = pushed_of_entries by list.items [] entries 0 list.read;
  }

  -- which is these entries where no key comes twice
  pub library_of_list : (text : List ℕ) (entries : List Tree) → Lists by text entries → AreDistinct entries → DescribesAsCsl by text entries
  library_of_list text entries list distinct = subst (DescribesAsCsl by text) (from_entries-distinct entries distinct) (pushed_of_list text entries list)

  -- the other way, an array that describes a library lists entries of which it is the library
  pub list_of_library : (text : List ℕ) (js : Items) (library : List Tree) → document text ≡ Some (array js) → DescribesAsCsl by text library
      → (entries : List Tree) × (library ≡ from_entries entries) × Lists by text entries
  list_of_library text js library is_array d =
      let same : d.value ≡ array js = some_same (sym d.parsed ∙ is_array) in
      let read : items_pushed by [] 0 js ≡ Ok library = subst (λ j. csl_library_of by j ≡ Ok library) same d.read in
      let listed = entries_of_pushed by js [] library 0 read in
      let list : Lists by text listed.0 = record {
        items = js;
        parsed = is_array;
        unique = subst HasUniqueKeys same d.unique;
        read = listed.2;
      } in
      (listed.0, listed.1, list)
    where
      some_same : {i j : Json} → Some i ≡ Some j → i ≡ j
      some_same h = cc
