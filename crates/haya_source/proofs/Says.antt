-- The parts of a text say the entries of the library that it describes.
use Rattle.std.proofs.Common.{◌≡◌, ℕ, List, [], ◌∷◌, Ok, refl, ap, ◌∙◌, subst}
use Rattle.std.specs.Prelude.{Contains}
use Rattle.std.specs.List.{AllByRecursion, AllZip}
use Rattle.std.proofs.lemmas.List.Elements.{All-from_recursion}
use Rattle.json.specs.Json as json
use Rattle.json.specs.Json.{Items, Members}
use Rattle.json.specs.Strict.{ItemsHaveUniqueKeys, MembersHaveUniqueKeys}
use Rattle.haya_csl.specs.ItemLines.{IsItemLineOf, ItemsSay}
use Rattle.haya_csl.specs.declared.item_key.ItemKey.{ItemKey}
use Rattle.haya_json_elements.specs.Elements.{AreItems, AreMembers}
use Rattle.haya_entry.specs.Tree.{Tree}
use Rattle.haya_json.specs.Entries.{entry_of}
use Rattle.haya_json.specs.Libraries.{entries_of as object_entries}
use Rattle.haya_json.specs.MemberLines.{IsMemberLineOf}
use Rattle.haya_json.specs.Refusal.{and_then, to_member, within}
use Rattle.haya_json.proofs.TextsRead.{both_ok, ok_same, within_ok}
use Rattle.haya_source.specs.Elements.{Element, entries_of, parts_of}

-- ---- parts with their entries

pub record Paired (R : List ℕ → Tree → Type 0) (parts : List (List ℕ)) (entries : List Tree)
    : Type 0 where
  pub elements : List Element
  pub parts_are : parts_of elements ≡ parts
  pub entries_are : entries_of elements ≡ entries
  pub each : AllByRecursion (λ e. R e.0 e.1) elements

pub paired : (R : List ℕ → Tree → Type 0) (parts : List (List ℕ)) (entries : List Tree)
    → AllZip R parts entries → Paired R parts entries
paired R [] [] h = record { elements = []; parts_are = refl; entries_are = refl; each = tt }
paired R [] (t ∷ ts) h = absurd h
paired R (p ∷ ps) [] h = absurd h
paired R (p ∷ ps) (t ∷ ts) h =
    let more = paired R ps ts h.1 in
    record {
      elements = (p, t) ∷ more.elements;
      parts_are = ap (λ l. p ∷ l) more.parts_are;
      entries_are = ap (λ l. t ∷ l) more.entries_are;
      each = (h.0, more.each);
    }

-- ---- items and members

pub say_items : (by : ItemKey) (ps : List (List ℕ)) (js : Items) (entries : List Tree)
    → AreItems ps js → ItemsHaveUniqueKeys js → ItemsSay by js entries
    → AllZip (IsItemLineOf by) ps entries
say_items by [] json.no_items [] are unique read = tt
say_items by [] json.no_items (t ∷ ts) are unique read = absurd read
say_items by [] (json.item j js) ts are unique read = absurd are
say_items by (p ∷ ps) json.no_items ts are unique read = absurd are
say_items by (p ∷ ps) (json.item j js) [] are unique read = absurd read
say_items by (p ∷ ps) (json.item j js) (t ∷ ts) are unique read = (
  record { value = j; parsed = are.0; unique = unique.0; read = read.0 },
  say_items by ps js ts are.1 unique.1 read.1,
)

pub say_members : (ps : List (List ℕ)) (ms : Members) (entries : List Tree)
    → AreMembers ps ms → MembersHaveUniqueKeys ms → object_entries ms ≡ Ok entries
    → AllZip IsMemberLineOf ps entries
say_members [] json.no_members entries are unique read =
    subst (AllZip IsMemberLineOf []) (ok_same read) tt
say_members [] (json.member k j ms) entries are unique read = absurd are
say_members (p ∷ ps) json.no_members entries are unique read = absurd are
say_members (p ∷ ps) (json.member k j ms) entries are unique read =
    let first = both_ok (within (to_member k) (entry_of k _ j)) _ entries read in
    let more = both_ok (object_entries ms) _ entries first.then in
    let here = within_ok (to_member k) _ first.value first.first in
    let rest = say_members ps ms more.value are.1 unique.1 more.first in
    subst (AllZip IsMemberLineOf (p ∷ ps)) (ok_same more.then) (
      record { name = k; value = j; parsed = are.0; unique = unique.0; read = here },
      rest,
    )

-- ---- the other way

-- the items that parts are which say entries
pub record SaysItems (by : ItemKey) (ps : List (List ℕ)) (entries : List Tree) : Type 0 where
  pub items : Items
  pub are : AreItems ps items
  pub unique : ItemsHaveUniqueKeys items
  pub say : ItemsSay by items entries

pub items_said : (by : ItemKey) (es : List Element)
    → AllByRecursion (λ e. IsItemLineOf by e.0 e.1) es
    → SaysItems by (parts_of es) (entries_of es)
items_said by [] h = record { items = json.no_items; are = tt; unique = tt; say = tt }
items_said by (e ∷ es) h =
    let more = items_said by es h.1 in
    let first = h.0 in
    record {
      items = json.item first.value more.items;
      are = (first.parsed, more.are);
      unique = (first.unique, more.unique);
      say = (first.read, more.say);
    }

pub record SaysMembers (ps : List (List ℕ)) (entries : List Tree) : Type 0 where
  pub members : Members
  pub are : AreMembers ps members
  pub unique : MembersHaveUniqueKeys members
  pub say : object_entries members ≡ Ok entries

pub members_said : (es : List Element) → AllByRecursion (λ e. IsMemberLineOf e.0 e.1) es
    → SaysMembers (parts_of es) (entries_of es)
members_said [] h = record { members = json.no_members; are = tt; unique = tt; say = refl }
members_said (e ∷ es) h =
    let more = members_said es h.1 in
    let first = h.0 in
    record {
      members = json.member first.name first.value more.members;
      are = (first.parsed, more.are);
      unique = (first.unique, more.unique);
      say = ap (λ r. and_then (within (to_member first.name) r)
          (λ t. and_then (object_entries more.members) (λ ts. Ok (t ∷ ts)))) first.read
          ∙ ap (λ r. and_then r (λ ts. Ok (e.1 ∷ ts))) more.say;
    }

-- ---- elements among others

contained : (P : Element → Type 0) (es : List Element) (e : Element) → Contains es e
    → AllByRecursion P es → P e
contained P es e c h = subst P c.2 (All-from_recursion P es h c.0 e c.1)

pub all_contained : (P : Element → Type 0) (es picked : List Element)
    → AllByRecursion (Contains es) picked → AllByRecursion P es → AllByRecursion P picked
all_contained P es [] c h = tt
all_contained P es (e ∷ picked) c h = (contained P es e c.0 h, all_contained P es picked c.1 h)

-- a fact on the bytes of elements
pub on_parts : (Q : List ℕ → Type 0) (es : List Element) → AllByRecursion Q (parts_of es)
    → AllByRecursion (λ e. Q e.0) es
on_parts Q [] h = tt
on_parts Q (e ∷ es) h = (h.0, on_parts Q es h.1)

pub of_parts : (Q : List ℕ → Type 0) (es : List Element) → AllByRecursion (λ e. Q e.0) es
    → AllByRecursion Q (parts_of es)
of_parts Q [] h = tt
of_parts Q (e ∷ es) h = (h.0, of_parts Q es h.1)
