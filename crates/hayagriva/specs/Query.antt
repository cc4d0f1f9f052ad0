-- What a query answers: the entries where its selector holds, each with the entries that its names
-- are bound to.
use Rattle.std.specs.Prelude.{◌≡◌, ℕ, List, All, IfOk, IfSome, filter, map, Option, Result, Ok, Err, Vec}
use Rattle.std.specs.HashMap.{get_by_text}
use Rattle.std.specs.List.{AllZip}
use Rattle.std.specs.declared.alloc.Global.{Global}
use Rattle.haya_entry.specs.Tree.{Tree, view}
use Rattle.hayagriva.specs.declared.query.Hit.{Hit}
use Rattle.haya_selectors.specs.declared.selector.SelectorError.{SelectorError}
use Rattle.haya_selectors.specs.Applied.{AreBindings, entry_value}
use Rattle.haya_selectors.specs.Fault.{fault}
use Rattle.haya_selectors.specs.Holds.{holds}
use Rattle.haya_selectors.specs.InWords.{picks, named_entry}
use Rattle.haya_selectors.specs.Reading.{IfReads, TextReads, TextFails}
use Rattle.haya_selectors.specs.Syntax.{Syntax}

-- a hit's entry, and the entry that a name is bound to there
abbrev pub hit_entry : Hit → Tree
hit_entry hit = view hit.entry.now

abbrev pub hit_bound : Hit → List ℕ → Option Tree
hit_bound hit name = entry_value (get_by_text hit.bindings name)

-- the hit of a selector at an entry: that entry with its bindings
pub record IsHit (s : Syntax) (x : Tree) (hit : Hit) : Type 0 where
  pub entry : hit_entry hit ≡ x
  pub bindings : AreBindings s x hit.bindings

-- the hits of a selector over entries: one for each entry where it holds, in their order
abbrev pub AreHits : Syntax → List Tree → List Hit → Type 0
AreHits s xs hits = AllZip (IsHit s) (filter (holds s) xs) hits

-- what a query may answer for a text over entries; out of memory says nothing of the text
abbrev pub QueryGives : List ℕ → List Tree → Result (Vec Hit Global) SelectorError → Type 0
QueryGives text xs (Ok hits) = (s : Syntax) × TextReads text s × AreHits s xs hits.items
QueryGives text xs (Err e) = IfSome (fault e) (TextFails text)

-- the hits are the entries that the selector of the text picks, in order
abbrev pub HitsAre : List ℕ → List Tree → Result (Vec Hit Global) SelectorError → Type 0
HitsAre text xs result =
    IfOk result (λ hits. IfReads text (λ s. map hit_entry hits.items ≡ filter (picks s) xs))

-- the name is bound at each hit to what the selector of the text says
abbrev pub NameIs : List ℕ → List ℕ → Result (Vec Hit Global) SelectorError → Type 0
NameIs text name result =
    IfOk result (λ hits. IfReads text (λ s.
    All (λ hit. hit_bound hit name ≡ named_entry s name (hit_entry hit)) hits.items))
