-- A selector by value: the tree of its forms, with names as their bytes.
use Rattle.std.specs.Prelude.{ℕ, zero, suc, ◌+◌, List, [], ◌∷◌, map, string_bytes}
use Rattle.std.specs.List.{fold}
use Rattle.haya_entry.specs.declared.types.EntryType.{EntryType}
use Rattle.haya_selectors.specs.declared.selector.Selector.{Selector}
use Rattle.haya_selectors.specs.declared.selector.Selector.TheOpen as open'
use Rattle.haya_selectors.specs.declared.selector.Selector.TheFolds.{fold-Selector}

mutual
  pub data Syntax : Type 0 where
    Wildcard : Syntax
    Entry : EntryType → Syntax
    Neg : Syntax → Syntax
    Binding : List ℕ → Syntax → Syntax
    Attr : Syntax → List (List ℕ) → Syntax
    Alt : Syntaxes → Syntax
    Multi : Syntaxes → Syntax
    Ancestrage : Syntax → Syntax → Syntax

  pub data Syntaxes : Type 0 where
    none : Syntaxes
    more : Syntax → Syntaxes → Syntaxes

abbrev pub syntaxes : List Syntax → Syntaxes
syntaxes [] = none
syntaxes (s ∷ ss) = more s (syntaxes ss)

abbrev pub syntax_step : open'.Selector-F Syntax → Syntax
syntax_step open'.Wildcard = Wildcard
syntax_step (open'.Entry t) = Entry t
syntax_step (open'.Neg s) = Neg s.value
syntax_step (open'.Binding n s) = Binding (string_bytes n) s.value
syntax_step (open'.Attr s names) = Attr s.value (map string_bytes names.items)
syntax_step (open'.Alt ss) = Alt (syntaxes ss.items)
syntax_step (open'.Multi ss) = Multi (syntaxes ss.items)
syntax_step (open'.Ancestrage l r) = Ancestrage l.value r.value

-- the value of a selector
abbrev pub syntax : Selector → Syntax
syntax = fold-Selector Syntax syntax_step

-- the values of selectors, as members of one
abbrev pub members_of : List Selector → Syntaxes
members_of ss = syntaxes (map syntax ss)

-- a selector behind so many `!`
abbrev pub negations : ℕ → Syntax → Syntax
negations zero s = s
negations (suc n) s = negations n (Neg s)

-- a selector with others behind it, each after a `>`
abbrev pub chained : Syntax → List Syntax → Syntax
chained s rs = fold Ancestrage s rs

-- how many forms the selector has
abbrev mutual
  pub nodes : Syntax → ℕ
  nodes Wildcard = 1
  nodes (Entry t) = 1
  nodes (Neg s) = 1 + nodes s
  nodes (Binding n s) = 1 + nodes s
  nodes (Attr s names) = 1 + nodes s
  nodes (Alt ss) = 1 + nodes_of_all ss
  nodes (Multi ss) = 1 + nodes_of_all ss
  nodes (Ancestrage l r) = 1 + nodes l + nodes r

  pub nodes_of_all : Syntaxes → ℕ
  nodes_of_all none = 0
  nodes_of_all (more s ss) = nodes s + nodes_of_all ss
