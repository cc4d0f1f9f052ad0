-- Whether two selectors are equal: where their forms and their names are.
use Rattle.std.specs.Prelude.{Bool, true, false, ◌&&◌}
use Rattle.std.specs.Str.{bytes_eq}
use Rattle.haya_entry.specs.contracts.types.EntryType as entry_type
use denote.Enum.Bare.{sameb}
use lib.Pointwise.{pointwise}
use Rattle.haya_selectors.specs.declared.selector.Selector.{Selector}
use Rattle.haya_selectors.specs.Syntax.{Syntax, Wildcard, Entry, Neg, Binding, Attr, Alt, Multi, Ancestrage, Syntaxes, none, more, syntax}

abbrev mutual
  pub syntax_eq : Syntax → Syntax → Bool
  syntax_eq Wildcard Wildcard = true
  syntax_eq (Entry k) (Entry l) = sameb entry_type.the_type k l
  syntax_eq (Neg s) (Neg t) = syntax_eq s t
  syntax_eq (Binding n s) (Binding m t) = bytes_eq n m && syntax_eq s t
  syntax_eq (Attr s ns) (Attr t ms) = pointwise bytes_eq ns ms && syntax_eq s t
  syntax_eq (Alt ss) (Alt ts) = syntaxes_eq ss ts
  syntax_eq (Multi ss) (Multi ts) = syntaxes_eq ss ts
  syntax_eq (Ancestrage l r) (Ancestrage m s) = syntax_eq r s && syntax_eq l m
  syntax_eq _ _ = false

  pub syntaxes_eq : Syntaxes → Syntaxes → Bool
  syntaxes_eq none none = true
  syntaxes_eq (more s ss) (more t ts) = syntaxes_eq ss ts && syntax_eq s t
  syntaxes_eq _ _ = false

abbrev pub selector_eq : Selector → Selector → Bool
selector_eq a b = syntax_eq (syntax a) (syntax b)
