-- The first side of a selector: the selector, the part that comes first in it, and so on.
use Rattle.std.specs.Prelude.{◌≡◌, ◌≤◌, ℕ, Bool, true, false, List, [], ◌∷◌}
use Rattle.std.specs.Borrow.{Bor}
use Rattle.std.specs.List.{All}
use Rattle.haya_selectors.specs.declared.selector.Selector.{Selector, size-Selector}
use Rattle.haya_selectors.specs.Syntax.{Syntax, Wildcard, Entry, Neg, Binding, Attr, Alt, Multi, Ancestrage, Syntaxes, none, more, syntax}

-- the same selector with another first part, where it has one
abbrev pub with_first_of : Syntaxes → Syntax → Syntaxes
with_first_of none x = none
with_first_of (more s ss) x = more x ss

abbrev pub with_first : Syntax → Syntax → Syntax
with_first Wildcard x = Wildcard
with_first (Entry t) x = Entry t
with_first (Neg s) x = Neg x
with_first (Binding n s) x = Binding n x
with_first (Attr s names) x = Attr x names
with_first (Alt ss) x = Alt (with_first_of ss x)
with_first (Multi ss) x = Multi (with_first_of ss x)
with_first (Ancestrage l r) x = Ancestrage x r

-- each of the selectors in the place of the first part of the one before
abbrev pub wrapped : List (Bor Selector) → Syntax → Syntax
wrapped [] x = x
wrapped (s ∷ ss) x = with_first (syntax s.now) (wrapped ss x)

-- whether it has no first part
abbrev pub is_end : Syntax → Bool
is_end Wildcard = true
is_end (Entry t) = true
is_end (Alt none) = true
is_end (Multi none) = true
is_end _ = false

-- whether it has one, and is no `>`
abbrev pub is_over : Syntax → Bool
is_over (Neg s) = true
is_over (Binding n s) = true
is_over (Attr s names) = true
is_over (Alt (more s ss)) = true
is_over (Multi (more s ss)) = true
is_over _ = false

abbrev pub AllNoDeeper : ℕ → List (Bor Selector) → Type 0
AllNoDeeper n ss = All (λ s. size-Selector s.now ≤ n) ss

abbrev pub NoEnds : List (Bor Selector) → Type 0
NoEnds ss = All (λ s. is_end (syntax s.now) ≡ false) ss

-- each of the selectors above is the first part of the one before, and the end has none
pub record IsFirstSide (s : Selector) (ss : List (Bor Selector)) (end : Selector) : Type 0 where
  pub wraps : wrapped ss (syntax end) ≡ syntax s
  pub ends : is_end (syntax end) ≡ true
  pub no_deeper : AllNoDeeper (size-Selector s) ss
  pub no_ends : NoEnds ss
