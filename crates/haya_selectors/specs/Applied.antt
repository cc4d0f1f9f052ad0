-- What a selector answers at an entry.
use Rattle.std.specs.Prelude.{◌≡◌, ℕ, true, false, List, is_some, option_map, Option, None, Some, String}
use Rattle.std.specs.Borrow.{Bor}
use Rattle.std.specs.HashMap.{HashMap, get_by_text}
use Rattle.haya_entry.specs.declared.entry.Entry.{Entry}
use Rattle.haya_entry.specs.Tree.{Tree, view}
use Rattle.haya_selectors.specs.Binds.{bound_to, is_bound}
use Rattle.haya_selectors.specs.Holds.{holds}
use Rattle.haya_selectors.specs.Syntax.{Syntax}

-- a borrowed entry by value, if there is one
abbrev pub entry_value : Option (Bor Entry) → Option Tree
entry_value o = option_map (λ e. view e.now) o

-- exactly the names that are bound at an entry where the selector holds, each with the entry that
-- it is bound to
pub record AreBindings {Y S : Type 0} (s : Syntax) (x : Tree)
    (bindings : HashMap (String Y) (Bor Entry) S) : Type 0 where
  pub names : (name : List ℕ) → is_some (get_by_text bindings name) ≡ is_bound s x name
  pub entries : (name : List ℕ) → entry_value (get_by_text bindings name) ≡ bound_to s x name

-- its bindings there, or nothing where it doesn't hold
abbrev pub Applied : {Y S : Type 0} → Syntax → Tree → Option (HashMap (String Y) (Bor Entry) S) →
    Type 0
Applied s x None = holds s x ≡ false
Applied s x (Some bindings) = (holds s x ≡ true) × AreBindings s x bindings
