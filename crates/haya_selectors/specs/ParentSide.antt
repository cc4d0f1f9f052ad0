-- Selectors to the right of `>` that ask for one parent, and selectors without their names.
use Rattle.std.specs.Prelude.{◌≡◌, Bool, true, false, not, ◌&&◌}
use Rattle.std.specs.List.{list_any}
use Rattle.haya_entry.specs.Tree.{Tree, parents}
use Rattle.haya_selectors.specs.Holds.{holds}
use Rattle.haya_selectors.specs.Syntax.{Syntax, Wildcard, Entry, Neg, Binding, Attr, Alt, Multi, Ancestrage, Syntaxes, none, more}

abbrev mutual
  -- types, `*`, bracket lists directly over `*`, `|`, names that appear in no list, and `>` with any
  -- two sides
  pub asks_one_parent : Syntax → Bool
  asks_one_parent Wildcard = true
  asks_one_parent (Entry t) = true
  asks_one_parent (Binding n s) = asks_one_parent s
  asks_one_parent (Attr Wildcard names) = true
  asks_one_parent (Alt ss) = all_ask_one_parent ss
  asks_one_parent (Ancestrage l r) = true
  asks_one_parent _ = false

  pub all_ask_one_parent : Syntaxes → Bool
  all_ask_one_parent none = true
  all_ask_one_parent (more s ss) = asks_one_parent s && all_ask_one_parent ss

-- such a selector to the right of `>` holds where it holds at some parent
abbrev pub HoldsAtSomeParent : Type 0
HoldsAtSomeParent = (l r : Syntax) (x : Tree) → asks_one_parent r ≡ true →
    holds (Ancestrage l r) x ≡ (holds l x && list_any (holds r) (parents x))

-- and `!` before it where it holds at no parent
abbrev pub HoldsAtNoParent : Type 0
HoldsAtNoParent = (l r : Syntax) (x : Tree) → asks_one_parent r ≡ true →
    holds (Ancestrage l (Neg r)) x ≡ (holds l x && not (list_any (holds r) (parents x)))

abbrev mutual
  -- the selector with all its names erased
  pub without_names : Syntax → Syntax
  without_names Wildcard = Wildcard
  without_names (Entry t) = Entry t
  without_names (Neg s) = Neg (without_names s)
  without_names (Binding n s) = without_names s
  without_names (Attr s names) = Attr (without_names s) names
  without_names (Alt ss) = Alt (all_without_names ss)
  without_names (Multi ss) = Multi (all_without_names ss)
  without_names (Ancestrage l r) = Ancestrage (without_names l) (without_names r)

  pub all_without_names : Syntaxes → Syntaxes
  all_without_names none = none
  all_without_names (more s ss) = more (without_names s) (all_without_names ss)

abbrev mutual
  -- whether every bracket list stands over what erasing leaves as it is
  pub lists_have_no_names : Syntax → Bool
  lists_have_no_names Wildcard = true
  lists_have_no_names (Entry t) = true
  lists_have_no_names (Neg s) = lists_have_no_names s
  lists_have_no_names (Binding n s) = lists_have_no_names s
  lists_have_no_names (Attr s names) = has_no_names s
  lists_have_no_names (Alt ss) = all_lists_have_no_names ss
  lists_have_no_names (Multi ss) = all_lists_have_no_names ss
  lists_have_no_names (Ancestrage l r) = lists_have_no_names l && lists_have_no_names r

  pub all_lists_have_no_names : Syntaxes → Bool
  all_lists_have_no_names none = true
  all_lists_have_no_names (more s ss) = lists_have_no_names s && all_lists_have_no_names ss

  -- whether no name is bound anywhere in the selector
  pub has_no_names : Syntax → Bool
  has_no_names Wildcard = true
  has_no_names (Entry t) = true
  has_no_names (Neg s) = has_no_names s
  has_no_names (Binding n s) = false
  has_no_names (Attr s names) = has_no_names s
  has_no_names (Alt ss) = all_have_no_names ss
  has_no_names (Multi ss) = all_have_no_names ss
  has_no_names (Ancestrage l r) = has_no_names l && has_no_names r

  pub all_have_no_names : Syntaxes → Bool
  all_have_no_names none = true
  all_have_no_names (more s ss) = has_no_names s && all_have_no_names ss

-- where no bracket list has a name inside it, names change no answer
abbrev pub NamesChangeNoAnswer : Type 0
NamesChangeNoAnswer =
    (s : Syntax) (x : Tree) → lists_have_no_names s ≡ true → holds (without_names s) x ≡ holds s x
