-- A library in parts: lists of entries that have no key in common.
use Rattle.std.specs.Prelude.{◌≡◌, ℕ, ◌&&◌, false, List}
use Rattle.std.specs.List.{list_any}
use Rattle.haya_entry.specs.Tree.{Tree}
use Rattle.hayagriva.specs.Library.{has_key}

-- no key is in both
abbrev pub AreApart : List Tree → List Tree → Type 0
AreApart a b = (key : List ℕ) → (list_any (has_key key) a && list_any (has_key key) b) ≡ false
