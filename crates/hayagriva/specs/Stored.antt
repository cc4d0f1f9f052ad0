-- How a map keeps a library: each entry under its own key.
use Rattle.std.specs.Prelude.{◌≡◌, ℕ, List, map, String, string_bytes}
use Rattle.haya_entry.specs.declared.entry.Entry.{Entry}
use Rattle.haya_entry.specs.Tree.{Tree, view}
use Rattle.hayagriva.specs.Library.{key_of, AreDistinct}

-- entries beside their keys
abbrev pub keyed_entries : List Tree → List (List ℕ × Tree)
keyed_entries ts = map (λ t. (key_of t, t)) ts

module _ {B : Type 0} where
  -- what a map holds, by value
  abbrev pub pairs_of : List (String B × Entry) → List (List ℕ × Tree)
  pairs_of es = map (λ e. (string_bytes e.0, view e.1)) es

  abbrev pub entries_of : List (String B × Entry) → List Tree
  entries_of es = map (λ e. view e.1) es

  abbrev pub texts_of : List (String B) → List (List ℕ)
  texts_of ks = map string_bytes ks

  -- what is true of the map of a library
  pub record Fits (es : List (String B × Entry)) : Type 0 where
    pub own_keys : pairs_of es ≡ keyed_entries (entries_of es)
    pub distinct : AreDistinct (entries_of es)
