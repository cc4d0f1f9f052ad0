-- The names of fields, as a map keeps them.
use Rattle.std.specs.Prelude.{◌≡◌, ℕ, List, is_some}
use Rattle.std.specs.BTreeMap.{get_by}
use Rattle.std.specs.Cmp.Lexicographic.{slice_cmp}
use Rattle.std.specs.Ordering.{nat_cmp}
use Rattle.haya_bibtex_inherited.specs.Entries.{has_field}
use Rattle.haya_bibtex_inherited.specs.Views.{fields_view}
use Rattle.haya_bibtex_inherited.specs.declared.field.Fields.{Fields}

-- the map has the names of the fields, and no others
abbrev pub KnowsNames : Fields → Type 0
KnowsNames f = (name : List ℕ) →
    is_some (get_by (λ k. slice_cmp nat_cmp name k.now) f.names)
    ≡ has_field (fields_view f.list.items) name
