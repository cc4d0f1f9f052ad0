-- Lists of fields by value, and entries of one rank.
use Rattle.std.specs.Prelude.{◌==◌, ℕ, Bool, List, Vec, get_or, map}
use Rattle.haya_bibtex_inherited.specs.Entries.{FieldBytes}
use Rattle.haya_bibtex_inherited.specs.Views.{fields_view}
use Rattle.haya_bibtex_inherited.specs.declared.field.FieldRef.{FieldRef}

abbrev pub lists_view : {Z : Type 0} → List (Vec FieldRef Z) → List (List FieldBytes)
lists_view all = map (λ v. fields_view v.items) all

abbrev pub have_same_rank : List ℕ → ℕ → ℕ → Bool
have_same_rank ranks j i = get_or ranks j 0 == get_or ranks i 0
