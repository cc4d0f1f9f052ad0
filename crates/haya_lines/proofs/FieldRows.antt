-- What values change under their names, at worked rows.
use Rattle.std.proofs.Common.{◌≡◌, [], ◌∷◌, Some, Ok, Err, refl}
use Rattle.std.specs.Prelude.{codes}
use Rattle.std.specs.Str.{chars}
use Rattle.haya_entry.specs.declared.types.EntryType.TheVariants.{Book}
use Rattle.haya_people.specs.Person.{PersonView}
use Rattle.haya_people.specs.Roles.{role_named}
use Rattle.haya_entry.specs.Tree.{Fields, no_fields}
use Rattle.haya_lines.specs.declared.error.LineError.TheVariants.{Shape, UnknownField, RefusedValue}
use Rattle.haya_lines.specs.FieldTable.{and_then, person_of, with_field}

abbrev bare : Fields
bare = no_fields (codes "x") Book

refused :
    (with_field (codes "title") (codes "a}b") bare ≡ Err RefusedValue)
    × (with_field (codes "titles") (codes "a}b") bare ≡ Err UnknownField)
    × (with_field (codes "affiliated") (codes "Kwan") bare ≡ Err Shape)
    × (with_field (codes "affiliated") (codes "editor:Kwan") bare ≡ Err RefusedValue)
unfolding chars
refused = (refl, refl, refl, refl)

-- the last language is kept
replaced :
    and_then (with_field (codes "language") (codes "de") bare) (with_field (codes "language") (codes "en"))
    ≡ Ok (record bare { language = Some (codes "en") })
replaced = refl

-- each author is kept, in order
all_kept : (roe doe : PersonView) → person_of (codes "Roe") ≡ Ok roe → person_of (codes "Doe") ≡ Ok doe
    → and_then (with_field (codes "author") (codes "Roe") bare) (with_field (codes "author") (codes "Doe"))
    ≡ Ok (record bare { authors = Some (roe ∷ doe ∷ []) })
all_kept roe doe r d = rw (r, d) refl

-- the second colon is the name's
cut_once : (kwan : PersonView) → person_of (codes "K:K") ≡ Ok kwan
    → with_field (codes "affiliated") (codes "translator:K:K") bare
    ≡ Ok (record bare { affiliated = Some (record { names = kwan ∷ []; role = role_named (codes "translator") } ∷ []) })
cut_once kwan k = rw k refl
