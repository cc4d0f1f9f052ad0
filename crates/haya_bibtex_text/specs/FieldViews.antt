-- Fields by value, and what begins a text behind one.
use Rattle.std.specs.Prelude.{map, ℕ, suc, ◌≤◌, length, ⊤, List, [], ◌∷◌}
use Rattle.haya_bibtex_text.specs.Fields.{Front, RawField, ended, more, other, nothing}
use Rattle.haya_bibtex_text.specs.PieceViews.{piece_view}
use Rattle.haya_bibtex_text.specs.declared.fields.Front.{Front as FrontOf}
use Rattle.haya_bibtex_text.specs.declared.fields.Front.TheVariants.{Ended, More, Other, Nothing}
use Rattle.haya_bibtex_text.specs.declared.fields.WrittenField.{WrittenField}
use Rattle.haya_bibtex_text.specs.declared.pieces.Piece.{Piece}
use Rattle.haya_bibtex_text.specs.declared.values.Pieces.{Pieces}
use Rattle.haya_bibtex_text.specs.declared.values.Pieces.TheVariants.{One, Several}

abbrev pub pieces_of : Pieces → List Piece
pieces_of (One p) = p ∷ []
pieces_of (Several v) = v.items

abbrev pub field_view : WrittenField → RawField
field_view f = record { name = f.name.now; value = map piece_view (pieces_of f.value) }

abbrev pub front_view : FrontOf → Front
front_view (Ended rest) = ended rest.now
front_view (More rest) = more rest.now
front_view Other = other
front_view Nothing = nothing

-- what is left has fewer characters than so many
abbrev pub FrontIsShorter : ℕ → FrontOf → Type 0
FrontIsShorter n (Ended rest) = suc (length rest.now) ≤ n
FrontIsShorter n (More rest) = suc (length rest.now) ≤ n
FrontIsShorter n Other = ⊤
FrontIsShorter n Nothing = ⊤
