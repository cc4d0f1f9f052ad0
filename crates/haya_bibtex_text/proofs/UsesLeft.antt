-- The uses of strings in what is left of a list, by its first element.
use Rattle.std.proofs.Common.{◌≡◌, ℕ, ◌+◌, ◌<◌, List, ◌∷◌, ◌++◌, length, get_or, drop, map, ap, sym, ◌∙◌, add-one, drop-cons}
use Rattle.haya_bibtex_text.specs.FieldViews.{field_view, pieces_of}
use Rattle.haya_bibtex_text.specs.PieceViews.{piece_view}
use Rattle.haya_bibtex_text.specs.Strings.{Strings, with_definition}
use Rattle.haya_bibtex_text.specs.Uses.{definition_uses, field_uses, piece_uses, value_uses}
use Rattle.haya_bibtex_text.specs.declared.fields.WrittenField.{WrittenField}
use Rattle.haya_bibtex_text.specs.declared.pieces.Piece.{Piece}

drop_here : {A : Type 0} (xs : List A) (i : ℕ) (d : A) → i < length xs → drop i xs ≡ get_or xs i d ∷ drop (i + 1) xs
drop_here xs i d h = rw add-one (drop-cons xs i d h)

pub of_value : (ss : Strings) (ps : List Piece) (i : ℕ) (d : Piece) → i < length ps →
    value_uses ss (map piece_view (drop i ps))
    ≡ piece_uses ss (piece_view (get_or ps i d)) ++ value_uses ss (map piece_view (drop (i + 1) ps))
of_value ss ps i d h = ap (λ (l : List Piece). value_uses ss (map piece_view l)) (drop_here ps i d h)

pub of_fields : (ss : Strings) (fs : List WrittenField) (i : ℕ) (f : WrittenField) → i < length fs → f ≡ get_or fs i f →
    field_uses ss (map field_view (drop i fs))
    ≡ value_uses ss (map piece_view (pieces_of f.value)) ++ field_uses ss (map field_view (drop (i + 1) fs))
of_fields ss fs i f h is =
    ap (λ (l : List WrittenField). field_uses ss (map field_view l)) (drop_here fs i f h)
    ∙ ap (λ (x : WrittenField). value_uses ss (map piece_view (pieces_of x.value)) ++ field_uses ss (map field_view (drop (i + 1) fs))) (sym is)

pub of_definitions : (ss : Strings) (fs : List WrittenField) (i : ℕ) (f : WrittenField) → i < length fs → f ≡ get_or fs i f →
    definition_uses ss (map field_view (drop i fs))
    ≡ value_uses ss (map piece_view (pieces_of f.value)) ++ definition_uses (with_definition ss (field_view f)) (map field_view (drop (i + 1) fs))
of_definitions ss fs i f h is =
    ap (λ (l : List WrittenField). definition_uses ss (map field_view l)) (drop_here fs i f h)
    ∙ ap (λ (x : WrittenField). value_uses ss (map piece_view (pieces_of x.value)) ++ definition_uses (with_definition ss (field_view x)) (map field_view (drop (i + 1) fs))) (sym is)
