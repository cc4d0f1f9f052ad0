-- Fields of one text.
use Rattle.std.proofs.Common.{◌≡◌, List, ℕ, [], ◌∷◌, true, cond, map, ap, sym, ◌∙◌, append-nil}
use Rattle.std.specs.List.{list_all}
use Rattle.haya_bibtex_text.specs.Bibliography.{FieldText, field_if_filled, field_text}
use Rattle.haya_bibtex_text.specs.Classes.{is_white}
use Rattle.haya_bibtex_text.specs.Pieces.{text}
use Rattle.haya_bibtex_text.specs.FieldViews.{field_view, pieces_of}
use Rattle.haya_bibtex_text.specs.PieceViews.{piece_view}
use Rattle.haya_bibtex_text.specs.Strings.{Strings}
use Rattle.haya_bibtex_text.specs.declared.fields.WrittenField.{WrittenField}

-- a field whose one text is white is none
pub white_field : (ss : Strings) (name cs : List ℕ) → true ≡ list_all is_white cs
    → field_if_filled ss (record { name = name; value = text cs ∷ [] }) ≡ []
white_field ss name cs white =
    let f : FieldText = field_text ss (record { name = name; value = text cs ∷ [] }) in
    ap (λ b. cond b [] (f ∷ [])) (ap (list_all is_white) (append-nil cs) ∙ sym white)

-- a field as it is written, whose value is one text
pub written_text : (ss : Strings) (w : WrittenField) (cs : List ℕ) → map piece_view (pieces_of w.value) ≡ text cs ∷ []
    → field_if_filled ss (record { name = w.name.now; value = text cs ∷ [] }) ≡ field_if_filled ss (field_view w)
written_text ss w cs is =
    ap (λ v. field_if_filled ss (record { name = w.name.now; value = v })) (sym is)
