use Rattle.std.proofs.Common.{◌≡◌, ◌++◌, drop, map}
use Rattle.std.specs.Str.{chars}
use Rattle.std.specs.String.{string_bytes}
use Rattle.haya_bibtex_text.specs.Bibliography.{unknown_string}
use Rattle.haya_bibtex_text.specs.BibliographyViews.{note_view}
use Rattle.haya_bibtex_text.specs.Definitions.{strings_view}
use Rattle.haya_bibtex_text.specs.PieceViews.{piece_view}
use Rattle.haya_bibtex_text.specs.Strings.{value_text, value_unknown_names}
use Rattle.haya_bibtex_text.specs.Uses.{spend, value_uses}
use Rattle.haya_bibtex_text.proofs.resolved.value_text.Given as goal

-- what there is so far, and what comes of the pieces that are left, is what comes of all
abbrev pub invariant-pieces : goal.invariant-pieces
invariant-pieces l = record {
  text : chars (string_bytes l.text) ++ value_text (strings_view l.strings) (map piece_view (drop l.piece-index l.value))
      ≡ value_text (strings_view l.strings) (map piece_view l.value);
  unknown : map note_view l.passed_over.items
      ++ map unknown_string (value_unknown_names (strings_view l.strings) (map piece_view (drop l.piece-index l.value)))
      ≡ map note_view l.initial.passed_over.items
      ++ map unknown_string (value_unknown_names (strings_view l.strings) (map piece_view l.value));
  room : spend l.room (value_uses (strings_view l.strings) (map piece_view (drop l.piece-index l.value)))
      ≡ spend l.initial.room (value_uses (strings_view l.strings) (map piece_view l.value));
}
