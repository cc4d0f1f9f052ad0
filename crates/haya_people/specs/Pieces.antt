-- Pieces of which a form of a name is put together.
use Rattle.std.specs.Prelude.{ℕ, List, option_map}
use Rattle.haya_people.specs.declared.forms.Piece.{Piece}
use Rattle.haya_people.specs.declared.forms.PieceText.{PieceText}
use Rattle.haya_people.specs.declared.forms.PieceText.TheVariants.{Whole, ByInitials}
use Rattle.haya_people.specs.Forms.{between}
use Rattle.haya_people.specs.Initials.{initials_of}
use Rattle.haya_people.specs.InitialsLeft.{style_of}

abbrev pub text_bytes : PieceText → List ℕ
text_bytes (Whole text) = text.now
text_bytes (ByInitials s) = initials_of (style_of s) s.given_name.now

abbrev pub piece_bytes : Piece → List ℕ
piece_bytes p = between p.before.now p.behind.now (option_map text_bytes p.text)
