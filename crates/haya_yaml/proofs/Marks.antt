-- The byte order mark at the front of a text.
use Rattle.std.proofs.Common.{◌≡◌, ℕ, List, ◌++◌, drop, if◌then◌else◌, sym, ap, ◌∙◌}
use Rattle.std.specs.Prelude.{encode_utf8}
use Rattle.std.specs.Str.{IsUtf8}
use Rattle.std.proofs.lemmas.Str.{chars_past_char}
use Rattle.std.proofs.Math.Utf8.{encode}
use Rattle.haya_yaml.specs.Documents.{is_marked, unmarked}

pub mark_dropped : (text rest : List ℕ) → IsUtf8 text → text ≡ encode_utf8 65279 ++ rest → rest ≡ unmarked text
unfolding encode
mark_dropped text rest utf8 is =
    sym (ap (λ cs. if is_marked cs then drop 3 text else text) (chars_past_char text rest 65279 utf8 is) ∙ ap (drop 3) is)
