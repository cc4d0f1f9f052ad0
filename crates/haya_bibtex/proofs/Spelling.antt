-- Texts are the UTF-8 of their characters.
use Rattle.std.proofs.Common.{◌≡◌, ℕ, List}
use Rattle.std.specs.Prelude.{encode_utf8_all}
use Rattle.std.specs.Str.{IsUtf8, chars}
use Rattle.std.proofs.lemmas.Str.{encodes-chars}

pub text_is_spelled : (bs : List ℕ) → IsUtf8 bs → encode_utf8_all (chars bs) ≡ bs
text_is_spelled bs is = encodes-chars bs is
