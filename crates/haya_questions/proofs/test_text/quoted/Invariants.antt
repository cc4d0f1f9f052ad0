use Rattle.std.proofs.Common.{◌≡◌, ◌++◌, false, length, option_map}
use Rattle.std.specs.Prelude.{encode_utf8_all, string_bytes}
use denote.Text.{Utf8}
use denote.Shadow.{shadow}
use Rattle.std.specs.Str.{chars}
use Rattle.haya_questions.specs.TestText.{quoted}
use Rattle.haya_questions.proofs.test_text.quoted.Given as goal

-- what is read so far and what is left mean what all means
abbrev pub invariant-characters : goal.invariant-characters
invariant-characters l =
    shadow (Utf8 l.rest)
    × (option_map encode_utf8_all (quoted false (chars l.text))
    ≡ option_map (λ t. string_bytes l.meant ++ encode_utf8_all t) (quoted l.escaped (chars l.rest)))

abbrev pub decreases-characters : goal.decreases-characters
decreases-characters l = length l.rest
