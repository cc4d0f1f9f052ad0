-- The strings that are defined, by value.
use Rattle.std.specs.Prelude.{ℕ, List, Option, Some, None, encode_utf8_all, option_map}
use Rattle.std.specs.BTreeMap.{get_by_text}
use Rattle.std.specs.Str.{chars}
use Rattle.std.specs.String.{string_bytes}
use Rattle.haya_bibtex_text.specs.Predefined.{predefined_strings}
use Rattle.haya_bibtex_text.specs.Strings.{Strings}
use Rattle.haya_bibtex_text.specs.declared.definitions.Definitions.{Definitions}

-- the first of two texts, or the second
abbrev pub text_or : Option (List ℕ) → Option (List ℕ) → Option (List ℕ)
text_or None other = other
text_or (Some t) other = Some t

-- a name stands for the text that is defined for it, otherwise for that of the start
abbrev pub strings_view : Definitions → Strings
strings_view d n =
    text_or (option_map (λ t. chars (string_bytes t)) (get_by_text d.texts (encode_utf8_all n)))
    (predefined_strings n)
