-- The languages of entries, by the names that LaTeX has for them.
use Rattle.std.specs.Prelude.{ℕ, ◌==◌, List, [], ◌∷◌, map, codes, Option, None, option_and_then, option_map, unwrap_or, if◌then◌else◌}
use Rattle.std.specs.Char.{to_ascii_lowercase}
use Rattle.std.specs.List.{slice_split}
use Rattle.std.specs.Option.{option_or}
use Rattle.std.specs.Str.{bytes_eq, trim}
use Rattle.haya_bibtex_fields.specs.FieldTexts.{plain_in}
use Rattle.haya_bibtex_fields.specs.Tables.{Table, text_under}

-- the names of languages and their tags: English; German, Dutch and their like; French, Italian and
-- their like; the languages of Spain and Portugal, and of America; those of the north; Slavic
-- languages; other languages of Europe and the Near East; languages of Asia
unfoldable pub language_tags : Table
language_tags =
    (codes "english", codes "en-US")
    ∷ (codes "american", codes "en-US")
    ∷ (codes "usenglish", codes "en-US")
    ∷ (codes "british", codes "en-GB")
    ∷ (codes "ukenglish", codes "en-GB")
    ∷ (codes "canadian", codes "en-CA")
    ∷ (codes "australian", codes "en-AU")
    ∷ (codes "newzealand", codes "en-NZ")
    ∷ (codes "german", codes "de-DE")
    ∷ (codes "ngerman", codes "de-DE")
    ∷ (codes "austrian", codes "de-AT")
    ∷ (codes "naustrian", codes "de-AT")
    ∷ (codes "swissgerman", codes "de-CH")
    ∷ (codes "nswissgerman", codes "de-CH")
    ∷ (codes "dutch", codes "nl-NL")
    ∷ (codes "afrikaans", codes "af-ZA")
    ∷ (codes "french", codes "fr-FR")
    ∷ (codes "francais", codes "fr-FR")
    ∷ (codes "frenchb", codes "fr-FR")
    ∷ (codes "acadian", codes "fr-CA")
    ∷ (codes "canadien", codes "fr-CA")
    ∷ (codes "italian", codes "it-IT")
    ∷ (codes "romanian", codes "ro-RO")
    ∷ (codes "latin", codes "la")
    ∷ (codes "spanish", codes "es-ES")
    ∷ (codes "mexican", codes "es-MX")
    ∷ (codes "catalan", codes "ca-ES")
    ∷ (codes "galician", codes "gl-ES")
    ∷ (codes "basque", codes "eu-ES")
    ∷ (codes "portuguese", codes "pt-PT")
    ∷ (codes "portuges", codes "pt-PT")
    ∷ (codes "brazil", codes "pt-BR")
    ∷ (codes "brazilian", codes "pt-BR")
    ∷ (codes "danish", codes "da-DK")
    ∷ (codes "swedish", codes "sv-SE")
    ∷ (codes "norsk", codes "nb-NO")
    ∷ (codes "norwegian", codes "nb-NO")
    ∷ (codes "nynorsk", codes "nn-NO")
    ∷ (codes "icelandic", codes "is-IS")
    ∷ (codes "finnish", codes "fi-FI")
    ∷ (codes "estonian", codes "et-EE")
    ∷ (codes "latvian", codes "lv-LV")
    ∷ (codes "lithuanian", codes "lt-LT")
    ∷ (codes "polish", codes "pl-PL")
    ∷ (codes "czech", codes "cs-CZ")
    ∷ (codes "slovak", codes "sk-SK")
    ∷ (codes "slovene", codes "sl-SI")
    ∷ (codes "slovenian", codes "sl-SI")
    ∷ (codes "croatian", codes "hr-HR")
    ∷ (codes "serbian", codes "sr-RS")
    ∷ (codes "bulgarian", codes "bg-BG")
    ∷ (codes "russian", codes "ru-RU")
    ∷ (codes "ukrainian", codes "uk-UA")
    ∷ (codes "hungarian", codes "hu-HU")
    ∷ (codes "magyar", codes "hu-HU")
    ∷ (codes "greek", codes "el-GR")
    ∷ (codes "polutonikogreek", codes "el-GR")
    ∷ (codes "turkish", codes "tr-TR")
    ∷ (codes "irish", codes "ga-IE")
    ∷ (codes "welsh", codes "cy-GB")
    ∷ (codes "esperanto", codes "eo")
    ∷ (codes "hebrew", codes "he-IL")
    ∷ (codes "arabic", codes "ar")
    ∷ (codes "persian", codes "fa-IR")
    ∷ (codes "farsi", codes "fa-IR")
    ∷ (codes "hindi", codes "hi-IN")
    ∷ (codes "sanskrit", codes "sa")
    ∷ (codes "thai", codes "th-TH")
    ∷ (codes "vietnamese", codes "vi-VN")
    ∷ (codes "indonesian", codes "id-ID")
    ∷ (codes "chinese", codes "zh-CN")
    ∷ (codes "japanese", codes "ja-JP")
    ∷ (codes "korean", codes "ko-KR") ∷ []

-- the tag of a language by its name, in any case
abbrev pub tag_of : List ℕ → Option (List ℕ)
tag_of name = text_under language_tags (map to_ascii_lowercase name)

-- the language that a text names, or the text as it is
abbrev pub language_in : List ℕ → Option (List ℕ)
language_in text = option_map (λ name. unwrap_or (tag_of name) name) (plain_in text)

-- ---- options of languages

abbrev pub comma : ℕ
comma = 44

abbrev pub equals_sign : ℕ
equals_sign = 61

-- the language that an option names, by its parts around the first equals sign
abbrev pub variant_by : List (List ℕ) → Option (List ℕ)
variant_by [] = None
variant_by (name ∷ []) = None
variant_by (name ∷ value ∷ []) =
    if bytes_eq (trim name) (codes "variant") then tag_of (trim value) else None
variant_by (name ∷ value ∷ more ∷ rest) = None

abbrev pub variant_of : List ℕ → Option (List ℕ)
variant_of option = variant_by (slice_split (λ b. b == equals_sign) option)

-- the language of the first of these options that names one
abbrev pub variant_among : List (List ℕ) → Option (List ℕ)
variant_among [] = None
variant_among (option ∷ options) = option_or (variant_of option) (variant_among options)

-- the language of the first option `variant` of a text that names one
abbrev pub variant_in : List ℕ → Option (List ℕ)
variant_in text =
    option_and_then (λ options. variant_among (slice_split (λ b. b == comma) options))
    (plain_in text)
