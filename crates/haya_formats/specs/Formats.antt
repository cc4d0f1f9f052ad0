-- The formats of a library's text: their names, and the one that is guessed from its first bytes.
use Rattle.std.specs.Prelude.{◌==◌, ◌||◌, ℕ, zero, suc, Bool, true, false, List, [], ◌∷◌, Option, Some, None, codes, find, is_some, length, nat_eq, option_and_then, option_map, unwrap_or, if◌then◌else◌}
use Rattle.std.specs.List.{starts_with}
use Rattle.std.specs.Str.{bytes_eq, trim_start}
use Rattle.json.specs.Json.{read_key, skip_value}
use Rattle.json.specs.Lex.{tokens}
use Rattle.json.specs.Token.{Token}
use Rattle.haya_csl.specs.declared.item_key.ItemKey.{ItemKey}
use Rattle.haya_csl.specs.declared.item_key.ItemKey.TheVariants.{CitationKey}
use Rattle.haya_formats.specs.Bibtex.{is_bibtex}
use Rattle.haya_formats.specs.Block.{first_text}
use Rattle.haya_formats.specs.FirstLine.{behind, is_yaml_text}
use Rattle.haya_formats.specs.declared.format.Format.{Format}
use Rattle.haya_formats.specs.declared.format.Format.TheVariants.{Hayagriva, Yaml, Bibtex, CslJson, JsonLines, Lines}

-- ---- names

-- the name of a format
abbrev pub format_name : Format → List ℕ
format_name Hayagriva = codes "hayagriva"
format_name Yaml = codes "yaml"
format_name Bibtex = codes "bibtex"
format_name (CslJson key) = codes "csl-json"
format_name JsonLines = codes "json-lines"
format_name Lines = codes "lines"

-- whether the text is the format's name
abbrev pub is_format_named : List ℕ → Format → Bool
is_format_named text format = bytes_eq (format_name format) text

-- the same format with this key, where it is CSL-JSON
abbrev pub keyed_by : ItemKey → Format → Format
keyed_by key (CslJson _) = CslJson key
keyed_by key format = format

-- the format with this name
abbrev pub format_named : List ℕ → Option Format
format_named text =
    find (is_format_named text)
    (Hayagriva ∷ Yaml ∷ Bibtex ∷ CslJson CitationKey ∷ JsonLines ∷ Lines ∷ [])

-- ---- members of an object

-- a member of an object: its name, and the tokens from its value on
abbrev pub MemberTokens : Type 0
MemberTokens = List ℕ × List Token

-- a member with this name, and those behind its value, where that is whole; none at the end
abbrev pub named_step : (List Token → List MemberTokens) → Option (List ℕ) → List Token
    → List MemberTokens
named_step more None ts = []
named_step more (Some name) ts = (name, ts) ∷ unwrap_or (option_map more (skip_value 127 ts)) []

-- the same, where a name is read
abbrev pub member_step : (List Token → List MemberTokens)
    → Option (Option (List ℕ) × List Token) → List MemberTokens
member_step more None = []
member_step more (Some p) = named_step more p.0 p.1

-- the members of an object up to the first whose value isn't whole, and no more than this number
unfoldable pub members_in : ℕ → List Token → List MemberTokens
members_in zero ts = []
members_in (suc n) ts = member_step (members_in n) (read_key ts)

-- whether tokens begin with a list
abbrev pub begins_list : List Token → Bool
begins_list [] = false
begins_list (Token.begin_object ∷ ts) = false
begins_list (Token.end_object ∷ ts) = false
begins_list (Token.begin_array ∷ ts) = true
begins_list (Token.end_array ∷ ts) = false
begins_list (Token.key s ∷ ts) = false
begins_list (Token.string s ∷ ts) = false
begins_list (Token.number s ∷ ts) = false
begins_list (Token.boolean b ∷ ts) = false
begins_list (Token.null ∷ ts) = false
begins_list (Token.bad ∷ ts) = false

-- whether the first of members with this name is a list
abbrev pub list_named : List ℕ → List MemberTokens → Bool
list_named name [] = false
list_named name (m ∷ ms) = if bytes_eq m.0 name then begins_list m.1 else list_named name ms

-- the same of the members that an object's text has. There are at most as many as bytes.
abbrev pub has_list : List ℕ → List ℕ → Bool
has_list name members = list_named name (members_in (length members) (tokens members))

-- ---- what is guessed

-- whether members begin with a text as `key`, as those of a line of JSON do: in hayagriva's format
-- the value of a member is an object
abbrev pub begins_key : List ℕ → Bool
begins_key members =
    is_some (option_and_then (behind (codes "\""))
    (option_and_then (behind (codes ":")) (behind (codes "\"key\"") members)))

-- the format of an object, or of a first part of it, with these members: those of CSL-JSON have
-- `items` that are a list
abbrev pub format_of_members : List ℕ → Format
format_of_members members =
    if begins_key members then JsonLines
    else if has_list (codes "items") members then CslJson CitationKey
    else Hayagriva

-- the format of a text that is an object with these members, or is none
abbrev pub format_of_object : List ℕ → Option (List ℕ) → Format
format_of_object text None =
    if is_bibtex text then Bibtex else if is_yaml_text text then Yaml else Lines
format_of_object text (Some members) = format_of_members members

-- the format that is guessed from a first text
abbrev pub format_in_text : List ℕ → Format
format_in_text text =
    if is_some (behind (codes "[") text) then CslJson CitationKey
    else format_of_object text (behind (codes "{") text)

-- the format that is guessed from a text's first bytes
abbrev pub format_of : List ℕ → Format
format_of text = format_in_text (first_text text)

-- The format of a first text that hayagriva's format is given for: white space aside, JSON begins
-- with `{`.
abbrev pub file_format_in_text : List ℕ → Format
file_format_in_text text =
    if (length (trim_start text) == 0) || starts_with nat_eq (trim_start text) (codes "{")
    then Hayagriva else Yaml

abbrev pub file_format : List ℕ → Format
file_format text = file_format_in_text (first_text text)

-- the format of a text that this is given for
abbrev pub given_format : Format → List ℕ → Format
given_format Hayagriva text = file_format text
given_format format text = format

-- the format that is given, otherwise the one that is guessed
abbrev pub format_for : Option Format → List ℕ → Format
format_for (Some format) text = given_format format text
format_for None text = format_of text
