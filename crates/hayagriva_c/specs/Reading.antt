-- Which libraries and selectors bytes say, and what is told where they say none.
use Rattle.std.specs.Prelude.{◌≡◌, ◌⊎◌, ◌+◌, ◌-◌, ◌==◌, ℕ, Bool, true, false, List, [], IfSome, IsSomeAnd, Option, None, Some, if◌then◌else◌, map, nat_lt, string_bytes}
use Rattle.std.specs.List.{list_any, scan}
use Rattle.std.specs.Str.{IsUtf8, chars}
use Rattle.std.specs.Str.Lines.{lines}
use Rattle.haya_bibtex.specs.Libraries.{DescribesAsBibtex, IsBibtexErrorOf}
use Rattle.haya_bibtex.specs.declared.error.BibtexReadError.{BibtexReadError}
use Rattle.haya_csl.specs.Libraries.{DescribesAsCsl, IsCslErrorOf}
use Rattle.haya_csl.specs.declared.item_key.ItemKey.TheVariants.{CitationKey}
use Rattle.haya_entry.specs.Tree.{Tree}
use Rattle.haya_formats.specs.Formats.{format_of}
use Rattle.haya_formats.specs.declared.format.Format.{Format as Guess}
use Rattle.haya_formats.specs.declared.format.Format.TheVariants as guess
use Rattle.haya_line_library.specs.Input.{Describes as LinesDescribe, rows_read}
use Rattle.haya_line_library.specs.TextReading.{FaultInText}
use Rattle.haya_line_library.specs.declared.error.InputError.{InputError}
use Rattle.haya_json.specs.JsonLines as json_lines
use Rattle.haya_json.specs.Libraries as json
use Rattle.haya_json.specs.declared.error.JsonLineError.{JsonLineError}
use Rattle.haya_json.specs.declared.error.ReadError.{ReadError}
use Rattle.haya_selectors.specs.BoundNames.{bound_names}
use Rattle.haya_yaml_library.specs.Libraries.{DescribesAsYaml, IsYamlErrorOf}
use Rattle.haya_yaml_library.specs.declared.error.YamlReadError.{YamlReadError}
use Rattle.hayagriva.specs.Fault.{fault}
use Rattle.hayagriva.specs.Reading.{EndsAt, IsFaultPlace, TextFails, TextReads}
use Rattle.hayagriva.specs.declared.SelectorError.{SelectorError}
use Rattle.hayagriva_c.specs.Reasons.{IsToldOfBibtex, IsToldOfJson, IsToldOfJsonLine, IsToldOfLine, IsToldOfSelector, IsToldOfYaml}
use Rattle.hayagriva_c.specs.Told.{IsMemoryTold, IsTold}
use Rattle.hayagriva_c.specs.declared.content.Asked.{Asked}
use Rattle.hayagriva_c.specs.declared.reading.Format.{Format}
use Rattle.hayagriva_c.specs.declared.reading.Format.TheVariants.{Lines, Json, Csl, JsonLines, Yaml, Bibtex}
use Rattle.hayagriva_c.specs.declared.told.Told.{Told}

-- the format with a number
abbrev pub numbered : ℕ → Option Format
numbered n =
    if n == 1 then Some Lines else
    if n == 2 then Some Json else
    if n == 3 then Some Csl else
    if n == 4 then Some JsonLines else
    if n == 5 then Some Yaml else
    if n == 6 then Some Bibtex else None

-- the one that is guessed
abbrev pub guessed : Guess → Format
guessed guess.Hayagriva = Json
guessed guess.Yaml = Yaml
guessed guess.Bibtex = Bibtex
guessed (guess.CslJson key) = Csl
guessed guess.JsonLines = JsonLines
guessed guess.Lines = Lines

-- the format that a number asks for, of bytes: 0 asks for the one that is guessed from them
abbrev pub asked_format : ℕ → List ℕ → Option Format
asked_format number bytes =
    if number == 0 then Some (guessed (format_of bytes)) else numbered number

-- the text says the library in the format
abbrev pub SaysIn : Format → List ℕ → List Tree → Type 0
SaysIn Lines text library = LinesDescribe text library
SaysIn Json text library = json.Describes text library
SaysIn Csl text library = DescribesAsCsl CitationKey text library
SaysIn JsonLines text library = json_lines.Describes text library
SaysIn Yaml text library = DescribesAsYaml text library
SaysIn Bibtex text library = DescribesAsBibtex text library

-- bytes say the library in the format with a number
abbrev pub Says : ℕ → List ℕ → List Tree → Type 0
Says number bytes library =
    IsUtf8 bytes × IsSomeAnd (asked_format number bytes) (λ format. SaysIn format bytes library)

-- ---- why not

-- an error that the text has is told, or there was no memory
abbrev pub TellsOf : (E : Type 0) → (E → Type 0) → (E → Told → Type 0) → Told → Type 0
TellsOf E Has IsToldOf told = ((e : E) × Has e × IsToldOf e told) ⊎ IsMemoryTold told

abbrev pub WhyNotLines : List ℕ → Told → Type 0
WhyNotLines text = TellsOf InputError (FaultInText (rows_read 1 0 (lines text))) IsToldOfLine

abbrev pub WhyNotJson : List ℕ → Told → Type 0
WhyNotJson text = TellsOf ReadError (json.IsErrorOf text) IsToldOfJson

abbrev pub WhyNotCsl : List ℕ → Told → Type 0
WhyNotCsl text = TellsOf ReadError (IsCslErrorOf CitationKey text) IsToldOfJson

abbrev pub WhyNotJsonLines : List ℕ → Told → Type 0
WhyNotJsonLines text = TellsOf JsonLineError (json_lines.IsErrorOf text) IsToldOfJsonLine

abbrev pub WhyNotYaml : List ℕ → Told → Type 0
WhyNotYaml text = TellsOf YamlReadError (IsYamlErrorOf text) IsToldOfYaml

abbrev pub WhyNotBibtex : List ℕ → Told → Type 0
WhyNotBibtex text = TellsOf BibtexReadError (IsBibtexErrorOf text) IsToldOfBibtex

abbrev pub WhyNotIn : Format → List ℕ → Told → Type 0
WhyNotIn Lines text told = WhyNotLines text told
WhyNotIn Json text told = WhyNotJson text told
WhyNotIn Csl text told = WhyNotCsl text told
WhyNotIn JsonLines text told = WhyNotJsonLines text told
WhyNotIn Yaml text told = WhyNotYaml text told
WhyNotIn Bibtex text told = WhyNotBibtex text told

-- no such format, bytes that aren't text, an error of the text in the format, or no memory to guess
-- the format
pub data WhyNoLibrary (number : ℕ) (bytes : List ℕ) (told : Told) : Type 0 where
  no_format : asked_format number bytes ≡ None → IsTold 7 0 0 0 [] [] [] told → WhyNoLibrary number bytes told
  no_text : ¬ IsUtf8 bytes → IsTold 5 0 0 0 [] [] [] told → WhyNoLibrary number bytes told
  refused : (format : Format) → asked_format number bytes ≡ Some format → IsUtf8 bytes →
      WhyNotIn format bytes told → WhyNoLibrary number bytes told
  no_guess : number ≡ 0 → IsMemoryTold told → WhyNoLibrary number bytes told

-- ---- selectors

-- how many parentheses are open behind a byte, where so many are in front of it: a `)` that closes none doesn't count
abbrev pub open_behind : ℕ → ℕ → ℕ
open_behind before byte = if byte == 40 then before + 1 else if byte == 41 then before - 1 else before

-- how many are open behind each byte
abbrev pub open_behind_each : List ℕ → List ℕ
open_behind_each = scan open_behind open_behind 0

-- whether more than a thousand are open somewhere
abbrev pub nests_too_deep : List ℕ → Bool
nests_too_deep bytes = list_any (nat_lt 1000) (open_behind_each bytes)

-- the text begins with the selector, which ends at a byte, and these are the names that it binds
pub record IsFront (text : List ℕ) (asked : Asked) (end : ℕ) : Type 0 where
  pub reads : TextReads (chars text) asked.selector
  pub ends : EndsAt text asked.selector end
  pub names : map string_bytes asked.names.items ≡ bound_names asked.selector

-- the bytes are a text that doesn't nest too deep, which begins with the selector
pub record AsksAs (bytes : List ℕ) (asked : Asked) (end : ℕ) : Type 0 where
  pub utf8 : IsUtf8 bytes
  pub nests : nests_too_deep bytes ≡ false
  pub front : IsFront bytes asked end

-- an error is told with a place that the text's fault may have
abbrev pub IsToldAt : List ℕ → SelectorError → Told → Type 0
IsToldAt text e told = (place : ℕ) × IsFaultPlace text (Some place) × IsToldOfSelector place e told

-- the first fault of the text, or no memory
pub data WhyNoFront (text : List ℕ) (told : Told) : Type 0 where
  refused_front : (e : SelectorError) → IfSome (fault e) (TextFails (chars text)) →
      IsToldAt text e told → WhyNoFront text told
  no_memory : IsMemoryTold told → WhyNoFront text told

-- too many parentheses are open somewhere, the bytes aren't text, or why the text begins with none
pub data WhyNoSelector (bytes : List ℕ) (told : Told) : Type 0 where
  too_deep : nests_too_deep bytes ≡ true → IsTold 8 0 0 0 [] [] [] told → WhyNoSelector bytes told
  not_text : ¬ IsUtf8 bytes → IsTold 5 0 0 0 [] [] [] told → WhyNoSelector bytes told
  no_front : IsUtf8 bytes → WhyNoFront bytes told → WhyNoSelector bytes told
