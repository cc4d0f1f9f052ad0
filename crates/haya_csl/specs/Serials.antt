-- Serial numbers, without the addresses and names of series in front of them.
use Rattle.std.specs.Prelude.{ℕ, ◌==◌, ◌&&◌, Bool, not, List, [], ◌∷◌, length, drop, codes, is_some, unwrap_or, Option, None, Some, if◌then◌else◌}
use Rattle.std.specs.Str.{trim}
use Rattle.json.specs.Json.{Json}
use Rattle.haya_text.specs.Texts.{TextView, without_short}
use Rattle.haya_csl.specs.Markup.{markup_read}
use Rattle.haya_csl.specs.Kinds.{begins_with}
use Rattle.haya_csl.specs.Said.{SaidView}
use Rattle.haya_csl.specs.Texts.{said_as, says_some, text_said}
use Rattle.haya_csl.specs.declared.fields.SerialField.{SerialField}
use Rattle.haya_csl.specs.declared.fields.SerialField.TheVariants as serials

-- the resolvers of DOIs
abbrev pub addresses : List (List ℕ)
addresses =
    codes "https://doi.org/"
    ∷ codes "http://doi.org/"
    ∷ codes "https://dx.doi.org/"
    ∷ codes "http://dx.doi.org/"
    ∷ []

-- the names of series
abbrev pub series_names : List (List ℕ)
series_names = codes "doi:" ∷ codes "arXiv:" ∷ []

-- the text behind a prefix, if it begins with it, in any case
abbrev pub behind : List ℕ → List ℕ → Option (List ℕ)
behind prefix text =
    if begins_with prefix text then Some (drop (length prefix) text) else None

-- the text behind the first of these prefixes that it begins with
abbrev pub without : List (List ℕ) → List ℕ → List ℕ
without [] text = text
without (prefix ∷ prefixes) text = unwrap_or (behind prefix text) (without prefixes text)

-- the number alone: without the name of a series, an address, and white space around it
abbrev pub bare : List ℕ → List ℕ
bare text = trim (without addresses (trim (without series_names (trim text))))

-- a number of arXiv begins with its name
abbrev pub number_key : List ℕ → List ℕ
number_key text =
    if is_some (behind (codes "arXiv:") (trim text)) then codes "arxiv" else codes "serial"

-- one of arXiv, which isn't empty
abbrev pub is_of_arxiv : List ℕ → Bool
is_of_arxiv text =
    is_some (behind (codes "arXiv:") (trim text)) && not (length (bare text) == 0)

-- the key of a serial number
abbrev pub serial_key : SerialField → List ℕ → List ℕ
serial_key serials.Doi text = codes "doi"
serial_key serials.Pmid text = codes "pmid"
serial_key serials.Pmcid text = codes "pmcid"
serial_key serials.Isbn text = codes "isbn"
serial_key serials.Issn text = codes "issn"
serial_key serials.Arxiv text = codes "arxiv"
serial_key serials.Number text = number_key text

-- its text: some lose what is in front of the number
abbrev pub serial_text : SerialField → List ℕ → List ℕ
serial_text serials.Doi text = bare text
serial_text serials.Arxiv text = bare text
serial_text serials.Number text = bare text
serial_text _ text = text

-- a number under its key, but where it is empty
abbrev pub keyed : List ℕ → List ℕ → SaidView (List ℕ × List ℕ)
keyed key number = said_as (λ n. (key, n)) (says_some number)

abbrev pub serial_said : SerialField → Json → SaidView (List ℕ × List ℕ)
serial_said s j = text_said (λ text. keyed (serial_key s text) (serial_text s text)) j

-- where an item is kept, as a call number
abbrev pub archive_number_said : Json → SaidView TextView
archive_number_said j =
    said_as without_short (text_said (λ text. says_some (markup_read (bare text))) j)
