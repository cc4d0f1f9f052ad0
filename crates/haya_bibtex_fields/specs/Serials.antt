-- Serial numbers of fields, and numbers of archives.
use Rattle.std.specs.Prelude.{ℕ, ◌||◌, Bool, List, map, codes, Option, None, Some, option_and_then, option_map, encode_utf8_all, string_bytes, if◌then◌else◌}
use Rattle.std.specs.Char.{to_ascii_lowercase}
use Rattle.std.specs.Str.{bytes_eq, chars}
use Rattle.haya_bibtex_values.specs.Addresses.{is_address}
use Rattle.haya_bibtex_values.specs.Archives.{arxiv_number, is_of_arxiv}
use Rattle.haya_text.specs.Chunks.{Chunk, chunks}
use Rattle.haya_bibtex_fields.specs.Addresses.{standing_in}
use Rattle.haya_bibtex_fields.specs.FieldTexts.{formatted_in, plain_in, unless_empty}
use Rattle.haya_bibtex_fields.specs.declared.serials.Serial.{Serial}
use Rattle.haya_bibtex_fields.specs.declared.serials.Serial.TheVariants as serials
use Rattle.haya_bibtex_fields.specs.declared.eprints.Eprint.{Eprint}
use Rattle.haya_bibtex_fields.specs.declared.eprints.Eprint.TheVariants as eprints

-- a number of arXiv, without `arXiv:` in front, unless nothing is left
abbrev pub arxiv_bytes : List ℕ → Option (List ℕ)
arxiv_bytes text = unless_empty (encode_utf8_all (arxiv_number (chars text)))

-- ---- the number of a report or the like

-- a number of arXiv, or any other serial number
pub data SerialView : Type 0 where
  arxiv : List ℕ → SerialView
  other : List ℕ → SerialView

abbrev pub serial_view : Serial → SerialView
serial_view (serials.Arxiv n) = arxiv (string_bytes n)
serial_view (serials.Other n) = other (string_bytes n)

-- a number that begins with `arXiv:` is one of arXiv
abbrev pub serial_of : List ℕ → Option SerialView
serial_of text =
    if is_of_arxiv (chars text) then option_map (λ n. arxiv n) (arxiv_bytes text)
    else Some (other text)

abbrev pub serial_in : List ℕ → Option SerialView
serial_in text = option_and_then serial_of (plain_in text)

-- ---- the number of an archive

-- a number of arXiv, of PubMed, of PubMed Central; what another archive has, and under which number;
-- an address; or a text that is none of these
pub data EprintView : Type 0 where
  eprint_arxiv : List ℕ → EprintView
  eprint_pmid : List ℕ → EprintView
  eprint_pmcid : List ℕ → EprintView
  eprint_kept : List Chunk → List ℕ → EprintView
  eprint_address : List ℕ → EprintView
  eprint_unread : EprintView

abbrev pub eprint_view : Eprint → EprintView
eprint_view (eprints.Arxiv n) = eprint_arxiv (string_bytes n)
eprint_view (eprints.Pmid n) = eprint_pmid (string_bytes n)
eprint_view (eprints.Pmcid n) = eprint_pmcid (string_bytes n)
eprint_view (eprints.Kept archive n) = eprint_kept (chunks archive) (string_bytes n)
eprint_view (eprints.Address n) = eprint_address (string_bytes n)
eprint_view eprints.Unread = eprint_unread

-- whether a name is this word, in any case of ASCII letters
abbrev pub is_word : List ℕ → List ℕ → Bool
is_word word name = bytes_eq (map to_ascii_lowercase name) (map to_ascii_lowercase word)

-- the number by the name of its archive, and by the archive as a text
abbrev pub eprint_by : List ℕ → Option (List Chunk) → List ℕ → Option EprintView
eprint_by name archive number =
    if is_word (codes "arxiv") name then option_map (λ n. eprint_arxiv n) (arxiv_bytes number)
    else if is_word (codes "pubmed") name || is_word (codes "pmid") name
    then Some (eprint_pmid number)
    else if is_word (codes "pmc") name || is_word (codes "pmcid") name
    then Some (eprint_pmcid number)
    else option_map (λ a. eprint_kept a number) archive

-- a number without an archive: an address, or none that is read
abbrev pub eprint_alone : List ℕ → EprintView
eprint_alone number = if is_address (chars number) then eprint_address number else eprint_unread

abbrev pub eprint_of : Option (List ℕ) → Option (List Chunk) → List ℕ → Option EprintView
eprint_of None archive number = Some (eprint_alone number)
eprint_of (Some name) archive number = eprint_by name archive number

-- the number and the name of its archive, if that is there, as they are written
abbrev pub eprint_in : List ℕ → Option (List ℕ) → Option EprintView
eprint_in number name =
    option_and_then (eprint_of (option_and_then plain_in name) (option_and_then formatted_in name))
    (standing_in number)
