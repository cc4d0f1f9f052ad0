-- The table of serial numbers, archives and addresses. Of two rows that set one field the later is
-- preferred.
use Rattle.std.specs.Prelude.{ℕ, ◌++◌, Bool, true, false, List, [], ◌∷◌, Option, None, Some, is_some, option_and_then, option_map, codes, if◌then◌else◌}
use Rattle.std.specs.Option.{option_or}
use Rattle.haya_text.specs.Texts.{plain_view, without_short}
use Rattle.haya_bibtex_fields.specs.Addresses.{doi_in}
use Rattle.haya_bibtex_fields.specs.FieldTexts.{plain_in, unknown_in, unknown_of}
use Rattle.haya_bibtex_fields.specs.Serials.{EprintView, SerialView, arxiv, other, eprint_address, eprint_arxiv, eprint_in, eprint_kept, eprint_pmcid, eprint_pmid, eprint_unread, serial_in}
use Rattle.haya_bibtex_inherited.specs.Entries.{FieldBytes, has_field, text_of}
use Rattle.haya_bibtex_entries.specs.Drafts.{RowView}
use Rattle.haya_bibtex_entries.specs.Kinds.{takes_isbn, takes_issn}
use Rattle.haya_bibtex_entries.specs.Numbers.{number_text}
use Rattle.haya_bibtex_entries.specs.Publishers.{published_at}
use Rattle.haya_bibtex_entries.specs.Rows.{commands, host_level, row}
use Rattle.haya_bibtex_entries.specs.Values.{FieldValue, serial_value, text_value}
use Rattle.haya_bibtex_entries.specs.declared.draft.Level.{Level}
use Rattle.haya_bibtex_entries.specs.declared.draft.Level.TheVariants as level
use Rattle.haya_bibtex_entries.specs.declared.kinds.Kind.{Kind}
use Rattle.haya_bibtex_entries.specs.declared.kinds.NumberRule.{NumberRule}
use Rattle.haya_bibtex_entries.specs.declared.kinds.NumberRule.TheVariants.{Issue, Serial, Series}
use Rattle.haya_bibtex_entries.specs.declared.values.SerialField.{SerialField}
use Rattle.haya_bibtex_entries.specs.declared.values.SerialField.TheVariants as serials
use Rattle.haya_bibtex_entries.specs.declared.values.TextField.TheVariants as texts

-- a number as it is read
abbrev pub plain_serial_row : Level → SerialField → List ℕ → RowView
plain_serial_row l field text =
    row l (option_map (λ n. serial_value field n) (plain_in text)) (commands (unknown_in text))

abbrev pub doi_row : List ℕ → RowView
doi_row text = row level.Own (option_map (λ n. serial_value serials.Doi n) (doi_in text)) []

-- ---- `number` as a serial number, and `eid` where that sets none

abbrev pub serial_text : NumberRule → List FieldBytes → Option (List ℕ)
serial_text Issue fs = None
serial_text Series fs = None
serial_text Serial fs = number_text fs

abbrev pub numbered : SerialView → FieldValue
numbered (arxiv n) = serial_value serials.Arxiv n
numbered (other n) = serial_value serials.Other n

abbrev pub serial_row : List ℕ → RowView
serial_row text = row level.Own (option_map numbered (serial_in text)) (commands (unknown_in text))

abbrev pub is_other : Option SerialView → Bool
is_other None = false
is_other (Some (arxiv n)) = false
is_other (Some (other n)) = true

abbrev pub eid_text : NumberRule → List FieldBytes → Option (List ℕ)
eid_text rule fs =
    if is_other (option_and_then serial_in (serial_text rule fs)) then None
    else text_of fs (codes "eid")

-- ---- the number of an archive

abbrev pub archive_text : List FieldBytes → Option (List ℕ)
archive_text fs =
    option_or (text_of fs (codes "eprinttype")) (text_of fs (codes "archiveprefix"))

abbrev pub eprint_by : Option (List ℕ) → Option (List ℕ) → Option EprintView
eprint_by None archive = None
eprint_by (Some number) archive = eprint_in number archive

abbrev pub eprint_of : List FieldBytes → Option EprintView
eprint_of fs = eprint_by (text_of fs (codes "eprint")) (archive_text fs)

-- whether the entry has an address without it
abbrev pub has_address : List FieldBytes → Bool
has_address fs = if has_field fs (codes "url") then true else is_some (published_at fs)

-- its value but for an address, which is the entry's where it has no other
abbrev pub eprint_value : Option EprintView → Option FieldValue
eprint_value None = None
eprint_value (Some (eprint_arxiv n)) = Some (serial_value serials.Arxiv n)
eprint_value (Some (eprint_pmid n)) = Some (serial_value serials.Pmid n)
eprint_value (Some (eprint_pmcid n)) = Some (serial_value serials.Pmcid n)
eprint_value (Some (eprint_kept archive n)) =
    Some (text_value texts.Archive (without_short archive))
eprint_value (Some (eprint_address n)) = None
eprint_value (Some eprint_unread) = None

-- a number that is none of these is passed over, and so is an address beside another
abbrev pub eprint_passed : Bool → Option EprintView → List (List ℕ)
eprint_passed has None = []
eprint_passed has (Some (eprint_arxiv n)) = []
eprint_passed has (Some (eprint_pmid n)) = []
eprint_passed has (Some (eprint_pmcid n)) = []
eprint_passed has (Some (eprint_kept archive n)) = []
eprint_passed has (Some (eprint_address n)) = if has then codes "eprint" ∷ [] else []
eprint_passed has (Some eprint_unread) = codes "eprint" ∷ []

-- commands in the name of the archive are read where there is a number
abbrev pub archive_passed_by : Option (List ℕ) → Option (List ℕ) → List (List ℕ)
archive_passed_by None archive = []
archive_passed_by (Some number) archive = commands (unknown_of archive)

abbrev pub archive_passed : List FieldBytes → List (List ℕ)
archive_passed fs = archive_passed_by (text_of fs (codes "eprint")) (archive_text fs)

abbrev pub eprint_row : List FieldBytes → RowView
eprint_row fs =
    row level.Own (eprint_value (eprint_of fs))
    (archive_passed fs ++ eprint_passed (has_address fs) (eprint_of fs))

-- the number in another archive is a call number
abbrev pub kept_number : Option EprintView → Option FieldValue
kept_number None = None
kept_number (Some (eprint_kept archive n)) = Some (text_value texts.CallNumber (plain_view n))
kept_number (Some e) = None

abbrev pub kept_row : List FieldBytes → RowView
kept_row fs = row level.Own (kept_number (eprint_of fs)) []

-- ---- rows

abbrev pub archive_rows : Kind → List FieldBytes → List (Option RowView)
archive_rows k fs =
    option_map serial_row (serial_text k.number fs)
    ∷ option_map (plain_serial_row level.Own serials.Other) (eid_text k.number fs)
    ∷ Some (eprint_row fs)
    ∷ Some (kept_row fs)
    ∷ []

abbrev pub plain_rows : Kind → List FieldBytes → List (Option RowView)
plain_rows k fs =
    option_map doi_row (text_of fs (codes "doi"))
    ∷ option_map (plain_serial_row (host_level takes_isbn k) serials.Isbn) (text_of fs (codes "isbn"))
    ∷ option_map (plain_serial_row (host_level takes_issn k) serials.Issn) (text_of fs (codes "issn"))
    ∷ option_map (plain_serial_row level.Own serials.Pmid) (text_of fs (codes "pmid"))
    ∷ option_map (plain_serial_row level.Own serials.Pmcid) (text_of fs (codes "pmcid"))
    ∷ []
