-- DOIs and addresses of fields, which are taken as they stand.
use Rattle.std.specs.Prelude.{ℕ, List, Option, None, Some, option_map, encode_utf8_all, if◌then◌else◌}
use Rattle.std.specs.Str.{chars}
use Rattle.haya_bibtex_values.specs.Addresses.{doi_in as doi_behind, is_address}
use Rattle.haya_bibtex_values.specs.Standing.{as_it_stands}
use Rattle.haya_time.specs.declared.date.Date.{Date}
use Rattle.haya_values.specs.Url.{UrlView}
use Rattle.haya_bibtex_fields.specs.FieldTexts.{unless_empty}

-- a text as it stands, unless nothing is left of it
abbrev pub standing_in : List ℕ → Option (List ℕ)
standing_in text = unless_empty (as_it_stands text)

-- a DOI
abbrev pub doi_in : List ℕ → Option (List ℕ)
doi_in text = unless_empty (encode_utf8_all (doi_behind (chars (as_it_stands text))))

-- an address on the web, if the text is one
abbrev pub address_in : List ℕ → Option (List ℕ)
address_in text =
    if is_address (chars (as_it_stands text)) then Some (as_it_stands text) else None

-- an address as it stands, whatever it is, with the date of the visit
abbrev pub url_in : List ℕ → Option Date → Option UrlView
url_in text date = option_map (λ t. record { value = t; visit_date = date }) (standing_in text)
