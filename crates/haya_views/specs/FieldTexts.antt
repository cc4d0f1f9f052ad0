-- The fields of an entry as texts.
use Rattle.std.specs.Prelude.{ℕ, List, [], ◌∷◌, ◌++◌, false, Option, None, option_and_then, option_map, unwrap_or, codes, flat_map}
use Rattle.std.specs.Map.{lookup}
use Rattle.std.specs.Str.{bytes_eq}
use Rattle.haya_entry.specs.Tree.{Tree, fields, keyed_serial_number}
use Rattle.haya_numbers.specs.NumericPrinted.{shown_numeric}
use Rattle.haya_numbers.specs.PagesPrinted.{shown_pages}
use Rattle.haya_people.specs.Forms.{name_first}
use Rattle.haya_people.specs.Person.{PersonView}
use Rattle.haya_text.specs.Printing.{text_display, to_serialized}
use Rattle.haya_text.specs.Texts.{TextView, short_display}
use Rattle.haya_time.specs.DatePrinted.{date_text}
use Rattle.haya_time.specs.DurationPrint.{duration_text, range_text}
use Rattle.haya_values.specs.MaybeTyped.{TypedOrText, Typed, Text}
use Rattle.haya_values.specs.Publisher.{PublisherView}
use Rattle.haya_views.specs.declared.text_form.TextForm.{TextForm}
use Rattle.haya_views.specs.declared.text_form.TextForm.TheVariants.{MarkedUp, Plain, Short}

-- the text in a form: the long one with its signs, the long one as it is shown, or the short one as it
-- is shown, in whose place the long one is where there is none
abbrev pub form_text : TextForm → TextView → List ℕ
form_text MarkedUp text = to_serialized text.value
form_text Plain text = text_display text.value
form_text Short text = short_display text

abbrev pub publisher_name : Option PublisherView → Option TextView
publisher_name publisher = option_and_then (λ p. p.name) publisher

-- a line for each person: the family name first
abbrev pub people_text : List PersonView → List ℕ
people_text people = flat_map (λ p. name_first false false p ++ 10 ∷ []) people

-- a typed value as it is shown, or the text
abbrev pub typed_text : {V : Type 0} → (V → List ℕ) → TypedOrText V → List ℕ
typed_text show (Typed v) = show v
typed_text show (Text text) = text

-- each name that a field has a text by, with the text in a form; what isn't a text of chunks has one
-- in all forms
abbrev pub text_table : Tree → TextForm → List (List ℕ × Option (List ℕ))
text_table t form =
    (codes "title", option_map (form_text form) (fields t).title)
    ∷ (codes "location", option_map (form_text form) (fields t).location)
    ∷ (codes "organization", option_map (form_text form) (fields t).organization)
    ∷ (codes "archive", option_map (form_text form) (fields t).archive)
    ∷ (codes "archive-location", option_map (form_text form) (fields t).archive_location)
    ∷ (codes "call-number", option_map (form_text form) (fields t).call_number)
    ∷ (codes "note", option_map (form_text form) (fields t).note)
    ∷ (codes "abstract", option_map (form_text form) (fields t).abstract_)
    ∷ (codes "genre", option_map (form_text form) (fields t).genre)
    ∷ (codes "author", option_map people_text (fields t).authors)
    ∷ (codes "editor", option_map people_text (fields t).editors)
    ∷ (codes "date", option_map date_text (fields t).date)
    ∷ (codes "publisher", option_map (form_text form) (publisher_name (fields t).publisher))
    ∷ (codes "url", option_map (λ u. u.value) (fields t).url)
    ∷ (codes "issue", option_map (typed_text shown_numeric) (fields t).issue)
    ∷ (codes "chapter", option_map (typed_text shown_numeric) (fields t).chapter)
    ∷ (codes "volume", option_map (typed_text shown_numeric) (fields t).volume)
    ∷ (codes "edition", option_map (typed_text shown_numeric) (fields t).edition)
    ∷ (codes "volume-total", option_map shown_numeric (fields t).volume_total)
    ∷ (codes "page-total", option_map shown_numeric (fields t).page_total)
    ∷ (codes "page-range", option_map (typed_text shown_pages) (fields t).page_range)
    ∷ (codes "time-range", option_map (typed_text range_text) (fields t).time_range)
    ∷ (codes "runtime", option_map (typed_text duration_text) (fields t).runtime)
    ∷ (codes "serial-number", keyed_serial_number (codes "serial") t)
    ∷ (codes "language", (fields t).language)
    ∷ (codes "doi", keyed_serial_number (codes "doi") t)
    ∷ (codes "isbn", keyed_serial_number (codes "isbn") t)
    ∷ (codes "issn", keyed_serial_number (codes "issn") t)
    ∷ (codes "pmid", keyed_serial_number (codes "pmid") t)
    ∷ (codes "pmcid", keyed_serial_number (codes "pmcid") t)
    ∷ (codes "arxiv", keyed_serial_number (codes "arxiv") t)
    ∷ []

-- the text of the field with a name in a form; affiliated persons have none
abbrev pub field_text : Tree → List ℕ → TextForm → Option (List ℕ)
field_text t name form = unwrap_or (lookup (bytes_eq name) (text_table t form)) None
