-- Addresses by value.
use Rattle.std.specs.Prelude.{ℕ, List, Option, None, string_bytes}
use Rattle.haya_time.specs.declared.date.Date.{Date}
use Rattle.haya_values.specs.declared.url.QualifiedUrl.{QualifiedUrl}

-- the bytes of the address, and the date of the visit
pub record UrlView : Type 0 where
  pub value : List ℕ
  pub visit_date : Option Date

abbrev pub url_view : QualifiedUrl → UrlView
url_view url = record { value = string_bytes url.value; visit_date = url.visit_date }

-- the address that a text reads as: its bytes, without a date
abbrev pub undated : List ℕ → UrlView
undated text = record { value = text; visit_date = None }
