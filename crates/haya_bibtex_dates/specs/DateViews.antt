-- Fields and dates of an entry by value.
use Rattle.std.specs.Prelude.{ℕ, List, Option, option_map}
use Rattle.std.specs.Str.{chars}
use denote.Ref.{Bor}
use Rattle.haya_bibtex_dates.specs.Entries as entries
use Rattle.haya_bibtex_dates.specs.declared.entries.DateTexts.{DateTexts}
use Rattle.haya_bibtex_dates.specs.declared.entries.EntryDate.{EntryDate}

abbrev pub text_chars : Option (Bor (List ℕ)) → Option (List ℕ)
text_chars text = option_map (λ t. chars t.now) text

abbrev pub texts_view : DateTexts → entries.DateTexts
texts_view t = record {
  date = text_chars t.date;
  year = option_map (λ p. (chars p.0.now, chars p.1.now)) t.year;
  month = text_chars t.month;
  day = option_map (λ t. t.now) t.day;
}

abbrev pub date_view : EntryDate → entries.EntryDate
date_view e = record {
  date = e.date;
  lost_date = e.lost_date;
  lost_year = e.lost_year;
  lost_month = e.lost_month;
  lost_day = e.lost_day;
}
