-- Entries whose values are as their types say are read from what is printed of them.
use Rattle.std.proofs.Common.{◌≡◌, List, [], ◌∷◌, Option, None, Some, Ok, refl}
use Rattle.std.specs.Prelude.{IfSome}
use Rattle.std.specs.Result.{result_ok}
use Rattle.std.specs.Str.{chars}
use Rattle.haya_time.specs.DurationPrint.{duration_text, range_text}
use Rattle.haya_time.specs.DurationReading.{duration_read, range_read}
use Rattle.haya_time.specs.declared.duration.Duration.{Duration}
use Rattle.haya_time.specs.declared.duration.range.DurationRange.{DurationRange}
use Rattle.haya_values.specs.MaybeTyped.{TypedOrText}
use Rattle.haya_entry.specs.Tree.{Tree, Trees, Fields, node, no_trees, one_more}
use Rattle.haya_json.specs.Values.{range_or_text_of, duration_or_text_of}
use Rattle.haya_json.specs.Printed.{typed_json}
use Rattle.haya_json.specs.ReadBack.{FieldsAreBack, TreeIsBack, TreesAreBack, EntriesAreBack}
use Rattle.haya_json.specs.Readable.{IsReadableTyped, FieldsAreReadable, TreeIsReadable, TreesAreReadable, EntriesAreReadable}
use Rattle.haya_json.proofs.PersonsBack.{persons_back, affiliated_back}
use Rattle.haya_json.proofs.DatesBack.{date_back, url_back}
use Rattle.haya_json.proofs.TextsBack.{format_back, publisher_back}
use Rattle.haya_json.proofs.NumbersBack.{number_back, number_or_text_back, pages_back, typed_back}
use Rattle.haya_json.proofs.SerialsBack.{serials_back}

pub weaken : {V : Type 0} (P Q : V → Type 0) (o : Option V) → ((v : V) → P v → Q v) → IfSome o P → IfSome o Q
weaken P Q None f h = h
weaken P Q (Some v) f h = f v h

pub always : {V : Type 0} (Q : V → Type 0) (o : Option V) → ((v : V) → Q v) → IfSome o Q
always Q None f = tt
always Q (Some v) f = f v

range_back : (v : TypedOrText DurationRange) → IsReadableTyped (λ text. result_ok (range_read (chars text))) range_text v → range_or_text_of (typed_json range_text v) ≡ Ok v
unfolding range_or_text_of typed_json
range_back v h = typed_back (λ text. result_ok (range_read (chars text))) range_text v h

duration_back : (v : TypedOrText Duration) → IsReadableTyped (λ text. result_ok (duration_read (chars text))) duration_text v → duration_or_text_of (typed_json duration_text v) ≡ Ok v
unfolding duration_or_text_of typed_json
duration_back v h = typed_back (λ text. result_ok (duration_read (chars text))) duration_text v h

fields_back : (f : Fields) → FieldsAreReadable f → FieldsAreBack f
fields_back f r = record {
  title = weaken _ _ f.title format_back r.title;
  location = weaken _ _ f.location format_back r.location;
  organization = weaken _ _ f.organization format_back r.organization;
  archive = weaken _ _ f.archive format_back r.archive;
  archive_location = weaken _ _ f.archive_location format_back r.archive_location;
  call_number = weaken _ _ f.call_number format_back r.call_number;
  note = weaken _ _ f.note format_back r.note;
  abstract_ = weaken _ _ f.abstract_ format_back r.abstract_;
  genre = weaken _ _ f.genre format_back r.genre;
  authors = always _ f.authors persons_back;
  editors = always _ f.editors persons_back;
  affiliated = weaken _ _ f.affiliated affiliated_back r.affiliated;
  date = weaken _ _ f.date date_back r.date;
  publisher = weaken _ _ f.publisher publisher_back r.publisher;
  url = weaken _ _ f.url url_back r.url;
  issue = weaken _ _ f.issue number_or_text_back r.issue;
  chapter = weaken _ _ f.chapter number_or_text_back r.chapter;
  volume = weaken _ _ f.volume number_or_text_back r.volume;
  edition = weaken _ _ f.edition number_or_text_back r.edition;
  volume_total = weaken _ _ f.volume_total number_back r.volume_total;
  page_total = weaken _ _ f.page_total number_back r.page_total;
  page_range = weaken _ _ f.page_range pages_back r.page_range;
  time_range = weaken _ _ f.time_range range_back r.time_range;
  runtime = weaken _ _ f.runtime duration_back r.runtime;
  serial_number = weaken _ _ f.serial_number serials_back r.serial_number;
  language = always _ f.language (λ text. refl);
}

mutual
  pub tree_back : (t : Tree) → TreeIsReadable t → TreeIsBack t
  tree_back (node f ps) r = (fields_back f r.0, trees_back ps r.1)

  trees_back : (ts : Trees) → TreesAreReadable ts → TreesAreBack ts
  trees_back no_trees r = tt
  trees_back (one_more t ts) r = (tree_back t r.0, trees_back ts r.1)

pub entries_back : (ts : List Tree) → EntriesAreReadable ts → EntriesAreBack ts
entries_back [] r = tt
entries_back (t ∷ ts) r = (tree_back t r.0, entries_back ts r.1)
