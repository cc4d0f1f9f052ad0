-- The fields of entries that were read.
use Rattle.std.proofs.Common.{◌≡◌, ℕ, Bool, true, false, List, [], ◌∷◌, Option, Some, Result, Ok, Err, refl, sym, subst, cond}
use Rattle.std.specs.Prelude.{IfSome, codes, is_some, if◌then◌else◌}
use Rattle.std.specs.List.{AllByRecursion}
use Rattle.std.specs.Map.{lookup}
use Rattle.std.specs.Str.{bytes_eq}
use Rattle.json.specs.Json.{Json}
use Rattle.haya_entry.specs.Tree.{Tree, Fields, node, fields, parents, no_fields}
use Rattle.haya_entry.specs.declared.types.EntryType.{EntryType}
use Rattle.haya_json.specs.LostParts.{date_part, format_part, many_lost, parts_lost, person_part, publisher_part, range_part, roles_part, url_part}
use Rattle.haya_json.specs.Notes.{LostView, lost_here, unread}
use Rattle.haya_json.specs.Refusal.{Refusal}
use Rattle.haya_json.specs.Parts.{plain_of}
use Rattle.haya_json.specs.Values.{format_of, persons_of, affiliated_of, date_of, publisher_of, url_of, number_of, number_or_text_of, pages_or_text_of, range_or_text_of, duration_or_text_of, serials_of}
use Rattle.haya_json.specs.Fields.{Setter, entry_but, field_setter, field_table, none_lost, number_table, read_into, serial_setter, set_by, text_table, with_field}
use Rattle.haya_json.specs.Readable.{AreReadablePages, IsReadableText, IsReadablePublisher, HasNamedRole, IsReadableDate, IsReadableUrl, IsReadableNumber, IsReadableNumberOrText, AreInOrder, FieldsAreReadable}
use Rattle.haya_json.specs.declared.fault.Why.TheVariants.{Twice}
use Rattle.haya_json.proofs.SerialsRead.{serials_read_again}
use Rattle.haya_json.proofs.TextsRead.{HasTexts}
use Rattle.haya_json.proofs.ValuesRead.{ReadAgain, ReadableDuration, ReadableRange, format_read_again, publisher_read_again, affiliated_read_again, date_read_again, url_read_again, number_read_again, number_or_text_read_again, pages_read_again, duration_read_again, range_read_again}

-- each field is as its type says; texts, people and numbers stand apart
abbrev pub TextsWereRead : Fields → Type 0
TextsWereRead f =
    IfSome f.title IsReadableText
    × IfSome f.location IsReadableText
    × IfSome f.organization IsReadableText
    × IfSome f.archive IsReadableText
    × IfSome f.archive_location IsReadableText
    × IfSome f.call_number IsReadableText
    × IfSome f.note IsReadableText
    × IfSome f.abstract_ IsReadableText
    × IfSome f.genre IsReadableText

abbrev pub PeopleWereRead : Fields → Type 0
PeopleWereRead f =
    IfSome f.affiliated (AllByRecursion HasNamedRole)
    × IfSome f.date IsReadableDate
    × IfSome f.publisher IsReadablePublisher
    × IfSome f.url IsReadableUrl

abbrev pub NumbersWereRead : Fields → Type 0
NumbersWereRead f =
    IfSome f.issue IsReadableNumberOrText
    × IfSome f.chapter IsReadableNumberOrText
    × IfSome f.volume IsReadableNumberOrText
    × IfSome f.edition IsReadableNumberOrText
    × IfSome f.volume_total IsReadableNumber
    × IfSome f.page_total IsReadableNumber
    × IfSome f.page_range AreReadablePages
    × IfSome f.time_range ReadableRange
    × IfSome f.runtime ReadableDuration

pub record FieldsWereRead (f : Fields) : Type 0 where
  pub texts : TextsWereRead f
  pub people : PeopleWereRead f
  pub numbers : NumbersWereRead f
  pub serial_number : IfSome f.serial_number (AreInOrder [])

pub fields_readable : (f : Fields) → FieldsWereRead f → FieldsAreReadable f
fields_readable f r = record {
  title = r.texts.0;
  location = r.texts.1;
  organization = r.texts.2;
  archive = r.texts.3;
  archive_location = r.texts.4;
  call_number = r.texts.5;
  note = r.texts.6;
  abstract_ = r.texts.7;
  genre = r.texts.8;
  affiliated = r.people.0;
  date = r.people.1;
  publisher = r.people.2;
  url = r.people.3;
  issue = r.numbers.0;
  chapter = r.numbers.1;
  volume = r.numbers.2;
  edition = r.numbers.3;
  volume_total = r.numbers.4;
  page_total = r.numbers.5;
  page_range = r.numbers.6;
  time_range = r.numbers.7;
  runtime = r.numbers.8;
  serial_number = r.serial_number;
}

pub none_read : (key : List ℕ) (kind : EntryType) → FieldsWereRead (no_fields key kind)
none_read key kind = record {
  texts = (tt, tt, tt, tt, tt, tt, tt, tt, tt);
  people = (tt, tt, tt, tt);
  numbers = (tt, tt, tt, tt, tt, tt, tt, tt, tt);
  serial_number = tt;
}

-- ---- setters

-- the fields were read, and the parents are the same
pub record Kept (t u : Tree) : Type 0 where
  pub fields : FieldsWereRead (fields u)
  pub parents : parents u ≡ parents t

KeepsRead : Setter → Type 0
KeepsRead set = (j : Json) (t : Tree) → HasTexts j → FieldsWereRead (fields t) → Kept t (set j t).entry

field_keeps : {V : Type 0} (P : V → Type 0) (read : Json → Result V Refusal) (lost : Json → List LostView) (get : Fields → Option V) (put : Option V → Fields → Fields)
    → ((j : Json) (v : V) → HasTexts j → read j ≡ Ok v → P v) → ((f : Fields) → put (get f) f ≡ f)
    → ((v : V) (f : Fields) → FieldsWereRead f → P v → FieldsWereRead (put (Some v) f)) → KeepsRead (field_setter read lost get put)
unfolding KeepsRead
field_keeps P read lost get put each same puts j (node f ps) texts r = by (read j) refl
  where
    by : (s : Result _ Refusal) → read j ≡ s → Kept (node f ps) (node (put (read_into s (lost j) (get f)).after f) ps)
    by (Ok v) is = record { fields = puts v f r (each j v texts is); parents = refl }
    by (Err e) is = record { fields = subst FieldsWereRead (sym (same f)) r; parents = refl }

AllKeep : List (List ℕ × Setter) → Type 0
AllKeep [] = Unit {0}
AllKeep (row ∷ rows) = KeepsRead row.1 × AllKeep rows

-- the setter of a name in a table
setter_keeps : (rows : List (List ℕ × Setter)) (name : List ℕ) → AllKeep rows → KeepsRead (set_by (lookup (bytes_eq name) rows) name)
unfolding KeepsRead AllKeep
setter_keeps [] name h j t texts r = record { fields = r; parents = refl }
setter_keeps (row ∷ rows) name h j t texts r = by (setter_keeps rows name h.1 j t texts r) (bytes_eq name row.0)
  where
    by : Kept t (set_by (lookup (bytes_eq name) rows) name j t).entry → (b : Bool) → Kept t (set_by (cond b (Some row.1) (lookup (bytes_eq name) rows)) name j t).entry
    by rest true = h.0 j t texts r
    by rest false = rest

module _ (again : ReadAgain) where
  serial_keeps : KeepsRead serial_setter
  unfolding KeepsRead
  serial_keeps j t texts r = by (is_some (fields t).serial_number)
    where
      set : Setter
      set = field_setter serials_of none_lost (λ f. f.serial_number) (λ v f. record f { serial_number = v })

      by : (b : Bool) → Kept t (if b then entry_but (lost_here (unread Twice)) t else set j t).entry
      by true = record { fields = r; parents = refl }
      by false =
          field_keeps (AreInOrder []) serials_of none_lost (λ f. f.serial_number) (λ v f. record f { serial_number = v }) (λ j v texts k. serials_read_again j v k) (λ f. refl)
          (λ v f w p. record { texts = w.texts; people = w.people; numbers = w.numbers; serial_number = p }) j t texts r

  numbers_keep : AllKeep number_table
  unfolding AllKeep
  numbers_keep = (
    field_keeps _ number_or_text_of none_lost (λ f. f.issue) (λ v f. record f { issue = v }) (number_or_text_read_again again) (λ f. refl) (λ v f w p. record { texts = w.texts; people = w.people; numbers = (p, w.numbers.1, w.numbers.2, w.numbers.3, w.numbers.4, w.numbers.5, w.numbers.6, w.numbers.7, w.numbers.8); serial_number = w.serial_number }),
    (
      field_keeps _ number_or_text_of none_lost (λ f. f.chapter) (λ v f. record f { chapter = v }) (number_or_text_read_again again) (λ f. refl) (λ v f w p. record { texts = w.texts; people = w.people; numbers = (w.numbers.0, p, w.numbers.2, w.numbers.3, w.numbers.4, w.numbers.5, w.numbers.6, w.numbers.7, w.numbers.8); serial_number = w.serial_number }),
      (
        field_keeps _ number_or_text_of none_lost (λ f. f.volume) (λ v f. record f { volume = v }) (number_or_text_read_again again) (λ f. refl) (λ v f w p. record { texts = w.texts; people = w.people; numbers = (w.numbers.0, w.numbers.1, p, w.numbers.3, w.numbers.4, w.numbers.5, w.numbers.6, w.numbers.7, w.numbers.8); serial_number = w.serial_number }),
        (
          field_keeps _ number_or_text_of none_lost (λ f. f.edition) (λ v f. record f { edition = v }) (number_or_text_read_again again) (λ f. refl) (λ v f w p. record { texts = w.texts; people = w.people; numbers = (w.numbers.0, w.numbers.1, w.numbers.2, p, w.numbers.4, w.numbers.5, w.numbers.6, w.numbers.7, w.numbers.8); serial_number = w.serial_number }),
          (
            field_keeps _ number_of none_lost (λ f. f.volume_total) (λ v f. record f { volume_total = v }) (number_read_again again) (λ f. refl) (λ v f w p. record { texts = w.texts; people = w.people; numbers = (w.numbers.0, w.numbers.1, w.numbers.2, w.numbers.3, p, w.numbers.5, w.numbers.6, w.numbers.7, w.numbers.8); serial_number = w.serial_number }),
            (
              field_keeps _ number_of none_lost (λ f. f.page_total) (λ v f. record f { page_total = v }) (number_read_again again) (λ f. refl) (λ v f w p. record { texts = w.texts; people = w.people; numbers = (w.numbers.0, w.numbers.1, w.numbers.2, w.numbers.3, w.numbers.4, p, w.numbers.6, w.numbers.7, w.numbers.8); serial_number = w.serial_number }),
              (
                field_keeps _ pages_or_text_of none_lost (λ f. f.page_range) (λ v f. record f { page_range = v }) (pages_read_again again) (λ f. refl) (λ v f w p. record { texts = w.texts; people = w.people; numbers = (w.numbers.0, w.numbers.1, w.numbers.2, w.numbers.3, w.numbers.4, w.numbers.5, p, w.numbers.7, w.numbers.8); serial_number = w.serial_number }),
                (
                  field_keeps _ range_or_text_of (parts_lost range_part (codes "time-range")) (λ f. f.time_range) (λ v f. record f { time_range = v }) (range_read_again again) (λ f. refl) (λ v f w p. record { texts = w.texts; people = w.people; numbers = (w.numbers.0, w.numbers.1, w.numbers.2, w.numbers.3, w.numbers.4, w.numbers.5, w.numbers.6, p, w.numbers.8); serial_number = w.serial_number }),
                  (
                    field_keeps _ duration_or_text_of none_lost (λ f. f.runtime) (λ v f. record f { runtime = v }) (duration_read_again again) (λ f. refl) (λ v f w p. record { texts = w.texts; people = w.people; numbers = (w.numbers.0, w.numbers.1, w.numbers.2, w.numbers.3, w.numbers.4, w.numbers.5, w.numbers.6, w.numbers.7, p); serial_number = w.serial_number }),
                    (serial_keeps, (serial_keeps, tt)),
                  ),
                ),
              ),
            ),
          ),
        ),
      ),
    ),
  )

  texts_keep : AllKeep text_table
  unfolding AllKeep
  texts_keep = (
    field_keeps _ format_of (parts_lost format_part (codes "title")) (λ f. f.title) (λ v f. record f { title = v }) (format_read_again again) (λ f. refl) (λ v f w p. record { texts = (p, w.texts.1, w.texts.2, w.texts.3, w.texts.4, w.texts.5, w.texts.6, w.texts.7, w.texts.8); people = w.people; numbers = w.numbers; serial_number = w.serial_number }),
    (
      field_keeps _ format_of (parts_lost format_part (codes "location")) (λ f. f.location) (λ v f. record f { location = v }) (format_read_again again) (λ f. refl) (λ v f w p. record { texts = (w.texts.0, p, w.texts.2, w.texts.3, w.texts.4, w.texts.5, w.texts.6, w.texts.7, w.texts.8); people = w.people; numbers = w.numbers; serial_number = w.serial_number }),
      (
        field_keeps _ format_of (parts_lost format_part (codes "organization")) (λ f. f.organization) (λ v f. record f { organization = v }) (format_read_again again) (λ f. refl) (λ v f w p. record { texts = (w.texts.0, w.texts.1, p, w.texts.3, w.texts.4, w.texts.5, w.texts.6, w.texts.7, w.texts.8); people = w.people; numbers = w.numbers; serial_number = w.serial_number }),
        (
          field_keeps _ format_of (parts_lost format_part (codes "archive")) (λ f. f.archive) (λ v f. record f { archive = v }) (format_read_again again) (λ f. refl) (λ v f w p. record { texts = (w.texts.0, w.texts.1, w.texts.2, p, w.texts.4, w.texts.5, w.texts.6, w.texts.7, w.texts.8); people = w.people; numbers = w.numbers; serial_number = w.serial_number }),
          (
            field_keeps _ format_of (parts_lost format_part (codes "archive-location")) (λ f. f.archive_location) (λ v f. record f { archive_location = v }) (format_read_again again) (λ f. refl) (λ v f w p. record { texts = (w.texts.0, w.texts.1, w.texts.2, w.texts.3, p, w.texts.5, w.texts.6, w.texts.7, w.texts.8); people = w.people; numbers = w.numbers; serial_number = w.serial_number }),
            (
              field_keeps _ format_of (parts_lost format_part (codes "call-number")) (λ f. f.call_number) (λ v f. record f { call_number = v }) (format_read_again again) (λ f. refl) (λ v f w p. record { texts = (w.texts.0, w.texts.1, w.texts.2, w.texts.3, w.texts.4, p, w.texts.6, w.texts.7, w.texts.8); people = w.people; numbers = w.numbers; serial_number = w.serial_number }),
              (
                field_keeps _ format_of (parts_lost format_part (codes "note")) (λ f. f.note) (λ v f. record f { note = v }) (format_read_again again) (λ f. refl) (λ v f w p. record { texts = (w.texts.0, w.texts.1, w.texts.2, w.texts.3, w.texts.4, w.texts.5, p, w.texts.7, w.texts.8); people = w.people; numbers = w.numbers; serial_number = w.serial_number }),
                (
                  field_keeps _ format_of (parts_lost format_part (codes "abstract")) (λ f. f.abstract_) (λ v f. record f { abstract_ = v }) (format_read_again again) (λ f. refl) (λ v f w p. record { texts = (w.texts.0, w.texts.1, w.texts.2, w.texts.3, w.texts.4, w.texts.5, w.texts.6, p, w.texts.8); people = w.people; numbers = w.numbers; serial_number = w.serial_number }),
                  (
                    field_keeps _ format_of (parts_lost format_part (codes "genre")) (λ f. f.genre) (λ v f. record f { genre = v }) (format_read_again again) (λ f. refl) (λ v f w p. record { texts = (w.texts.0, w.texts.1, w.texts.2, w.texts.3, w.texts.4, w.texts.5, w.texts.6, w.texts.7, p); people = w.people; numbers = w.numbers; serial_number = w.serial_number }),
                    numbers_keep,
                  ),
                ),
              ),
            ),
          ),
        ),
      ),
    ),
  )

  all_keep : AllKeep field_table
  unfolding AllKeep
  all_keep = (
    field_keeps (λ v. Unit {0}) persons_of (many_lost person_part (codes "author")) (λ f. f.authors) (λ v f. record f { authors = v }) (λ j v u h. tt) (λ f. refl) (λ v f w p. record { texts = w.texts; people = w.people; numbers = w.numbers; serial_number = w.serial_number }),
    (
      field_keeps (λ v. Unit {0}) persons_of (many_lost person_part (codes "editor")) (λ f. f.editors) (λ v f. record f { editors = v }) (λ j v u h. tt) (λ f. refl) (λ v f w p. record { texts = w.texts; people = w.people; numbers = w.numbers; serial_number = w.serial_number }),
      (
        field_keeps _ affiliated_of (many_lost roles_part (codes "affiliated")) (λ f. f.affiliated) (λ v f. record f { affiliated = v }) (affiliated_read_again again) (λ f. refl) (λ v f w p. record { texts = w.texts; people = (p, w.people.1, w.people.2, w.people.3); numbers = w.numbers; serial_number = w.serial_number }),
        (
          field_keeps _ date_of (parts_lost date_part (codes "date")) (λ f. f.date) (λ v f. record f { date = v }) (date_read_again again) (λ f. refl) (λ v f w p. record { texts = w.texts; people = (w.people.0, p, w.people.2, w.people.3); numbers = w.numbers; serial_number = w.serial_number }),
          (
            field_keeps _ publisher_of (parts_lost publisher_part (codes "publisher")) (λ f. f.publisher) (λ v f. record f { publisher = v }) (publisher_read_again again) (λ f. refl) (λ v f w p. record { texts = w.texts; people = (w.people.0, w.people.1, p, w.people.3); numbers = w.numbers; serial_number = w.serial_number }),
            (
              field_keeps _ url_of (parts_lost url_part (codes "url")) (λ f. f.url) (λ v f. record f { url = v }) (url_read_again again) (λ f. refl) (λ v f w p. record { texts = w.texts; people = (w.people.0, w.people.1, w.people.2, p); numbers = w.numbers; serial_number = w.serial_number }),
              (
                field_keeps (λ v. Unit {0}) plain_of none_lost (λ f. f.language) (λ v f. record f { language = v }) (λ j v u h. tt) (λ f. refl) (λ v f w p. record { texts = w.texts; people = w.people; numbers = w.numbers; serial_number = w.serial_number }),
                texts_keep,
              ),
            ),
          ),
        ),
      ),
    ),
  )

  pub field_read : (name : List ℕ) (j : Json) (t : Tree) → HasTexts j → FieldsWereRead (fields t) → Kept t (with_field name j t).entry
  unfolding KeepsRead
  field_read name = setter_keeps field_table name all_keep
