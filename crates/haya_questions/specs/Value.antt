-- The values of an entry, and the texts that are shown of them.
use Rattle.std.specs.Prelude.{ℕ, List, ◌∷◌, ◌++◌}
use Rattle.haya_text.specs.Printing.{to_str}
use Rattle.haya_text.specs.Texts.{TextView, text_view}
use Rattle.haya_numbers.specs.Numeric.{NumericView, numeric_view}
use Rattle.haya_numbers.specs.NumericRoundTrip.{round_trip_text as number_text}
use Rattle.haya_numbers.specs.Pages.{PartView, parts}
use Rattle.haya_numbers.specs.PagesRoundTrip.{round_trip_text as pages_text}
use Rattle.haya_people.specs.Person.{PersonView, person_view}
use Rattle.haya_people.specs.PersonText.{person_text}
use Rattle.haya_people.specs.Roles.{RoleView, role_name, role_view}
use Rattle.haya_time.specs.DatePrinted.{date_text}
use Rattle.haya_time.specs.DurationPrint.{duration_text, range_text}
use Rattle.haya_time.specs.DurationText.{colon}
use Rattle.haya_time.specs.declared.date.Date.{Date}
use Rattle.haya_time.specs.declared.duration.Duration.{Duration}
use Rattle.haya_time.specs.declared.duration.range.DurationRange.{DurationRange}
use Rattle.haya_questions.specs.declared.value.Value.{Value}
use Rattle.haya_questions.specs.declared.value.Value.TheVariants as value

-- A value of an entry: its key; a text; a text in the place of a number, pages or a time; a person,
-- also one in a role that is told; or a value of one of the types that have an order.
pub data ValueView : Type 0 where
  KeyValue : List ℕ → ValueView
  TextValue : List ℕ → ValueView
  UntypedValue : List ℕ → ValueView
  PersonValue : PersonView → ValueView
  RoleValue : RoleView → PersonView → ValueView
  DateValue : Date → ValueView
  NumberValue : NumericView → ValueView
  PagesValue : List PartView → ValueView
  DurationValue : Duration → ValueView
  RangeValue : DurationRange → ValueView

-- the text of a long form, without markup
unfoldable pub long_text : TextView → List ℕ
long_text text = to_str text.value

abbrev pub value_view : Value → ValueView
value_view (value.Key text) = KeyValue text.now
value_view (value.Plain text) = TextValue text.now
value_view (value.Text text) = TextValue (long_text (text_view text.now))
value_view (value.Untyped text) = UntypedValue text.now
value_view (value.Person person) = PersonValue (person_view person.now)
value_view (value.InRole role person) =
    RoleValue (role_view role.now) (person_view person.now)
value_view (value.Date date) = DateValue date.now
value_view (value.Number number) = NumberValue (numeric_view number.now)
value_view (value.Pages pages) = PagesValue (parts pages.now)
value_view (value.Duration duration) = DurationValue duration.now
value_view (value.Range range) = RangeValue range.now

-- a role, a colon, and a person
abbrev pub in_role_text : RoleView → PersonView → List ℕ
in_role_text role person = role_name role ++ colon ∷ person_text person

-- the text that is shown of a value
unfoldable pub shown : ValueView → List ℕ
shown (KeyValue text) = text
shown (TextValue text) = text
shown (UntypedValue text) = text
shown (PersonValue person) = person_text person
shown (RoleValue role person) = in_role_text role person
shown (DateValue date) = date_text date
shown (NumberValue number) = number_text number
shown (PagesValue pages) = pages_text pages
shown (DurationValue duration) = duration_text duration
shown (RangeValue range) = range_text range
