-- Tests of the values at a place, and when they hold.
use Rattle.std.specs.Prelude.{ℕ, Bool, true, false, not, ◌||◌, List, if◌then◌else◌, string_bytes}
use Rattle.std.specs.List.{list_any}
use Rattle.std.specs.Option.{option_map_or}
use Rattle.std.specs.Ordering.{is_eq, is_ge, is_gt, is_le, is_lt, is_some_and}
use Rattle.std.specs.Str.{bytes_eq}
use Rattle.std.specs.declared.cmp.Ordering.{Ordering}
use Rattle.haya_people.specs.Particles.{folded}
use Rattle.hayagriva.specs.declared.query.Hit.{Hit}
use Rattle.haya_questions.specs.CaseAside.{compared, family_name, has_part}
use Rattle.haya_questions.specs.Fields.{values_at}
use Rattle.haya_questions.specs.Orders.{WantedView, WantedText, WantedDate, WantedNumber, WantedDuration, value_against}
use Rattle.haya_questions.specs.Place.{PlaceView, place_view}
use Rattle.haya_questions.specs.Value.{ValueView}
use Rattle.haya_questions.specs.declared.test.Operator.{Operator}
use Rattle.haya_questions.specs.declared.test.Operator.TheVariants as op
use Rattle.haya_questions.specs.declared.test.Test.{Test}
use Rattle.haya_questions.specs.declared.test.Wanted.{Wanted}
use Rattle.haya_questions.specs.declared.test.Wanted.TheVariants as wanted

abbrev pub wanted_view : Wanted → WantedView
wanted_view (wanted.Text text) = WantedText (string_bytes text)
wanted_view (wanted.Date date) = WantedDate date
wanted_view (wanted.Number number) = WantedNumber number
wanted_view (wanted.Duration duration) = WantedDuration duration

-- a test by value
pub record TestView : Type 0 where
  pub place : PlaceView
  pub operator : Operator
  pub wanted : WantedView

abbrev pub test_view : Test → TestView
test_view t = record {
  place = place_view t.place;
  operator = t.operator;
  wanted = wanted_view t.wanted;
}

-- a test of these parts
abbrev pub test_with : PlaceView → Operator → WantedView → TestView
test_with place operator wanted =
    record { place = place; operator = operator; wanted = wanted }

-- ---- of one value

-- whether the text is that of the value, or the family name of the person
abbrev pub is_text_of : List ℕ → ValueView → Bool
is_text_of text value =
    bytes_eq (compared value) text
    || option_map_or (λ name. bytes_eq (folded name) text) (family_name value) false

-- whether the value stands so to what is wanted
abbrev pub stands : (Ordering → Bool) → ValueView → WantedView → Bool
stands so value wanted = is_some_and so (value_against value wanted)

-- whether the value is what is wanted
unfoldable pub is_wanted : WantedView → ValueView → Bool
is_wanted (WantedText text) value = is_text_of text value
is_wanted wanted value = stands is_eq value wanted

-- whether the value has the text that is wanted in it
unfoldable pub has_wanted : WantedView → ValueView → Bool
has_wanted (WantedText text) value = has_part text (compared value)
has_wanted wanted value = false

-- whether a value is as the operator asks, or as its opposite does
abbrev pub is_as : Operator → WantedView → ValueView → Bool
is_as op.Is wanted value = is_wanted wanted value
is_as op.IsNot wanted value = is_wanted wanted value
is_as op.Has wanted value = has_wanted wanted value
is_as op.HasNot wanted value = has_wanted wanted value
is_as op.Below wanted value = stands is_lt value wanted
is_as op.AtMost wanted value = stands is_le value wanted
is_as op.Above wanted value = stands is_gt value wanted
is_as op.AtLeast wanted value = stands is_ge value wanted

-- ---- of a hit

-- whether the operator is the opposite of another
abbrev pub is_opposite : Operator → Bool
is_opposite op.IsNot = true
is_opposite op.HasNot = true
is_opposite _ = false

-- whether some value is as the operator asks; for an opposite, whether none is as the other asks
abbrev pub holds_of : TestView → List ValueView → Bool
holds_of t values =
    let some = list_any (is_as t.operator t.wanted) values in
    if is_opposite t.operator then not some else some

-- whether the test holds of a hit
unfoldable pub holds : TestView → Hit → Bool
holds t hit = holds_of t (values_at t.place hit)
