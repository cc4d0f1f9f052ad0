-- The texts of tests: a place, an operator, and a text, with white space around them.
use Rattle.std.specs.Prelude.{◌≡◌, ◌⊎◌, ◌<◌, ℕ, ◌+◌, ◌==◌, ◌||◌, Bool, true, false, List, [], ◌∷◌, Option, None, Some, IfSome, Result, Ok, Err, codes, drop, encode_utf8_all, if◌then◌else◌, length, ok_or, option_and_then, option_map, position, slice_index, string_bytes, take, unwrap_or}
use Rattle.std.specs.Result.{result_ok}
use Rattle.std.specs.Str.{chars, trim}
use Rattle.haya_entry.specs.declared.field_name.FieldName.TheVariants as field
use Rattle.haya_time.specs.DateReading.{date_read}
use Rattle.haya_time.specs.DurationReading.{duration_read}
use Rattle.haya_questions.specs.CaseAside.{case_aside}
use Rattle.haya_questions.specs.Orders.{WantedView, WantedText, WantedDate, WantedNumber, WantedDuration}
use Rattle.haya_questions.specs.Place.{PartView, FieldPart, PlaceView, part_name, place_read, place_words}
use Rattle.haya_questions.specs.Test.{TestView}
use Rattle.haya_questions.specs.Whole.{whole_read}
use Rattle.haya_questions.specs.declared.error.TestError.{TestError}
use Rattle.haya_questions.specs.declared.error.TestError.TheVariants as error
use Rattle.haya_questions.specs.declared.test.Operator.{Operator}
use Rattle.haya_questions.specs.declared.test.Operator.TheVariants as op
use Rattle.haya_questions.specs.declared.test_text.Cut.{Cut}
use Rattle.haya_questions.specs.declared.kind.Kind.{Kind}
use Rattle.haya_questions.specs.declared.kind.Kind.TheVariants as kind

-- ---- faults

-- why a text is no test, by value
pub data TestFault : Type 0 where
  NoOperator : TestFault
  UnknownField : List ℕ → TestFault
  Quotes : TestFault
  EmptyText : TestFault
  NoOrder : List ℕ → TestFault
  NotADate : List ℕ → TestFault
  NotANumber : List ℕ → TestFault
  NotADuration : List ℕ → TestFault

-- the fault of an error, which is not out of memory
abbrev pub fault_of : TestError → Option TestFault
fault_of error.NoOperator = Some NoOperator
fault_of (error.UnknownField word) = Some (UnknownField (string_bytes word))
fault_of error.Quotes = Some Quotes
fault_of error.EmptyText = Some EmptyText
fault_of (error.NoOrder name) = Some (NoOrder (string_bytes name))
fault_of (error.NotADate text) = Some (NotADate (string_bytes text))
fault_of (error.NotANumber text) = Some (NotANumber (string_bytes text))
fault_of (error.NotADuration text) = Some (NotADuration (string_bytes text))
fault_of error.OutOfMemory = None

-- the error is out of memory, or the fault of what is read
abbrev pub IsFaultOf : {V : Type 0} → Result V TestFault → TestError → Type 0
IsFaultOf read e = IfSome (fault_of e) (λ fault. read ≡ Err fault)

-- what follows from a value, or the fault
abbrev pub and_then : {T U E : Type 0} → Result T E → (T → Result U E) → Result U E
and_then (Ok x) f = f x
and_then (Err e) f = Err e

-- ---- operators

abbrev pub exclamation_mark : ℕ
exclamation_mark = 33

abbrev pub equals_sign : ℕ
equals_sign = 61

abbrev pub tilde : ℕ
tilde = 126

abbrev pub less_than : ℕ
less_than = 60

abbrev pub greater_than : ℕ
greater_than = 62

-- whether an operator begins with the sign
abbrev pub is_sign : ℕ → Bool
is_sign c =
    c == exclamation_mark || c == equals_sign || c == tilde || c == less_than || c == greater_than

-- the operator that two signs begin with, the longest
abbrev pub operator_of : ℕ → ℕ → Option Operator
operator_of c d =
    if c == exclamation_mark then
    (if d == equals_sign then Some op.IsNot else (if d == tilde then Some op.HasNot else None))
    else if c == equals_sign then Some op.Is
    else if c == tilde then Some op.Has
    else if c == less_than then (if d == equals_sign then Some op.AtMost else Some op.Below)
    else if c == greater_than then (if d == equals_sign then Some op.AtLeast else Some op.Above)
    else None

-- an operator as it is written
abbrev pub operator_text : Operator → List ℕ
operator_text op.Is = codes "="
operator_text op.IsNot = codes "!="
operator_text op.Has = codes "~"
operator_text op.HasNot = codes "!~"
operator_text op.Below = codes "<"
operator_text op.AtMost = codes "<="
operator_text op.Above = codes ">"
operator_text op.AtLeast = codes ">="

-- the operator is written with ASCII signs: the first of these, or both
abbrev pub AreSigns : ℕ → ℕ → Operator → Type 0
AreSigns c d operator =
    (c < 128) × ((length (operator_text operator) ≡ 1)
    ⊎ ((length (operator_text operator) ≡ 2) × (0 < d) × (d < 128)))

-- what stands before an operator, the operator, and what stands behind it
pub record CutView : Type 0 where
  pub before : List ℕ
  pub operator : Operator
  pub behind : List ℕ

abbrev pub cut_view : Cut → CutView
cut_view cut = record {
  before = cut.before.now;
  operator = cut.operator;
  behind = cut.behind.now;
}

-- the text before and behind this operator, which begins at this place
abbrev pub cut_at : List ℕ → ℕ → Operator → CutView
cut_at text i operator = record {
  before = take i text;
  operator = operator;
  behind = drop (i + length (operator_text operator)) text;
}

-- the text before and behind an operator that begins at this place, if one does
abbrev pub cut_from : List ℕ → ℕ → Option CutView
cut_from text i =
    option_map (cut_at text i) (operator_of (slice_index text i) (slice_index text (i + 1)))

-- the text before and behind the first sign of an operator
unfoldable pub operator_cut : List ℕ → Option CutView
operator_cut text = option_and_then (cut_from text) (position is_sign text)

-- ---- texts in quotes

abbrev pub quote : ℕ
quote = 34

abbrev pub backslash : ℕ
backslash = 92

-- nothing, where nothing is left
abbrev pub at_end : List ℕ → Option (List ℕ)
at_end [] = Some []
at_end (c ∷ cs) = None

-- What characters mean to the closing quote, which is the last of them: a quote or a backslash is
-- written behind a backslash. The first argument says whether a backslash is before them.
abbrev pub quoted : Bool → List ℕ → Option (List ℕ)
quoted escaped [] = None
quoted true (c ∷ cs) =
    if c == quote || c == backslash then option_map (λ t. c ∷ t) (quoted false cs) else None
quoted false (c ∷ cs) =
    if c == quote then at_end cs
    else if c == backslash then quoted true cs
    else option_map (λ t. c ∷ t) (quoted false cs)

-- what a text means: that in quotes where it begins with a quote, otherwise the text itself
unfoldable pub unquoted : List ℕ → Option (List ℕ)
unquoted [] = Some []
unquoted (b ∷ bs) =
    if b == quote then option_map encode_utf8_all (quoted false (chars bs)) else Some (b ∷ bs)

-- the text that is wanted: some text
abbrev pub some_text : List ℕ → Result (List ℕ) TestFault
some_text text = if length text == 0 then Err EmptyText else Ok text

unfoldable pub text_read : List ℕ → Result (List ℕ) TestFault
text_read text = and_then (ok_or (unquoted text) Quotes) some_text

-- ---- what a text is wanted as

-- how the values of a part are compared
abbrev pub part_kind : PartView → Kind
part_kind (FieldPart field.Date) = kind.Date
part_kind (FieldPart field.Issue) = kind.Number
part_kind (FieldPart field.Chapter) = kind.Number
part_kind (FieldPart field.Volume) = kind.Number
part_kind (FieldPart field.Edition) = kind.Number
part_kind (FieldPart field.VolumeTotal) = kind.Number
part_kind (FieldPart field.PageTotal) = kind.Number
part_kind (FieldPart field.PageRange) = kind.Number
part_kind (FieldPart field.TimeRange) = kind.Duration
part_kind (FieldPart field.Runtime) = kind.Duration
part_kind _ = kind.Text

unfoldable pub wanted_date : List ℕ → Option WantedView
wanted_date text = option_map WantedDate (result_ok (date_read (chars text)))

unfoldable pub wanted_number : List ℕ → Option WantedView
wanted_number text = option_map WantedNumber (whole_read text)

unfoldable pub wanted_duration : List ℕ → Option WantedView
wanted_duration text = option_map WantedDuration (result_ok (duration_read (chars text)))

-- the text as a value of the kind, if it is one that has an order
abbrev pub typed_wanted : Kind → List ℕ → Option WantedView
typed_wanted kind.Text text = None
typed_wanted kind.Date text = wanted_date text
typed_wanted kind.Number text = wanted_number text
typed_wanted kind.Duration text = wanted_duration text

-- why it is none
abbrev pub order_fault : Kind → PartView → List ℕ → TestFault
order_fault kind.Text part text = NoOrder (part_name part)
order_fault kind.Date part text = NotADate text
order_fault kind.Number part text = NotANumber text
order_fault kind.Duration part text = NotADuration text

-- the text, as values of the part are compared with it
abbrev pub wanted_text : PartView → List ℕ → WantedView
wanted_text part text = WantedText (case_aside part text)

-- for an order: a value of the part's kind
abbrev pub wanted_in_order : PartView → List ℕ → Result WantedView TestFault
wanted_in_order part text =
    ok_or (typed_wanted (part_kind part) text) (order_fault (part_kind part) part text)

-- what is wanted: for `=` a value of the part's kind, and the text where it is none; for `~` the
-- text
abbrev pub wanted_read : Operator → PartView → List ℕ → Result WantedView TestFault
wanted_read op.Is part text =
    Ok (unwrap_or (typed_wanted (part_kind part) text) (wanted_text part text))
wanted_read op.IsNot part text =
    Ok (unwrap_or (typed_wanted (part_kind part) text) (wanted_text part text))
wanted_read op.Has part text = Ok (wanted_text part text)
wanted_read op.HasNot part text = Ok (wanted_text part text)
wanted_read _ part text = wanted_in_order part text

-- ---- tests

-- the place of a word, or that it is unknown
unfoldable pub place_or_fault : List ℕ → Result PlaceView TestFault
place_or_fault word = ok_or (place_read word) (UnknownField (place_words word).1)

-- the test of a place, an operator, and a text
abbrev pub test_of : PlaceView → Operator → List ℕ → Result TestView TestFault
test_of place operator text =
    and_then (wanted_read operator place.part text) (λ wanted.
    Ok (record { place = place; operator = operator; wanted = wanted }))

-- the test of what stands before and behind an operator
abbrev pub test_at : CutView → Result TestView TestFault
test_at cut =
    and_then (place_or_fault (trim cut.before)) (λ place.
    and_then (text_read (trim cut.behind)) (λ text.
    test_of place cut.operator text))

-- the test that a text reads as, or why it is none
unfoldable pub test_read : List ℕ → Result TestView TestFault
test_read text = and_then (ok_or (operator_cut text) NoOperator) test_at
