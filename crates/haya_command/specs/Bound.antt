-- The names that a selector can bind, and the places that are asked of by name.
use Rattle.std.specs.Prelude.{◌≡◌, ◌⊎◌, ◌||◌, ℕ, All, Any, Bool, false, IfSome, IsTrue, List, Option, None, Some, String, string_bytes}
use Rattle.std.specs.Str.{bytes_eq, chars}
use Rattle.std.specs.declared.alloc.Global.{Global}
use Rattle.hayagriva.specs.Fault as selector
use Rattle.hayagriva.specs.Reading.{TextFails, TextReads}
use Rattle.hayagriva.specs.Syntax.{Syntax, Wildcard, Entry, Neg, Binding, Attr, Alt, Multi, Ancestrage, Syntaxes, none, more}
use Rattle.haya_asked.specs.declared.columns.Columns.{Columns}
use Rattle.haya_asked.specs.declared.questions.Repeats.{Repeats}
use Rattle.haya_asked.specs.declared.questions.Repeats.TheVariants.{Kept, Dropped, Alone}
use Rattle.haya_questions.specs.Place.{PlaceView, place_text, place_view}
use Rattle.haya_command.specs.Picks.{wanted}
use Rattle.haya_command.specs.declared.error.CommandError.{CommandError}
use Rattle.haya_command.specs.declared.error.CommandError.TheVariants as fault
use Rattle.haya_command.specs.declared.options.Options.{Options}

-- ---- names

-- whether a name stands before a part of the selector that isn't negated
abbrev mutual
  pub can_bind : List ℕ → Syntax → Bool
  can_bind name Wildcard = false
  can_bind name (Entry t) = false
  can_bind name (Neg s) = false
  can_bind name (Binding n s) = bytes_eq n name || can_bind name s
  can_bind name (Attr s names) = can_bind name s
  can_bind name (Alt ss) = some_can_bind name ss
  can_bind name (Multi ss) = some_can_bind name ss
  can_bind name (Ancestrage l r) = can_bind name r || can_bind name l

  pub some_can_bind : List ℕ → Syntaxes → Bool
  some_can_bind name none = false
  some_can_bind name (more s ss) = can_bind name s || some_can_bind name ss

-- the name of a place, if it has one, can be bound
abbrev pub IsBindable : Syntax → PlaceView → Type 0
IsBindable s place = IfSome place.name (λ name. IsTrue (can_bind name s))

-- the fault that it can't: the text of the place, and the name
pub record IsUnbound (s : Syntax) (place : PlaceView) (e : CommandError) : Type 0 where
  pub text : String Global
  pub name : String Global
  pub is : e ≡ fault.Unbound text name
  pub of_place : string_bytes text ≡ place_text place
  pub named : place.name ≡ Some (string_bytes name)
  pub unbound : can_bind (string_bytes name) s ≡ false

-- ---- the places that are asked of

abbrev pub EachRepeated : (PlaceView → Type 0) → Repeats → Type 0
EachRepeated Holds Kept = Unit {0}
EachRepeated Holds (Dropped places) = All (λ p. Holds (place_view p)) places.items
EachRepeated Holds (Alone places) = All (λ p. Holds (place_view p)) places.items

abbrev pub EachColumn : (PlaceView → Type 0) → Option Columns → Type 0
EachColumn Holds None = Unit {0}
EachColumn Holds (Some columns) = All (λ p. Holds (place_view p)) columns.places.items

-- this holds of each: of the places of tests, of keys of a sort, of values that are shared, and of
-- columns
pub record EachPlace (Holds : PlaceView → Type 0) (options : Options) : Type 0 where
  pub tests : All (λ t. Holds (place_view t.place)) options.questions.tests.items
  pub keys : All (λ k. Holds (place_view k.place)) options.questions.keys.items
  pub repeats : EachRepeated Holds options.questions.repeats
  pub columns : EachColumn Holds options.columns

abbrev pub SomeRepeated : (PlaceView → Type 0) → Repeats → Type 0
SomeRepeated Holds Kept = ⊥
SomeRepeated Holds (Dropped places) = Any (λ p. Holds (place_view p)) places.items
SomeRepeated Holds (Alone places) = Any (λ p. Holds (place_view p)) places.items

abbrev pub SomeColumn : (PlaceView → Type 0) → Option Columns → Type 0
SomeColumn Holds None = ⊥
SomeColumn Holds (Some columns) = Any (λ p. Holds (place_view p)) columns.places.items

-- of one of them
abbrev pub SomePlace : (PlaceView → Type 0) → Options → Type 0
SomePlace Holds options =
    Any (λ t. Holds (place_view t.place)) options.questions.tests.items
    ⊎ (Any (λ k. Holds (place_view k.place)) options.questions.keys.items
    ⊎ (SomeRepeated Holds options.questions.repeats ⊎ SomeColumn Holds options.columns))

-- ---- faults

-- the selector's text is none
abbrev pub IsSelectorError : Options → CommandError → Type 0
IsSelectorError options (fault.Selector e) =
    IfSome (selector.fault e) (TextFails (chars (string_bytes options.selector)))
IsSelectorError options _ = ⊥

-- it reads as a selector that can't bind the name of a place which is asked of, and this is told
abbrev pub IsNameUnbound : Options → CommandError → Type 0
IsNameUnbound options e =
    (s : Syntax) × TextReads (chars (string_bytes options.selector)) s
    × SomePlace (λ place. IsUnbound (wanted options.invert s) place e) options

abbrev pub IsNamesFault : Options → CommandError → Type 0
IsNamesFault options e =
    (e ≡ fault.OutOfMemory) ⊎ (IsSelectorError options e ⊎ IsNameUnbound options e)
