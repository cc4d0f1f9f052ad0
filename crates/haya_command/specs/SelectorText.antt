-- A text that is one selector, with nothing behind it.
use Rattle.std.specs.Prelude.{◌≡◌, ◌≢◌, ◌-◌, ℕ, List, [], IfSome, drop, length}
use Rattle.std.specs.Str.{chars, trim_start}
use Rattle.hayagriva.specs.Fault.{fault}
use Rattle.hayagriva.specs.Reading.{EndsAt, TextFails}
use Rattle.hayagriva.specs.Syntax.{Syntax}
use Rattle.haya_command.specs.declared.error.CommandError.{CommandError}
use Rattle.haya_command.specs.declared.error.CommandError.TheVariants.{OutOfMemory, Selector, SelectorEnd}

-- what is behind the selector at the front of a text, white space aside
abbrev pub rest_behind : List ℕ → ℕ → List ℕ
rest_behind text end = trim_start (drop end text)

-- a text is a selector and white space
abbrev pub IsOneSelector : List ℕ → Type 0
IsOneSelector text =
    (s : Syntax) × (end : ℕ) × EndsAt text s end × (rest_behind text end ≡ [])

-- what is behind the selector at the front of a text begins at this byte
abbrev pub FollowsAt : List ℕ → ℕ → Type 0
FollowsAt text place =
    (s : Syntax) × (end : ℕ) × EndsAt text s end × (rest_behind text end ≢ [])
    × (place ≡ length text - length (rest_behind text end))

-- why a text isn't one selector
abbrev pub IsSelectorFault : List ℕ → CommandError → Type 0
IsSelectorFault text (Selector e) = IfSome (fault e) (TextFails (chars text))
IsSelectorFault text (SelectorEnd place) = FollowsAt text place
IsSelectorFault text OutOfMemory = Unit {0}
IsSelectorFault text _ = ⊥
