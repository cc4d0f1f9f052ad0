-- How many hits are wanted.
use Rattle.std.specs.Prelude.{◌≤◌, ◌||◌, ℕ, Bool, false, Option, None, Some, nat_le, nat_lt}
use Rattle.haya_source_stream.specs.declared.asking.Asking.{Asking}
use Rattle.haya_source_stream.specs.declared.asking.Shown.{Shown}
use Rattle.haya_source_stream.specs.declared.asking.Shown.TheVariants.{Elements, Nothing, Number}

-- so many are no more than are wanted
abbrev pub IsWithin : Option ℕ → ℕ → Type 0
IsWithin None n = Unit {0}
IsWithin (Some most) n = n ≤ most

-- whether so many are as many as are wanted
abbrev pub reaches : Option ℕ → ℕ → Bool
reaches None n = false
reaches (Some most) n = nat_le most n

-- whether so many are enough where nothing is printed: one is
abbrev pub is_told : Shown → ℕ → Bool
is_told Elements n = false
is_told Number n = false
is_told Nothing n = nat_lt 0 n

-- whether no more hits are needed
abbrev pub has_enough : Asking → ℕ → Bool
has_enough asking n = is_told asking.shown n || reaches asking.questions.now.max n
