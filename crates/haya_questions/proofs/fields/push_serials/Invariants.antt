use Rattle.std.proofs.Common.{◌≡◌, ◌++◌, map}
use Rattle.haya_entry.specs.SerialNumber.{serial_entry, several_serials}
use Rattle.haya_questions.specs.Value.{TextValue, value_view}
use Rattle.haya_questions.proofs.fields.push_serials.Given as goal

-- the values that were pushed, and those of the numbers that are left, are all but that of an only one
abbrev pub invariant-numbers : goal.invariant-numbers
invariant-numbers l =
    map value_view l.values.items ++ map (λ e. TextValue e.1) (map serial_entry l.number-iterator)
    ≡ map value_view l.initial.values.items ++ map (λ e. TextValue e.1) (several_serials l.numbers)
