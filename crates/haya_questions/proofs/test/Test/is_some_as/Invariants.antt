use Rattle.std.proofs.Common.{◌≡◌, drop, map}
use Rattle.std.specs.List.{list_any}
use Rattle.haya_questions.specs.Test.{is_as, wanted_view}
use Rattle.haya_questions.specs.Value.{value_view}
use Rattle.haya_questions.proofs.test.Test.is_some_as.Given as goal

-- no value so far is
abbrev pub invariant-values : goal.invariant-values
invariant-values l =
    list_any (is_as l.self.operator (wanted_view l.self.wanted)) (map value_view l.values)
    ≡ list_any (is_as l.self.operator (wanted_view l.self.wanted)) (map value_view (drop l.value-index l.values))
