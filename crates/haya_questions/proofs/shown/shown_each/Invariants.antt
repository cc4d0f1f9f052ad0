use Rattle.std.proofs.Common.{◌≡◌, ◌++◌, drop, map}
use Rattle.std.specs.Prelude.{string_bytes}
use Rattle.haya_questions.specs.Value.{shown, value_view}
use Rattle.haya_questions.proofs.shown.shown_each.Given as goal

-- the texts so far and those of what is left are all
abbrev pub invariant-values : goal.invariant-values
invariant-values l =
    map string_bytes l.texts.items ++ map shown (map value_view (drop l.value-index l.values)) ≡ map shown (map value_view l.values)
