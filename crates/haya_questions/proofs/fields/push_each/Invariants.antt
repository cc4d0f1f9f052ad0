use Rattle.std.proofs.Common.{◌≡◌, ◌++◌, drop, map}
use Rattle.haya_questions.specs.Value.{value_view}
use Rattle.haya_questions.proofs.fields.push_each.Given as goal

-- the values so far and those of what is left are all
abbrev pub invariant-list : goal.invariant-list
invariant-list g l =
    map value_view l.values.items ++ map g.T.ToValue.value (map g.T.ToValue.view (drop l.value-index l.list))
    ≡ map value_view l.initial.values.items ++ map g.T.ToValue.value (map g.T.ToValue.view l.list)
