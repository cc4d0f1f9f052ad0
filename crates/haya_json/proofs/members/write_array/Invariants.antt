use Rattle.std.proofs.Common.{◌≡◌, ◌++◌, drop, map}
use Rattle.json.specs.Tree.{items_tokens}
use Rattle.haya_json.specs.Printed.{array_of}
use Rattle.haya_json.proofs.members.write_array.Given as goal

-- what is written and what is left are what was written and all
abbrev pub invariant-values : goal.invariant-values
invariant-values g l =
    (l.out.before ≡ l.initial.out.before)
    × (l.out.tokens ++ items_tokens (array_of g.T.ToJson.json (map g.T.ToJson.view (drop l.value-index l.values)))
    ≡ l.initial.out.tokens ++ items_tokens (array_of g.T.ToJson.json (map g.T.ToJson.view l.values)))
