use Rattle.std.proofs.Common.{◌≡◌, ◌++◌, drop, map}
use Rattle.json.specs.Tree.{items_tokens}
use Rattle.haya_entry.specs.Tree.{trees, view}
use Rattle.haya_json.specs.Printed.{item_list}
use Rattle.haya_json.proofs.writing.entries.+printed.Given as goal

-- what is written and what is left are what was written and all
abbrev pub invariant-write_each-parents : goal.invariant-write_each-parents
invariant-write_each-parents l =
    (l.out.before ≡ l.initial.out.before)
    × (l.out.tokens ++ items_tokens (item_list l.key (trees (map view (drop l.parent-index l.parents))))
    ≡ l.initial.out.tokens ++ items_tokens (item_list l.key (trees (map view l.parents))))
