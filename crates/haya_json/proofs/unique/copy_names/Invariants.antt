use Rattle.std.proofs.Common.{◌≡◌, ◌++◌, drop}
use Rattle.json.specs.Strict.{keys}
use Rattle.json.specs.Value.{members_view}
use Rattle.json.proofs.Unique.Keys.{texts}
use Rattle.haya_json.proofs.unique.copy_names.Given as goal

-- the names that were copied, and those of the members that are left
abbrev pub invariant-members : goal.invariant-members
invariant-members l =
    texts l.names.items ++ keys (members_view (drop l.member-index l.member-items)) ≡ keys (members_view l.member-items)
