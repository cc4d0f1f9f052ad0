use Rattle.std.proofs.Common.{◌≡◌, ◌++◌, drop, map}
use Rattle.std.specs.Prelude.{string_bytes}
use Rattle.haya_selectors.specs.BoundNames.{all_bound_names}
use Rattle.haya_selectors.specs.Syntax.{members_of}
use Rattle.haya_views.proofs.names.+named.Given as goal

-- the names so far and those of the members that are left are those before and all
abbrev pub invariant-push_all_names-members : goal.invariant-push_all_names-members
invariant-push_all_names-members l =
    map string_bytes l.names.items ++ all_bound_names (members_of (drop l.member-index l.members))
    ≡ map string_bytes l.initial.names.items ++ all_bound_names (members_of l.members)
