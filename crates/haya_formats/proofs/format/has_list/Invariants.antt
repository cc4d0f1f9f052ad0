use Rattle.std.proofs.Common.{◌≡◌, ◌-◌}
use Rattle.haya_formats.specs.Formats.{has_list, list_named, members_in}
use Rattle.haya_formats.proofs.format.has_list.Given as goal

-- what the members that are left say is what all say
abbrev pub invariant-members : goal.invariant-members
invariant-members l = list_named l.name (members_in (l.end - l.counter) l.reader) ≡ has_list l.name l.fn.members
