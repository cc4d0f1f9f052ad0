use Rattle.std.proofs.Common.{◌≡◌, drop}
use Rattle.json.specs.Value.{members_view}
use Rattle.haya_csl.specs.NameParts.{parts_view}
use Rattle.haya_csl.specs.Names.{no_parts, parts_set}
use Rattle.haya_csl.proofs.names.read_parts.Given as goal

-- what all members make of a name without parts is what those left make of the name so far
abbrev pub invariant-parts : goal.invariant-parts
invariant-parts l =
    parts_set l.of (members_view l.member-items) no_parts
    ≡ parts_set l.of (members_view (drop l.member-index l.member-items)) (parts_view l.parts)
