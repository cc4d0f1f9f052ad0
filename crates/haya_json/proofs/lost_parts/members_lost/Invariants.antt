use Rattle.std.proofs.Common.{◌≡◌, ◌++◌, drop}
use Rattle.json.specs.Value.{members_view}
use Rattle.haya_json.specs.LostParts.{members_lost}
use Rattle.haya_json.specs.Notes.{losts_view}
use Rattle.haya_json.proofs.lost_parts.members_lost.Given as goal

-- what is lost so far, and then what is lost of the members left, is all
abbrev pub invariant-members : goal.invariant-members
invariant-members g l =
    members_lost g.T.HasParts.part l.of (members_view l.member-items)
    ≡ losts_view l.lost.items ++ members_lost g.T.HasParts.part l.of (members_view (drop l.member-index l.member-items))
