use Rattle.std.proofs.Common.{◌≡◌, ◌++◌, drop}
use Rattle.json.specs.Value.{members_view}
use Rattle.haya_json.specs.Notes.{losts_view}
use Rattle.haya_csl.specs.Dates.{all_unknown}
use Rattle.haya_csl.proofs.dates.with_unknown.Given as goal

-- what is lost of all members is what is lost so far, and then what is lost of those left
abbrev pub invariant-members : goal.invariant-members
invariant-members l =
    losts_view l.fn.said.lost.items ++ all_unknown l.name (members_view l.member-items)
    ≡ losts_view l.lost.items ++ all_unknown l.name (members_view (drop l.member-index l.member-items))
