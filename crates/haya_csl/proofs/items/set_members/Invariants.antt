use Rattle.std.proofs.Common.{◌≡◌, [], drop}
use Rattle.json.specs.Value.{members_view, value_view}
use Rattle.haya_csl.specs.Draft.{draft_view, member_view}
use Rattle.haya_csl.specs.Items.{members_set, only_lost}
use Rattle.haya_csl.proofs.items.set_members.Given as goal

-- what all members make of the first entries is what those left make of the entries so far, and of
-- what is lost so far
abbrev pub invariant-members : goal.invariant-members
invariant-members l =
    members_set l.by l.kind l.key (value_view l.item) (members_view l.member-items) (only_lost [] (draft_view l.initial.draft))
    ≡ members_set l.by l.kind l.key (value_view l.item) (members_view (drop l.member-index l.member-items)) (member_view l.lost.items l.draft)
