use Rattle.std.proofs.Common.{◌≡◌, drop}
use Rattle.json.specs.Value.{members_view}
use Rattle.haya_entry.specs.SerialNumber.{serial_view}
use Rattle.haya_json.specs.Values.{serials_with}
use Rattle.haya_json.proofs.values.serials.read_members.Given as goal

-- what all members make of the first numbers is what those left make of the numbers so far
abbrev pub invariant-numbers : goal.invariant-numbers
invariant-numbers l =
    serials_with (serial_view l.initial.serials) (members_view l.member-items)
    ≡ serials_with (serial_view l.serials) (members_view (drop l.member-index l.member-items))
