use Rattle.std.proofs.Common.{◌≡◌, ◌≤◌, drop}
use Rattle.std.specs.Prelude.{nat_lt}
use Rattle.std.specs.List.{list_any, scan}
use Rattle.hayagriva_c.specs.Reading.{nests_too_deep, open_behind}
use Rattle.hayagriva_c.proofs.reading.nests_too_deep.Given as goal

-- it nests so where what is left does, behind so many open ones
abbrev pub invariant-bytes : goal.invariant-bytes
invariant-bytes l =
    (nests_too_deep l.bytes ≡ list_any (nat_lt 1000) (scan open_behind open_behind l.opened (drop l.byte-index l.bytes)))
    × (l.opened ≤ 1000)
