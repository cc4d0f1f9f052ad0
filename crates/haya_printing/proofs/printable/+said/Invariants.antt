use Rattle.std.proofs.Common.{◌+◌, ◌*◌, map, take}
use Rattle.haya_entry.specs.Tree.{size, sizes, trees, view}
use Rattle.haya_printing.specs.LeftOut.{SaysParts}
use Rattle.haya_printing.proofs.printable.+said.Given as goal

abbrev pub decreases-said_part : goal.decreases-said_part
decreases-said_part l = 2 * size (view l.entry.now)

abbrev pub decreases-said_parts : goal.decreases-said_parts
decreases-said_parts l = 2 * sizes (trees (map view l.parents.now)) + 1

-- the parts so far are said
abbrev pub invariant-said_parts-parents : goal.invariant-said_parts-parents
invariant-said_parts-parents l = SaysParts l.fn.left_out l.left_out (trees (map view (take l.parent-index l.parents))) (trees (map view l.parts.items))
