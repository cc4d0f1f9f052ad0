use Rattle.std.proofs.Common.{take}
use Rattle.haya_printing.specs.LeftOut.{Names, parts_of}
use Rattle.haya_printing.proofs.printable.name_parts.Given as goal

-- the parts so far are named
abbrev pub invariant-parts : goal.invariant-parts
invariant-parts l = Names l.fn.left_out l.left_out (parts_of l.key (take l.part-index l.parts))
