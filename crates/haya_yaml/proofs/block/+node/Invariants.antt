use Rattle.std.proofs.Common.{true, false, ◌≡◌, ◌+◌, ◌*◌, length}
use Rattle.haya_yaml_text.specs.Writing.{KeepsBefore}
use Rattle.haya_yaml.specs.Block.{entries, entries_of, items, members, node, value}
use Rattle.haya_yaml.specs.Line.{texts}
use Rattle.haya_yaml.specs.Saying.{said_items, said_members}
use Rattle.haya_yaml.proofs.block.+node.Given as goal

abbrev pub decreases-write_below : goal.decreases-write_below
decreases-write_below l = 12 * l.depth + 3

abbrev pub decreases-write_node : goal.decreases-write_node
decreases-write_node l = 12 * l.depth + 2

abbrev pub decreases-write_at : goal.decreases-write_at
decreases-write_at l = 12 * l.depth + 1

abbrev pub decreases-write_list : goal.decreases-write_list
decreases-write_list l = 12 * l.depth

abbrev pub decreases-write_items : goal.decreases-write_items
decreases-write_items l = 12 * l.depth + 8

abbrev pub decreases-write_next_item : goal.decreases-write_next_item
decreases-write_next_item l = 12 * l.depth + 6

abbrev pub decreases-write_one_item : goal.decreases-write_one_item
decreases-write_one_item l = 12 * l.depth + 5

abbrev pub decreases-write_item : goal.decreases-write_item
decreases-write_item l = 12 * l.depth + 4

abbrev pub decreases-write_map : goal.decreases-write_map
decreases-write_map l = 12 * l.depth

abbrev pub decreases-write_members : goal.decreases-write_members
decreases-write_members l = 12 * l.depth + 8

abbrev pub decreases-write_next_member : goal.decreases-write_next_member
decreases-write_next_member l = 12 * l.depth + 6

abbrev pub decreases-write_one_member : goal.decreases-write_one_member
decreases-write_one_member l = 12 * l.depth + 5

abbrev pub decreases-write_member : goal.decreases-write_member
decreases-write_member l = 12 * l.depth + 4

abbrev pub invariant-write_items-items : goal.invariant-write_items-items
invariant-write_items-items l =
    KeepsBefore l.initial.out.writer l.out.writer
    × (said_items l.out.writer.tokens (items (node l.depth) (value l.depth) l.column (entries_of false l.column (texts l.rest.texts.now)))
    ≡ said_items l.fn.out.writer.tokens (items (node l.depth) (value l.depth) l.column (entries false l.column l.text (texts l.lines.texts.now))))

abbrev pub decreases-write_items-items : goal.decreases-write_items-items
decreases-write_items-items l = length l.rest.texts.now

abbrev pub invariant-write_members-members : goal.invariant-write_members-members
invariant-write_members-members l =
    KeepsBefore l.initial.out.writer l.out.writer
    × (said_members l.out.writer.tokens (members (node l.depth) (value l.depth) l.column (entries_of true l.column (texts l.rest.texts.now)))
    ≡ said_members l.fn.out.writer.tokens (members (node l.depth) (value l.depth) l.column (entries true l.column l.first.text.now (texts l.lines.texts.now))))

abbrev pub decreases-write_members-members : goal.decreases-write_members-members
decreases-write_members-members l = length l.rest.texts.now
