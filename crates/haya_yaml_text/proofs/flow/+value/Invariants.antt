use Rattle.std.proofs.Common.{◌≡◌, ◌+◌, ◌*◌, length}
use denote.Text.{Utf8}
use denote.Shadow.{shadow}
use Rattle.haya_yaml_text.specs.Flow.{flow_items, flow_members, flow_value}
use Rattle.haya_yaml_text.specs.Writing.{KeepsBefore, written_items, written_members}
use Rattle.haya_yaml_text.proofs.flow.+value.Given as goal

abbrev pub decreases-write_flow : goal.decreases-write_flow
decreases-write_flow l = 8 * l.depth + 2

abbrev pub decreases-write_list : goal.decreases-write_list
decreases-write_list l = 8 * l.depth

abbrev pub decreases-write_items : goal.decreases-write_items
decreases-write_items l = 8 * l.depth + 5

abbrev pub decreases-write_item : goal.decreases-write_item
decreases-write_item l = 8 * l.depth + 4

abbrev pub decreases-write_map : goal.decreases-write_map
decreases-write_map l = 8 * l.depth

abbrev pub decreases-write_members : goal.decreases-write_members
decreases-write_members l = 8 * l.depth + 6

abbrev pub decreases-write_member : goal.decreases-write_member
decreases-write_member l = 8 * l.depth + 5

abbrev pub decreases-write_value_behind : goal.decreases-write_value_behind
decreases-write_value_behind l = 8 * l.depth + 3

abbrev pub invariant-write_items-turns : goal.invariant-write_items-turns
invariant-write_items-turns l =
    shadow (Utf8 l.rest) × KeepsBefore l.initial.out.writer l.out.writer
    × (written_items l.out.writer.tokens (flow_items (flow_value l.depth) l.turns l.rest)
    ≡ written_items l.initial.out.writer.tokens (flow_items (flow_value l.depth) (length l.text) l.text))

abbrev pub decreases-write_items-turns : goal.decreases-write_items-turns
decreases-write_items-turns l = l.turns

abbrev pub invariant-write_members-turns : goal.invariant-write_members-turns
invariant-write_members-turns l =
    shadow (Utf8 l.rest) × KeepsBefore l.initial.out.writer l.out.writer
    × (written_members l.out.writer.tokens (flow_members (flow_value l.depth) l.turns l.rest)
    ≡ written_members l.initial.out.writer.tokens (flow_members (flow_value l.depth) (length l.text) l.text))

abbrev pub decreases-write_members-turns : goal.decreases-write_members-turns
decreases-write_members-turns l = l.turns

abbrev pub decreases-write_at : goal.decreases-write_at
decreases-write_at l = 8 * l.depth + 1

abbrev pub decreases-write_one_item : goal.decreases-write_one_item
decreases-write_one_item l = 8 * l.depth + 3

abbrev pub decreases-write_one_member : goal.decreases-write_one_member
decreases-write_one_member l = 8 * l.depth + 4
