use Rattle.std.proofs.lemmas.Result.{on_ok_weaker}
use Rattle.haya_printing.proofs.Leaving.{head_printable, leaves_then}
use Rattle.haya_printing.proofs.printable.leave_out_unsaid.Goals as goal

pub leave_out_unsaid_fields-requires-clause-without : goal.leave_out_unsaid_fields-requires-clause-without
leave_out_unsaid_fields-requires-clause-without c = head_printable _ _ _ _ c.in_ok-leave_out_no_room.ensures.leaves c.requires.has_line

pub returns-clause-leaves : goal.returns-clause-leaves
returns-clause-leaves c =
    on_ok_weaker c.leave_out_unsaid_fields.result (leaves_then _ _ _ _ _ _ c.in_ok-leave_out_no_room.ensures.leaves) c.leave_out_unsaid_fields.ensures.leaves
