use Rattle.std.proofs.Common.{rules}
use Rattle.std.proofs.lemmas.Result.{on_ok_weaker}
use Rattle.haya_printing.proofs.Leaving.{leaves_then}
use Rattle.haya_printing.proofs.printable.+leave_out_unsaid_fields.Goals as goal

pub leave_out_unsaid_fields-requires : goal.leave_out_unsaid_fields-requires
leave_out_unsaid_fields-requires t c =
    (search rules, (c.in_ok-leave_out_unsaid_field-in-len1-up.ensures.alone, c.in_ok-leave_out_unsaid_field-in-len1-up.ensures.without))

pub returns-in_ok-leave_out_unsaid_field-in-len1-up-clause-leaves : goal.returns-in_ok-leave_out_unsaid_field-in-len1-up-clause-leaves
returns-in_ok-leave_out_unsaid_field-in-len1-up-clause-leaves t c =
    on_ok_weaker c.leave_out_unsaid_fields.result (leaves_then _ _ _ _ _ _ c.in_ok-leave_out_unsaid_field-in-len1-up.ensures.leaves) c.leave_out_unsaid_fields.ensures.leaves
