use Rattle.std.proofs.Common.{length}
use Rattle.haya_printing.proofs.printable.+leave_out_unsaid_fields.Given as goal

abbrev pub decreases-leave_out_unsaid_fields : goal.decreases-leave_out_unsaid_fields
decreases-leave_out_unsaid_fields l = length l.names.now
