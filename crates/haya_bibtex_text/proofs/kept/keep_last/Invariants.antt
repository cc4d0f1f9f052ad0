use Rattle.std.proofs.Common.{vec_len}
use Rattle.haya_bibtex_text.proofs.Keeping.{IsKept}
use Rattle.haya_bibtex_text.proofs.kept.keep_last.Given as goal

abbrev pub invariant-fields : goal.invariant-fields
invariant-fields l = IsKept l.initial.fields.items l.fields.items l.kept.items l.others.items l.names

abbrev pub decreases-fields : goal.decreases-fields
decreases-fields l = vec_len l.fields
