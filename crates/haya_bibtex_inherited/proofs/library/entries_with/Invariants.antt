use Rattle.std.proofs.Common.{vec_len}
use Rattle.haya_bibtex_inherited.proofs.Making.{IsMade}
use Rattle.haya_bibtex_inherited.proofs.library.entries_with.Given as goal

abbrev pub invariant-lists : goal.invariant-lists
invariant-lists l = IsMade l.entries l.fn.lists.items l.lists.items l.library.items

abbrev pub decreases-lists : goal.decreases-lists
decreases-lists l = vec_len l.lists
