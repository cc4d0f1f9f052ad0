use Rattle.std.proofs.Common.{length, map, string_bytes}
use Rattle.haya_selectors.proofs.Parsing.{NamesSoFar}
use Rattle.haya_selectors.proofs.parse.names.Given as goal

abbrev pub invariant-list : goal.invariant-list
invariant-list l = NamesSoFar l.fn.tokens l.tokens (map string_bytes l.list.items)

abbrev pub decreases-list : goal.decreases-list
decreases-list l = length l.tokens
