use Rattle.std.proofs.Common.{map, take}
use Rattle.std.specs.Prelude.{string_bytes}
use Rattle.haya_selectors.specs.NameNumbers.{StandsForNames}
use Rattle.haya_selectors.proofs.names.NameSet.new.Given as goal

abbrev pub invariant-names : goal.invariant-names
invariant-names l = StandsForNames l.fields l.unknown (map string_bytes (take l.name-index l.list.items))
