use Rattle.std.proofs.Common.{◌≡◌, drop, map}
use Rattle.std.specs.Map.{lookup}
use Rattle.std.specs.Str.{bytes_eq}
use Rattle.haya_bibtex_entries.specs.Kinds.{rule_view}
use Rattle.haya_bibtex_entries.proofs.kinds.rule_in.Given as goal

-- the type is found where it is in the rest of the table
abbrev pub invariant-rows : goal.invariant-rows
invariant-rows l = lookup (bytes_eq l.name) (map rule_view l.table) ≡ lookup (bytes_eq l.name) (map rule_view (drop l.key-index l.table))
