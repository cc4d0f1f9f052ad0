use Rattle.std.proofs.Common.{◌≡◌, ◌++◌, drop, map, string_bytes}
use Rattle.haya_bibtex_entries.specs.Rows.{commands}
use Rattle.haya_bibtex_entries.proofs.rows.command_names.Given as goal

-- the names so far, and those of the commands that are left, are all
abbrev pub invariant-unknown : goal.invariant-unknown
invariant-unknown l =
    commands (map string_bytes l.unknown)
    ≡ map string_bytes l.names.items ++ commands (map string_bytes (drop l.name-index l.unknown))
