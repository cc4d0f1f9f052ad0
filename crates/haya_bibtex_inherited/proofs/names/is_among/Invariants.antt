use Rattle.std.proofs.Common.{◌≡◌, drop, map}
use Rattle.haya_bibtex_inherited.specs.Entries.{is_among, name_view}
use Rattle.haya_bibtex_inherited.proofs.names.is_among.Given as goal

-- the name is one of these where it is one of the rest
abbrev pub invariant-names : goal.invariant-names
invariant-names l = is_among (map name_view l.names) l.name ≡ is_among (map name_view (drop l.other-index l.names)) l.name
