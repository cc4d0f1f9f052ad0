use Rattle.std.proofs.Common.{◌≡◌, ◌++◌, drop, flat_map, string_bytes}
use Rattle.haya_bibtex_fields.specs.FieldTexts.{run_text}
use Rattle.haya_bibtex_fields.proofs.texts.plain_of.Given as goal

-- the text so far, and that of the runs that are left, is that of all
abbrev pub invariant-runs : goal.invariant-runs
invariant-runs l = string_bytes l.text ++ flat_map run_text (drop l.run-index l.run-items) ≡ flat_map run_text l.run-items
