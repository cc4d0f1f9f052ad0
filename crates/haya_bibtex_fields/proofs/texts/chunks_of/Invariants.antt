use Rattle.std.proofs.Common.{◌≡◌, drop, map}
use Rattle.haya_text.specs.Chunks.{chunks}
use Rattle.haya_bibtex_fields.specs.FieldTexts.{chunks_of_runs, followed_by, kind_in, run_chunk}
use Rattle.haya_bibtex_fields.proofs.texts.chunks_of.Given as goal

-- the chunks so far, and those of the runs that are left behind them, are those of all
abbrev pub invariant-runs : goal.invariant-runs
invariant-runs l =
    followed_by (chunks l.text) (map (run_chunk (kind_in l.kept)) (drop l.run-index l.run-items))
    ≡ chunks_of_runs (kind_in l.kept) l.run-items
