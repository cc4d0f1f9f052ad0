use Rattle.std.specs.Prelude.{All}
use Rattle.std.proofs.Common.{◌≡◌, ◌++◌, ◌∷◌, [], true, drop, flat_map, map, reverse}
use Rattle.haya_latex.specs.RunViews.{HasText, run_bytes, run_kind}
use Rattle.haya_latex.specs.Texts.{alternates, char_bytes, trimmed}
use Rattle.haya_latex.proofs.Trimming.{held}
use Rattle.haya_latex.proofs.runs.trimmed_runs.Given as goal

-- the runs so far, and what the rest comes to, are all characters
abbrev pub invariant-chars : goal.invariant-chars
invariant-chars l =
    let runs = l.runs.items ++ l.last ∷ [] in
    record {
      bytes : flat_map char_bytes (trimmed l.chars) ≡ flat_map run_bytes runs ++ flat_map char_bytes (held l.blank (drop l.c-index l.behind));
      kinds : alternates (reverse (map run_kind runs)) ≡ true;
      texts : All HasText runs;
    }
