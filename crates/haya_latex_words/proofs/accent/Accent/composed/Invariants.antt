use Rattle.std.proofs.Common.{◌≡◌, ◌==◌, drop}
use Rattle.std.specs.Map.{lookup}
use Rattle.haya_latex_words.specs.Accents.{composed}
use Rattle.haya_latex_words.proofs.accent.Accent.composed.Given as goal

-- the letter is found where it is in the rest of the table
abbrev pub invariant-letters : goal.invariant-letters
invariant-letters l = composed l.fn.self l.letter ≡ lookup (λ k. l.letter == k) (drop l.plain-index l.plain-items)
