use Rattle.std.proofs.Common.{sym}
use Rattle.haya_bibtex_names.proofs.Pointers.{front_map}
use Rattle.haya_bibtex_names.proofs.plain.front.Goals as goal

pub returns-clause-words : goal.returns-clause-words
returns-clause-words c = rw c.saturating_sub.ensures (sym (front_map (λ p. p.now) c.args.words.now))
