use Rattle.std.proofs.Common.{rules, tests}
use Rattle.std.proofs.lemmas.Iterator.Search.{any_from_yields_List}
use Rattle.std.proofs.lemmas.Iterator.Splits.{YieldsList-from_lines}
use Rattle.haya_formats.specs.Bibtex.{is_entry}
use Rattle.haya_formats.proofs.bibtex.has_entry.Goals as goal

pub returns : goal.returns
returns c = any_from_yields_List is_entry _ _ _ c.any.ensures.ran (YieldsList-from_lines c.args.text.now c.lines.ensures.rest) (λ x b q k. search (rules, tests))
