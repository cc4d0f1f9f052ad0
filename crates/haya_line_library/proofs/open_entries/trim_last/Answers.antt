use Rattle.std.proofs.Common.{ap, ◌∙◌}
use Rattle.std.proofs.Math.Seq.{map-set_same}
use Rattle.hayagriva.specs.Tree.{view}
use Rattle.haya_line_library.proofs.open_entries.trim_last.Goals as goal

pub returns-in-Some : goal.returns-in-Some
returns-in-Some c = map-set_same view c.args.chain.now.items _ _ c.in-Some.entry.now (c.trim.ensures ∙ ap view c.in-Some.ensures.value)
