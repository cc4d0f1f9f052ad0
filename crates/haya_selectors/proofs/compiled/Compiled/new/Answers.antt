use Rattle.std.proofs.Common.{◌∙◌, ap, map, string_bytes}
use Rattle.haya_selectors.proofs.SlotNames.{adds_to_none}
use Rattle.haya_selectors.specs.BoundNames.{bound_names}
use Rattle.haya_selectors.specs.Syntax.{syntax}
use Rattle.haya_selectors.proofs.compiled.Compiled.new.Goals as goal

pub returns-clause-names : goal.returns-clause-names
returns-clause-names c = ap (map string_bytes) c.mark_simple.ensures.names ∙ adds_to_none c.new-nodes.result c.add.new.self (bound_names (syntax c.args.selector.now)) c.new-nodes.ensures.names c.in_ok-root.ensures.names
