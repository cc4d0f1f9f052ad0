use Rattle.haya_parts.proofs.Lists.{held_seen}
use Rattle.haya_parts.proofs.list_parts.ListPartsDivider.next.Goals as goal

pub element-requires-clause-seen : goal.element-requires-clause-seen
element-requires-clause-seen g c =
    held_seen g.B.Enclosed.around c.args.self.now c.requires.0 c.args.held.now c.requires.1 c.requires.2 c.in-Opened.is
