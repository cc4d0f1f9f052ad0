use Rattle.haya_selectors.proofs.ParentSides.{holds_at_no_parent}
use Rattle.haya_selectors.proofs.laws.holds_at_no_parent.Goals as goal

pub returns : goal.returns
returns c = holds_at_no_parent
