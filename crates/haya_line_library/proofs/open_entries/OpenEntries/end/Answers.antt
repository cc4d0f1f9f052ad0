use Rattle.std.proofs.Common.{ap}
use Rattle.hayagriva.specs.Tree.{view}
use Rattle.haya_line_library.specs.Chain.{chain_view}
use Rattle.haya_line_library.proofs.Chains.{all_closed}
use Rattle.haya_line_library.proofs.open_entries.OpenEntries.end.Goals as goal

pub returns-clause-last : goal.returns-clause-last
returns-clause-last c =
    rw (← ap (λ o. o.chain) c.self.view_is)
    (all_closed c.close_to.result view (chain_view c.self.inside.chain) _ c.close_to.new.closed.items c.close_to.new.chain.items c.close_to.ensures.length c.close_to.ensures.rows c.close_to.ensures.one)
