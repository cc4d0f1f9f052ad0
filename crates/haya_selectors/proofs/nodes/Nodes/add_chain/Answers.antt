use Rattle.std.proofs.Common.{arith}
use Rattle.std.proofs.lemmas.Bool.Decides.{nat_tests}
use Rattle.haya_selectors.specs.Nodes.{node_count}
use Rattle.haya_selectors.proofs.Growth.{chain_node}
use Rattle.haya_selectors.proofs.NodeLists.{above_pop}
use Rattle.haya_selectors.proofs.nodes.Nodes.add_chain.Goals as goal

pub push-requires : goal.push-requires
push-requires c =
    let two = above_pop c.pop.new.self.items c.in-Some.last (node_count c.args.self.now) (rw c.in-Some.ensures.items at c.requires.others) in
    grind (arith, nat_tests, two.0, two.1, c.requires.first)

pub returns-clause-stands : goal.returns-clause-stands
returns-clause-stands c = rw (← chain_node c.args.self.now c.args.first c.args.others.items c.pop.new.self.items c.in-Some.last c.in-Some.ensures.items) c.push.ensures.stands
