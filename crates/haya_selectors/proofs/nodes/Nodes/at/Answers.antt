use Rattle.std.proofs.Common.{◌≡◌, ◌+◌, arith, length, rules}
use Rattle.haya_selectors.specs.Nodes.{slot_names}
use Rattle.haya_selectors.proofs.NodeLists.{fits_at, node_stands}
use Rattle.std.proofs.lemmas.List.{length-map}
use Rattle.haya_selectors.proofs.nodes.Nodes.at.Goals as goal

pub returns-clause-stands : goal.returns-clause-stands
returns-clause-stands c =
    let s = c.args.self.now in
    node_stands (slot_names s) (length s.names.items) s.nodes.items c.args.number c.index.result.now s.fit c.requires (search rules)

pub returns-clause-fits : goal.returns-clause-fits
returns-clause-fits c =
    let s = c.args.self.now in
    let here : 0 + c.args.number ≡ c.args.number = omega arith in
    rw (length-map, ← here) (fits_at (length s.names.items) 0 s.nodes.items c.args.number c.index.result.now s.fit c.requires (search rules))
