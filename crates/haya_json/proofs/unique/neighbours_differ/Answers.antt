use Rattle.std.proofs.Common.{◌-◌, arith, rules}
use Rattle.json.proofs.Unique.Keys.{AreDistinct-from_places, DifferAt-from_distinct, DifferAt-from_sorted}
use Rattle.haya_json.proofs.unique.neighbours_differ.Goals as goal

pub returns-then-eq : goal.returns-then-eq
returns-then-eq c = (λ never. absurd (cc), λ h. let differ = DifferAt-from_distinct c.args.names.now (c.names.at - 1) c.names.at h (omega arith) c.names-test.true in grind arith)

pub returns : goal.returns
returns c = (λ _. AreDistinct-from_places c.args.names.now (DifferAt-from_sorted c.args.names.now c.requires (λ k h. c.names.invariant k (omega arith))), λ _. search rules)
