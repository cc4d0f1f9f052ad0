use Rattle.std.proofs.Common.{◌<◌, [], arith, below_more, rules}
use Rattle.json.proofs.Unique.Keys.{Key, DifferAt, AreDistinct-from_places, DifferAt-from_contains, repeated_from_contains}
use Rattle.haya_json.proofs.unique.each_is_new.Goals as goal

abbrev blank : Key
blank = record { ref_ptr = (0, 0); now = [] }

pub returns-then-contains : goal.returns-then-contains
returns-then-contains c = (λ never. absurd (cc), λ h. absurd (repeated_from_contains c.args.names.now c.names.at blank c.names-test.true c.if-contains.ensures.cases h))

pub names-preserved : goal.names-preserved
names-preserved c =
    let ks = c.args.names.now in
    let new = DifferAt-from_contains ks c.names.at blank c.names-test.true c.if-contains.ensures.cases in
    λ j k less upto. below_more (λ n. j < n → DifferAt ks j n) c.names.at (λ n below lower. c.names.invariant j n lower below) (new j) k upto less

pub returns : goal.returns
returns c = (λ _. AreDistinct-from_places c.args.names.now (λ i j less within. c.names.invariant i j less (omega arith)), λ _. search rules)
