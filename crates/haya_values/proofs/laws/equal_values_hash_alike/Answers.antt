use Rattle.haya_values.specs.contracts.publisher.PublisherHash.TheImpl.Laws as publisher
use Rattle.haya_values.specs.contracts.url.QualifiedUrlHash.TheImpl.Laws as url
use Rattle.haya_values.proofs.laws.equal_values_hash_alike.Goals as goal

pub returns-clause-url : goal.returns-clause-url
returns-clause-url c = url.respects_eq-law

pub returns-clause-publisher : goal.returns-clause-publisher
returns-clause-publisher c = publisher.respects_eq-law
