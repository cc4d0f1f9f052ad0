use Rattle.haya_numbers.specs.contracts.page.PageRangesHash.TheImpl.Laws as pages
use Rattle.haya_numbers.specs.contracts.page.PageRangesPartHash.TheImpl.Laws as part
use Rattle.haya_numbers.proofs.laws.pages.equal_pages_hash_alike.Goals as goal

pub returns-clause-part : goal.returns-clause-part
returns-clause-part c = part.respects_eq-law

pub returns-clause-pages : goal.returns-clause-pages
returns-clause-pages c = pages.respects_eq-law
