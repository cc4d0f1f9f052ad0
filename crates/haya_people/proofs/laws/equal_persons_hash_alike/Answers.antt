use Rattle.haya_people.specs.contracts.person.PersonHash.TheImpl.Laws as person
use Rattle.haya_people.specs.contracts.role.PersonRoleHash.TheImpl.Laws as role
use Rattle.haya_people.specs.contracts.role.PersonsWithRolesHash.TheImpl.Laws as roles
use Rattle.haya_people.proofs.laws.equal_persons_hash_alike.Goals as goal

pub returns-clause-person : goal.returns-clause-person
returns-clause-person c = person.respects_eq-law

pub returns-clause-role : goal.returns-clause-role
returns-clause-role c = role.respects_eq-law

pub returns-clause-persons : goal.returns-clause-persons
returns-clause-persons c = roles.respects_eq-law
