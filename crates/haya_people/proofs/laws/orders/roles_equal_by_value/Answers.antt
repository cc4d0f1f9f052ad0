use Rattle.haya_people.proofs.RoleEqual.{roles-tell, persons_with_roles-tell}
use Rattle.haya_people.proofs.laws.orders.roles_equal_by_value.Goals as goal

pub returns : goal.returns
returns c = record { role = roles-tell; persons = persons_with_roles-tell }
