use Rattle.haya_people.proofs.RoleNames.{name-of_read, read-of_name}
use Rattle.haya_people.proofs.laws.orders.roles_read_by_name.Goals as goal

pub returns : goal.returns
returns c text r = (name-of_read text r, read-of_name text r)
