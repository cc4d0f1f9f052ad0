use Rattle.std.proofs.Common.{[], refl}
use Rattle.haya_parts.proofs.list_parts.ListParts.new.Goals as goal

pub returns : goal.returns
returns g c = λ more. record { at = (refl, ([], refl, tt)); seen = tt }
