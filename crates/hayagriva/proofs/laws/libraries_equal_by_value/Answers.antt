use Rattle.hayagriva.specs.EqualityLaws.{library_eq-Decides}
use Rattle.hayagriva.proofs.laws.libraries_equal_by_value.Goals as goal

pub returns : goal.returns
returns c = library_eq-Decides
