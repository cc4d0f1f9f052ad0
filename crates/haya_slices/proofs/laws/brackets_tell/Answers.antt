use Rattle.haya_slices.proofs.Arrays.{is_array, is_object}
use Rattle.haya_slices.proofs.laws.brackets_tell.Goals as goal

pub returns-clause-array : goal.returns-clause-array
returns-clause-array c = is_array

pub returns-clause-object : goal.returns-clause-object
returns-clause-object c = is_object
