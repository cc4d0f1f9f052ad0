use Rattle.haya_line_library.proofs.OneLibrary.{Describes-same}
use Rattle.haya_line_library.proofs.laws.one_library.Goals as goal

pub returns : goal.returns
returns c = Describes-same
