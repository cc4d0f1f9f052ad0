use Rattle.haya_yaml_library.proofs.ReadBack.{read_back}
use Rattle.haya_yaml_library.proofs.laws.written_libraries_read_back.Goals as goal

pub returns : goal.returns
returns c = read_back
