use Rattle.haya_json.proofs.ReadBacks.{described}
use Rattle.haya_json.proofs.SoundEntries.{says_itself}
use Rattle.haya_json.proofs.laws.readable_libraries_read_back.Goals as goal

pub returns : goal.returns
returns c = λ library readable distinct shallow. described library (says_itself library readable distinct shallow)
