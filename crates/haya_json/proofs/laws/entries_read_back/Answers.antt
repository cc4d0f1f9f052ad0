use Rattle.haya_json.proofs.EntriesBack.{library_back, none_told}
use Rattle.haya_json.proofs.laws.entries_read_back.Goals as goal

pub returns : goal.returns
returns c = record { library = library_back; told = none_told }
