use Rattle.haya_json.proofs.SoundEntries.{entry_says_itself}
use Rattle.haya_json.proofs.laws.readable_entries_say_themselves.Goals as goal

pub returns : goal.returns
returns c = entry_says_itself
