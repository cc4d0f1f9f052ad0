use Rattle.haya_selectors.proofs.InWords.{bound_to-named_entry}
use Rattle.haya_selectors.proofs.laws.names_in_words.Goals as goal

pub returns : goal.returns
returns c = bound_to-named_entry
