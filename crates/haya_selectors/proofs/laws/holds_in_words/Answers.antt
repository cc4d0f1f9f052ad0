use Rattle.haya_selectors.proofs.InWords.{holds-picks}
use Rattle.haya_selectors.proofs.laws.holds_in_words.Goals as goal

pub returns : goal.returns
returns c = holds-picks
