use Rattle.haya_selectors.proofs.OneCut.{cut_is}
use Rattle.haya_selectors.proofs.token.Tokens.new.Goals as goal

pub returns : goal.returns
returns c = rw c.new.ensures (cut_is _)
