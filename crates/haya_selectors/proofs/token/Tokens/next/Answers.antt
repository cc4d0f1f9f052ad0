use Rattle.std.proofs.Common.{sym}
use Rattle.haya_selectors.proofs.Taken.{next_left}
use Rattle.haya_selectors.proofs.token.Tokens.next.Goals as goal

pub returns : goal.returns
returns c = next_left _ c.args.self.now _ _ (sym c.self.view_is) c.next_lexeme.ensures.taken
