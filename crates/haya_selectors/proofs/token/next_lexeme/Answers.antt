use Rattle.std.proofs.Common.{sym}
use Rattle.haya_selectors.proofs.Cuts.{eaten}
use Rattle.haya_selectors.proofs.Taken.{nothing_taken, word_taken, char_taken}
use Rattle.haya_selectors.proofs.token.next_lexeme.Goals as goal

pub returns-in_err-first-clause-taken : goal.returns-in_err-first-clause-taken
returns-in_err-first-clause-taken c =
    rw c.from_residual.ensures (nothing_taken _ _ c.eat_whitespace.ensures.taken c.in_err-first.ensures)

pub returns-then-starts_word-clause-taken : goal.returns-then-starts_word-clause-taken
returns-then-starts_word-clause-taken c =
    word_taken _ _ c.eat_whitespace.ensures.taken _ _ _ c.in_ok-first.ensures (sym c.if-starts_word.ensures) c.eat_while.ensures.taken c.eat_while.utf8 c.eat_while.ensures.accepted c.eat_while.ensures.stops

pub returns-in_default-clause-taken : goal.returns-in_default-clause-taken
returns-in_default-clause-taken c =
    char_taken _ _ c.eat_whitespace.ensures.taken _ _ _ c.in_default.ensures (eaten _ _ _ _ c.in_ok-first.ensures c.eat.ensures.taken) (sym c.if-starts_word.ensures)

pub returns-clause-taken : goal.returns-clause-taken
returns-clause-taken c =
    char_taken _ _ c.eat_whitespace.ensures.taken _ _ _ c.in-Some.ensures (eaten _ _ _ _ c.in_ok-first.ensures c.eat.ensures.taken) (sym c.if-starts_word.ensures)
