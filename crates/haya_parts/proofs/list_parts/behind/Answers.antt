use Rattle.haya_parts.proofs.Lists.{closed_white_taken}
use Rattle.haya_parts.proofs.list_parts.behind.Goals as goal

pub returns-then-white-gt0-clause-takes : goal.returns-then-white-gt0-clause-takes
returns-then-white-gt0-clause-takes g c = λ d taken parts closed begins.
    rw (c.split.ensures.front, c.split.ensures.behind)
    (closed_white_taken g.B.Enclosed.around d taken c.args.held.now parts begins c.white_len-white.result closed
    c.white_len-white.ensures.within c.white_len-white.ensures.white)
