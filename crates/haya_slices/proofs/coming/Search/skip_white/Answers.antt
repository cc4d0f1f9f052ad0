use Rattle.std.proofs.Common.{arith, refl, subst, take}
use Rattle.haya_slices.specs.Layout.{IsWhite}
use Rattle.haya_slices.proofs.Ending.{white_seen}
use Rattle.haya_slices.proofs.coming.Search.skip_white.Goals as goal

pub returns-clause-seen : goal.returns-clause-seen
returns-clause-seen c = λ b seen.
    white_seen b c.args.bytes.now c.args.self.now _ c.white_len.result seen c.requires.none
    c.requires.none refl refl refl
    (omega (arith, c.white_len.ensures.within, c.split_at.ensures.back_len))
    (subst (λ t. IsWhite (take c.white_len.result t)) c.split_at.ensures.back c.white_len.ensures.white)
