use Rattle.std.proofs.Common.{◌<◌, ◌∙◌, [], length, sym, ap, arith}
use Rattle.haya_text.proofs.Characters.{length-chars}
use Rattle.haya_selectors.proofs.OneCut.{only_cut}
use Rattle.haya_selectors.proofs.Taken.{none_taken, fewer, fewer_by_some, nothing_by_none, left_within, one_more, ends_there}
use Rattle.haya_selectors.proofs.token.end_before.Goals as goal

pub counted-init : goal.counted-init
counted-init c = omega (arith, ap length (only_cut c.new-ahead.ensures), ap length c.fork-counted.ensures)

pub counted-preserved : goal.counted-preserved
counted-preserved c =
    let within = left_within _ _ c.requires in
    let counted = fewer_by_some _ _ _ c.next.ensures (sym c.is_some.ensures ∙ c.counted-test.true) in
    let more : 0 < length c.counted.ahead = omega (arith, within, counted, c.counted.invariant) in
    omega (arith, c.counted.invariant, counted, fewer _ _ _ c.next-in-counted.ensures more)

pub taken-init : goal.taken-init
taken-init c =
    let none = nothing_by_none _ _ _ c.next.ensures (sym c.is_some.ensures ∙ c.counted-test.false) in
    rw c.new-cursor.ensures (([], none_taken), omega (arith, c.counted.invariant, none), omega (arith, length-chars _ c.utf8.text))

pub taken-preserved : goal.taken-preserved
taken-preserved c =
    let taken = fewer_by_some _ _ _ c.next-in-taken.ensures (sym c.is_some-in-taken.ensures ∙ c.taken-test.true) in
    let more = one_more _ _ _ _ c.next_lexeme.ensures.taken (omega (arith, taken, c.taken.invariant.1)) c.taken.invariant.0 in
    (more.0, omega (arith, taken, c.taken.invariant.1, more.1), c.next_lexeme.ensures.same_text ∙ c.taken.invariant.2)

pub returns : goal.returns
returns c =
    let none = nothing_by_none _ _ _ c.next-in-taken.ensures (sym c.is_some-in-taken.ensures ∙ c.taken-test.false) in
    rw c.place.ensures (ends_there _ _ _ _ c.utf8.text c.requires c.taken.invariant.0 (omega (arith, none, c.taken.invariant.1)) c.taken.invariant.2)
