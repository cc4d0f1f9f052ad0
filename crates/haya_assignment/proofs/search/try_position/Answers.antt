use Rattle.std.proofs.Common.{◌≡◌, ◌<◌, ℕ, ◌∙◌, ap, sym, true, false, get_or, length, inl, inr, arith, Option}
use Rattle.std.specs.Prelude.{Some, None, slice_get}
use Rattle.std.proofs.lemmas.List.{get_or_read}
use Rattle.std.proofs.lemmas.List.Elements.{Contains-push}
use Rattle.std.proofs.lemmas.Option.{slice_get-get_or}
use Rattle.haya_assignment.specs.Search.{acceptance}
use Rattle.haya_assignment.proofs.Reaching.{reached_push, early_push}
use Rattle.haya_assignment.proofs.search.try_position.Goals as goal
use Rattle.haya_assignment.proofs.search.try_position.Goals.{else-is_open-via-then-is_open+else-look, else-is_open-via-else-is_open}

pub returns-in_ok-push-clause-reaches : goal.returns-in_ok-push-clause-reaches
returns-in_ok-push-clause-reaches c =
    let hs = c.args.by.now.holders.now in
    let ms = c.args.reached.now.members.items in
    let seen = c.args.reached.now.seen.items in
    let at : c.args.at < length ms = c.requires.at_in in
    let in_hs : c.args.position < length hs = omega (arith, c.requires.fits.as_many) in
    let held : slice_get hs c.args.position ≡ Some (Some c.in-Some.other) = slice_get-get_or hs c.args.position None in_hs ∙ ap (λ (o : Option ℕ). Some o) c.in-Some.is in
    let known : c.in-Some.other < length seen = rw c.requires.flags at (c.requires.fits.held c.args.position c.in-Some.other held) in
    let new : get_or seen c.in-Some.other false ≡ false = c.is_open.ensures.new c.if-is_open.true in
    let is : c.index-member.result.now ≡ get_or ms c.args.at 0 = get_or_read ms c.args.at _ at c.index-member.ensures 0 in
    let ok : acceptance c.args.by.now (get_or ms c.args.at 0) c.args.position ≡ true = rw (← is) (sym c.look-then-is_open.ensures.seen ∙ c.if-look.true) in
    rw (c.in_ok-push.ensures.members, c.in_ok-push.ensures.from, c.in_ok-push.ensures.seen)
    (reached_push (acceptance c.args.by.now) c.args.by.now.stays.now hs ms c.args.reached.now.from.items seen c.args.at c.in-Some.other c.args.position c.requires.reaches at known (c.is_open.ensures.moves c.if-is_open.true) new held ok)

pub returns-in_ok-push-clause-closed : goal.returns-in_ok-push-clause-closed
returns-in_ok-push-clause-closed c = λ no ok.
    let hs = c.args.by.now.holders.now in
    let in_hs : c.args.position < length hs = omega (arith, c.requires.fits.as_many) in
    record {
      holder = c.in-Some.other;
      held = slice_get-get_or hs c.args.position None in_hs ∙ ap (λ (o : Option ℕ). Some o) c.in-Some.is;
      which = inr (rw c.in_ok-push.ensures.members (Contains-push c.args.reached.now.members.items c.in-Some.other));
    }

pub returns-in_ok-push-clause-early : goal.returns-in_ok-push-clause-early
returns-in_ok-push-clause-early c = λ bound below was.
    let hs = c.args.by.now.holders.now in
    let in_hs : c.args.position < length hs = omega (arith, c.requires.fits.as_many) in
    let held : slice_get hs c.args.position ≡ Some (Some c.in-Some.other) = slice_get-get_or hs c.args.position None in_hs ∙ ap (λ (o : Option ℕ). Some o) c.in-Some.is in
    rw (c.in_ok-push.ensures.members, c.in_ok-push.ensures.from)
    (early_push bound hs c.args.reached.now.members.items c.args.reached.now.from.items c.args.at c.in-Some.other c.args.position c.requires.reaches.as_many held below was)

pub returns-else-is_open-clause-closed : goal.returns-else-is_open-clause-closed
returns-else-is_open-clause-closed c = λ no ok.
    let hs = c.args.by.now.holders.now in
    let ms = c.args.reached.now.members.items in
    let seen = c.args.reached.now.seen.items in
    let at : c.args.at < length ms = c.requires.at_in in
    let in_hs : c.args.position < length hs = omega (arith, c.requires.fits.as_many) in
    let held : slice_get hs c.args.position ≡ Some (Some c.in-Some.other) = slice_get-get_or hs c.args.position None in_hs ∙ ap (λ (o : Option ℕ). Some o) c.in-Some.is in
    elim c.else-is_open.branch [
      | else-is_open-via-then-is_open+else-look w ↦
          let is : c.index-member.result.now ≡ get_or ms c.args.at 0 = get_or_read ms c.args.at _ at c.index-member.ensures 0 in
          let refused : acceptance c.args.by.now (get_or ms c.args.at 0) c.args.position ≡ false = rw (← is) (sym w.look-then-is_open.ensures.seen ∙ w.if-look.false) in
          absurd (cc)
      | else-is_open-via-else-is_open w ↦
          elim (c.is_open.ensures.which w.if-is_open.false) [
            | inl stays ↦ record { holder = c.in-Some.other; held = held; which = inl stays }
            | inr was ↦ record { holder = c.in-Some.other; held = held; which = inr (c.requires.reaches.flagged c.in-Some.other was) }
          ]
    ]
