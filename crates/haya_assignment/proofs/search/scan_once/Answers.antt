use Rattle.std.proofs.Common.{◌≡◌, ◌<◌, ℕ, true, get_or, length, refl, arith}
use Rattle.std.proofs.lemmas.List.{get_or_read}
use Rattle.haya_assignment.specs.Search.{acceptance, IsClosed}
use Rattle.haya_assignment.proofs.Reaching.{scanned_grows, scanned_more}
use Rattle.haya_assignment.proofs.search.scan_once.Goals as goal

pub returns-in-Some-clause-scanned : goal.returns-in-Some-clause-scanned
returns-in-Some-clause-scanned c =
    scanned_grows (acceptance c.args.by.now) c.args.by.now.stays.now c.args.by.now.holders.now c.args.by.now.alike.now c.args.reached.now _ c.scan.ensures.scanned c.in_ok-position.ensures.as_long c.in_ok-position.ensures.grows c.requires.scanned

pub returns-clause-scanned : goal.returns-clause-scanned
returns-clause-scanned c =
    let A = acceptance c.args.by.now in
    let hs = c.args.by.now.holders.now in
    let ms = c.args.reached.now.members.items in
    let at : c.args.at < length ms = c.requires.at_in in
    let is : c.index.result.now ≡ get_or ms c.args.at 0 = get_or_read ms c.args.at _ at c.index.ensures 0 in
    let known : get_or ms c.args.at 0 < length c.args.reached.now.seen.items = c.requires.reaches.known c.args.at at in
    let closed : (j : ℕ) → A (get_or ms c.args.at 0) j ≡ true → IsClosed c.args.by.now.stays.now hs c.scan.new.reached.members.items j = rw c.in_default.is at c.in_ok-position.ensures.closed in
    scanned_more A c.args.by.now.stays.now hs c.args.by.now.alike.now c.scan.new.reached _ c.index.result.now refl refl refl (omega (arith, is)) c.requires.fits.alike
    (λ j ok. closed j (rw (← is) ok))
    (scanned_grows A c.args.by.now.stays.now hs c.args.by.now.alike.now c.args.reached.now c.scan.new.reached c.scan.ensures.scanned c.in_ok-position.ensures.as_long c.in_ok-position.ensures.grows c.requires.scanned)
