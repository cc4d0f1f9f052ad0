use Rattle.std.proofs.Common.{◌≤◌, ◌<◌, length, arith}
use Rattle.std.specs.Str.{chars}
use Rattle.haya_bibtex_text.proofs.Spending.{spend_none, spend_some}
use Rattle.haya_bibtex_text.proofs.resolved.take_room.Goals as goal

pub returns-then-size-room : goal.returns-then-size-room
returns-then-size-room c =
    let more : c.args.room.now < length (chars c.args.string.now) = omega (arith, c.char_count-size.ensures, c.if-size-room.true) in
    rw c.stop_at.ensures (spend_none c.args.left c.args.room.now (chars c.args.string.now) more)

pub returns : goal.returns
returns c =
    let no_more : length (chars c.args.string.now) ≤ c.args.room.now = omega (arith, c.char_count-size.ensures, c.if-size-room.false) in
    rw c.char_count-size.ensures (spend_some c.args.left c.args.room.now (chars c.args.string.now) no_more)
