use Rattle.std.proofs.Common.{◌≡◌, ◌+◌, length, arith}
use Rattle.haya_parts.proofs.LineEnds.{end_there, no_end}
use Rattle.haya_parts.proofs.line_parts.line_end.Goals as goal

pub returns-in-Some-clause-feed : goal.returns-in-Some-clause-feed
returns-in-Some-clause-feed c =
    let held = c.args.held.now in
    let rest = c.split_at.result.1.now in
    let within = c.requires.within in
    let back_len = c.split_at.ensures.back_len in
    let long : length rest + c.args.looked ≡ length held = omega arith in
    let found = c.in-Some.ensures in
    end_there held rest c.args.looked within c.requires.none c.split_at.ensures.back long c.in-Some.at
    found.0.high found.1 (λ k l. found.0.before k (omega arith) l)

pub returns-in-None-clause-none : goal.returns-in-None-clause-none
returns-in-None-clause-none c =
    let held = c.args.held.now in
    let rest = c.split_at.result.1.now in
    let within = c.requires.within in
    let back_len = c.split_at.ensures.back_len in
    let long : length rest + c.args.looked ≡ length held = omega arith in
    no_end held rest c.args.looked within c.requires.none c.split_at.ensures.back long
    (λ k l. c.in-None.ensures k (omega arith) l)
