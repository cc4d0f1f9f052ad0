use Rattle.std.proofs.Common.{◌<◌, ◌^◌, length, arith}
use Rattle.haya_json.proofs.Positions.{at_start, has_room}
use Rattle.haya_json.proofs.position.position_behind.Goals as goal

pub chars-init : goal.chars-init
chars-init c = at_start c.args.front.now c.new-cursor.result c.new-cursor.ensures

pub overflow_add-position : goal.overflow_add-position
overflow_add-position c =
    let short : length c.args.front.now < 2 ^ 63 = omega arith in
    omega (arith, (has_room c.args.front.now c.in-Some.c c.chars.cursor c.eat.new.self c.chars.position c.utf8.front c.chars.invariant c.in-Some.ensures.taken c.in-Some.ensures.same_text short).0)

pub overflow_add-position-else-c-eq10 : goal.overflow_add-position-else-c-eq10
overflow_add-position-else-c-eq10 c =
    let short : length c.args.front.now < 2 ^ 63 = omega arith in
    omega (arith, (has_room c.args.front.now c.in-Some.c c.chars.cursor c.eat.new.self c.chars.position c.utf8.front c.chars.invariant c.in-Some.ensures.taken c.in-Some.ensures.same_text short).1)
