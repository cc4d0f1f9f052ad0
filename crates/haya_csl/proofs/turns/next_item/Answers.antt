use Rattle.std.proofs.Common.{◌≡◌, None, Some, arith}
use Rattle.json.specs.Json.{after_end_array, value}
use Rattle.json.specs.Value.{value_view}
use Rattle.haya_csl.proofs.ListTurns.{no_more_items, no_item, one_more_item}
use Rattle.haya_csl.proofs.turns.next_item.Goals as goal

pub returns-then-take_end_array-clause-item : goal.returns-then-take_end_array-clause-item
returns-then-take_end_array-clause-item c = no_more_items _ _ (grind arith)

pub returns-in-Ok-clause-item : goal.returns-in-Ok-clause-item
returns-in-Ok-clause-item c =
    let going : (after_end_array c.args.reader.now ≡ None) × (c.take_end_array.new.self ≡ c.args.reader.now) = grind arith in
    let v = c.in-Ok.item in
    let read : value 127 c.args.reader.now ≡ Some (value_view v, c.read.new.reader) = rw (← going.1) c.in-Ok.ensures.ok in
    one_more_item _ _ _ going.0 read

pub returns-in-Err-clause-invalid : goal.returns-in-Err-clause-invalid
returns-in-Err-clause-invalid c is =
    let going : (after_end_array c.args.reader.now ≡ None) × (c.take_end_array.new.self ≡ c.args.reader.now) = grind arith in
    let failed : value 127 c.take_end_array.new.self ≡ None = grind arith in
    no_item _ going.0 (rw (← going.1) failed)
