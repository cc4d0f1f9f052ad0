use Rattle.std.proofs.Common.{◌≡◌, rules, arith}
use Rattle.std.specs.Str.Lossy.{utf8_valid_len}
use Rattle.std.proofs.lemmas.Str.{utf8_valid_len_le}
use Rattle.haya_command.proofs.options.Input.read.Goals as goal

pub overflow_add-at : goal.overflow_add-at
overflow_add-at g c =
    let le = utf8_valid_len_le c.drop_mark-marked.new.bytes.items in
    let len : c.valid_up_to.result ≡ utf8_valid_len c.drop_mark-marked.new.bytes.items = search rules in
    let small = c.in-Ok.bytes.small in
    omega arith

pub overflow_add-at-in-Err-from_utf8 : goal.overflow_add-at-in-Err-from_utf8
overflow_add-at-in-Err-from_utf8 g c =
    let le = utf8_valid_len_le c.drop_mark-marked.new.bytes.items in
    let len : c.valid_up_to.result ≡ utf8_valid_len c.drop_mark-marked.new.bytes.items = search rules in
    let small = c.in-Ok.bytes.small in
    omega arith
