use Rattle.std.proofs.Common.{rules, ◌≡◌, ◌++◌, arith, ap, length, length-append}
use Rattle.std.proofs.lemmas.Str.{chars_past_char, length-encode, len_utf8_bounds}
use Rattle.std.specs.Char.{encode_utf8}
use Rattle.haya_text.proofs.chars.split_char.Goals as goal

pub returns-clause-first : goal.returns-clause-first
returns-clause-first c =
    let bytes : c.args.text.now ≡ encode_utf8 c.in_ok-first.first ++ c.as_str.result.now = search rules in
    chars_past_char _ _ _ c.utf8.text bytes

pub returns-clause-shorter : goal.returns-clause-shorter
returns-clause-shorter c =
    let bytes : c.args.text.now ≡ encode_utf8 c.in_ok-first.first ++ c.as_str.result.now = search rules in
    omega (arith, ap length bytes, length-append (encode_utf8 c.in_ok-first.first) c.as_str.result.now, length-encode c.in_ok-first.first, len_utf8_bounds c.in_ok-first.first)
