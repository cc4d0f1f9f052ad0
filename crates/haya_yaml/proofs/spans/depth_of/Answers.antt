use Rattle.std.proofs.Common.{◌≡◌, Some, length, length-take, min, true, sym, ap, ◌∙◌, arith}
use Rattle.haya_yaml.specs.Line.{begins_letter, indent, rest_of}
use Rattle.haya_yaml.proofs.Depths.{letter_depth}
use Rattle.haya_yaml.proofs.spans.depth_of.Goals as goal

pub returns-then-begins_letter : goal.returns-then-begins_letter
returns-then-begins_letter c =
    let line = c.args.line.now in
    let letter : begins_letter (rest_of line) ≡ true =
    ap begins_letter (sym c.split_blanks.ensures.rest) ∙ ap begins_letter (sym c.as_bytes.ensures.value) ∙ sym c.begins_letter.ensures ∙ c.if-begins_letter.true in
    let all : length c.split_blanks.result.0.now ≡ min (indent line) (length line) = ap length c.split_blanks.ensures.front ∙ length-take (indent line) line in
    let spaces : length c.split_blanks.result.0.now ≡ indent line = omega (arith, all, c.split_blanks.ensures.len) in
    ap Some spaces ∙ sym (letter_depth line letter)
