use Rattle.std.proofs.Common.{◌≡◌, ◌-◌, arith, drop, length, take}
use Rattle.std.proofs.lemmas.Grind.{common_steps}
use Rattle.haya_bibtex_text.proofs.Plain.{end_behind}
use Rattle.haya_bibtex_text.proofs.pieces.braces_end.Goals as goal

pub characters-init : goal.characters-init
characters-init c =
    let n = c.plain_len-count.result in
    let text = c.args.text.now in
    let whole : take (length text - n) (drop n text) ≡ drop n text = grind (arith, common_steps) in
    record {
      end = rw whole (end_behind n text c.plain_len-count.ensures.plain);
      count = omega arith;
      depth = omega arith;
    }
