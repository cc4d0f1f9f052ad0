use Rattle.std.proofs.Common.{◌<◌, length, get_or, sym, ap, ◌∙◌, arith}
use Rattle.std.proofs.lemmas.Str.{IsCharBoundary-after_ascii}
use Rattle.haya_slices.proofs.slices.behind_byte.Goals as goal

pub split_at-requires : goal.split_at-requires
split_at-requires c =
    let text = c.args.text.now in
    let start = c.white_len-start.result in
    let same = c.as_bytes-bytes.ensures.value in
    let within : start < length text = omega (arith, ap length same) in
    let byte : get_or text start 0 < 128 =
    omega (arith, ap (λ t. get_or t start 0) (sym same) ∙ c.if-bytes-start.true, c.requires) in
    IsCharBoundary-after_ascii text start c.utf8.text within byte
