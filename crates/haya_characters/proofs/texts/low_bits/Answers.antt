use Rattle.std.proofs.Common.{◌++◌, ap, ◌∙◌, bit_and, map, rules}
use Rattle.std.proofs.lemmas.Iterator.{YieldsList-from_map, YieldsList-from_slice}
use Rattle.std.proofs.lemmas.Iterator.Adapters.{items_from_extend}
use Rattle.haya_characters.proofs.texts.low_bits.Goals as goal

pub returns : goal.returns
returns c =
    let all = items_from_extend c.extend.result c.extend.ensures.ran
    (YieldsList-from_map _ (λ x. bit_and x 127) (YieldsList-from_slice c.args.characters.now (cc)) (cc) (λ x r q k. search rules)) in
    let done = rw c.in_ok-extend.was at all in
    done.0 ∙ ap (λ l. l ++ map (λ x. bit_and x 127) c.args.characters.now) c.in_ok-bytes.ensures.items
