use Rattle.std.proofs.Common.{◌≡◌, ◌++◌, ap, rules, sym, ◌∙◌}
use Rattle.std.specs.Str.{chars}
use Rattle.std.proofs.lemmas.Iterator.{YieldsList-from_chars, YieldsList-from_map, YieldsList-from_slice}
use Rattle.std.proofs.lemmas.Iterator.Adapters.{items_from_extend}
use Rattle.std.proofs.lemmas.Iterator.Consumers.{YieldsList-end}
use Rattle.std.proofs.lemmas.List.{map-id}
use Rattle.std.proofs.lemmas.Str.{chars-IsAscii}
use Rattle.haya_characters.proofs.lists.push_block.Goals as goal

pub returns : goal.returns
returns c =
    let end = YieldsList-end (YieldsList-from_chars c.args.text.now c.utf8.text cc) c.chars.yielded _ c.chars.yielded_by _ _ c.in-None.is c.next.ensures.steps in
    let whole : c.chars.yielded ≡ chars c.args.text.now = sym (map-id c.chars.yielded) ∙ end.0 in
    c.chars.invariant ∙ ap (λ l. c.args.list.now.items ++ l) whole

pub returns-then-is_ascii : goal.returns-then-is_ascii
returns-then-is_ascii c =
    let bytes = c.as_bytes.result.now in
    let all = items_from_extend c.extend.result c.extend.ensures.ran
    (YieldsList-from_map _ (λ x. x) (YieldsList-from_slice bytes (cc)) (cc) (λ x r q k. search rules)) in
    let done = rw c.in_ok-extend.was at all in
    let same : chars c.args.text.now ≡ c.args.text.now = chars-IsAscii c.args.text.now (rw c.if-is_ascii.true at c.is_ascii.ensures.cases) in
    done.0 ∙ ap (λ l. c.args.list.now.items ++ l) (map-id bytes ∙ c.as_bytes.ensures.value ∙ sym same)
