use Rattle.std.proofs.Common.{◌≡◌, ◌∙◌, ap, arith, length, rules, map, take}
use Rattle.std.specs.Prelude.{string_bytes}
use Rattle.std.proofs.Math.Seq.{take-length}
use Rattle.haya_selectors.proofs.NameSets.{with_known, with_unknown}
use Rattle.haya_selectors.proofs.NodeLists.{map_more}
use Rattle.haya_selectors.proofs.names.NameSet.new.Goals as goal
use Rattle.haya_selectors.proofs.names.NameSet.new.Goals.{in-Ok, in-Err}

pub names-preserved : goal.names-preserved
names-preserved c =
    let items = c.args.list.now.items in
    let n = c.name-item.result in
    let i = c.names.name-index in
    let seen = map string_bytes (take i items) in
    rw (map_more string_bytes items i n (omega arith) (search rules))
    (elim c.match-parse.branch [
      | in-Ok w ↦ rw (w.fields-is, w.unknown-is) (with_known c.names.fields c.names.unknown seen (string_bytes n) c.names.invariant w.in-Ok.field (search rules) _ w.with-fields.ensures.this w.with-fields.ensures.others)
      | in-Err w ↦ rw (w.fields-is, w.unknown-is) (with_unknown c.names.fields c.names.unknown seen (string_bytes n) c.names.invariant (search rules))
    ])

pub invariant_of-result : goal.invariant_of-result
invariant_of-result c =
    let items = c.args.list.now.items in
    let at_end : c.names.name-index ≡ length items = omega arith in
    let all : take c.names.name-index items ≡ items = ap (λ n. take n items) at_end ∙ take-length items in
    rw c.of.ensures (rw all at c.names.invariant)
