use Rattle.std.proofs.Common.{◌<◌, ◌+◌, arith, ap, get_or, length, map, subst, sym, ◌∙◌, List}
use Rattle.std.proofs.lemmas.List.{map-set}
use Rattle.haya_bibtex_inherited.specs.Entries.{FieldBytes}
use Rattle.haya_bibtex_inherited.specs.Lists.{lists_view}
use Rattle.haya_bibtex_inherited.specs.Sources.{sources_view}
use Rattle.haya_bibtex_inherited.specs.Views.{entry_bytes, fields_view}
use Rattle.haya_bibtex_inherited.proofs.Filling.{AreKnown, known_all, known_more, node_within, sources_read}
use Rattle.haya_bibtex_inherited.proofs.library.lists.Goals as goal

pub all_fields-requires-clause-sources : goal.all_fields-requires-clause-sources
all_fields-requires-clause-sources c =
    let es = map entry_bytes c.args.entries.now in
    let ns = c.deref-node-items.result.now in
    let o = c.args.order.now in
    ap sources_view c.as_slice-sources.ensures.value
    ∙ sources_read es c.args.all.now (get_or ns c.nodes.node-index 0) c.index-all-node.result c.requires.sources
    (node_within o.ranks.items o.nodes.items ns es c.nodes.node-index c.requires.order c.deref-node-items.ensures.value c.nodes-test.true) c.index-all-node.is

pub nodes-preserved : goal.nodes-preserved
nodes-preserved c =
    let es = map entry_bytes c.args.entries.now in
    let ns = c.deref-node-items.result.now in
    let o = c.args.order.now in
    let k = c.nodes.node-index in
    let all = c.nodes.lists.items in
    let l : k < length o.nodes.items = omega (arith, c.nodes-test.true, ap length c.deref-node-items.ensures.value) in
    subst (λ (v : List (List FieldBytes)). AreKnown o.ranks.items o.nodes.items es (k + 1) v)
    (sym (map-set (λ v. fields_view v.items) all (get_or ns k 0) c.in_ok-list.list))
    (known_more o.ranks.items o.nodes.items es k (lists_view all) (get_or ns k 0) (fields_view c.in_ok-list.list.items) c.requires.order l
    (ap (λ x. get_or x k 0) c.deref-node-items.ensures.value) c.nodes.invariant
    (rw (c.as_slice-ranks.ensures.value, c.as_slice.ensures.value) at c.in_ok-list.ensures))

pub returns : goal.returns
returns c =
    let o = c.args.order.now in
    known_all o.ranks.items o.nodes.items (map entry_bytes c.args.entries.now) c.nodes.node-index (lists_view c.nodes.lists.items) c.requires.order
    (omega (arith, c.nodes-test.false, ap length c.deref-node-items.ensures.value)) c.nodes.invariant
