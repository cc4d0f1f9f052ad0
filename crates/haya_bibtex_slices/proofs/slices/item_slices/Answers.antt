use Rattle.std.proofs.Common.{map, rules}
use Rattle.haya_bibtex_slices.specs.Views.{item_view}
use Rattle.haya_bibtex_slices.proofs.InOrder.{all_of, item_pushed, item_cut}
use Rattle.haya_bibtex_slices.proofs.slices.item_slices.Goals as goal

pub items-preserved : goal.items-preserved
items-preserved c =
    let part = rw c.in-Some-2.is at c.in_ok-item.ensures.part in
    let says = rw c.in-Some-2.is at c.in_ok-item.ensures.says in (
      search rules,
      item_cut c.args.text.now c.items.rest.now c.in-Some-cut.part.now c.in-Some-cut.behind.now (map item_view c.items.items.items) _ (item_view c.in-Some-2.item)
          c.items.invariant.1 c.in-Some-cut.ensures.parts part c.in_ok-push_item.ensures,
      item_pushed (map item_view c.items.items.items) _ (item_view c.in-Some-2.item) c.items.invariant.2 says c.in_ok-push_item.ensures,
    )

pub returns : goal.returns
returns c = record {
  parts = all_of c.args.text.now c.items.rest.now (map item_view c.items.items.items) c.items.invariant.1;
  each = c.items.invariant.2;
}
