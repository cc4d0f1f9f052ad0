use Rattle.std.proofs.Common.{List, ℕ, [], map, arith}
use Rattle.std.specs.Borrow.{Bor}
use Rattle.haya_bibtex_slices.specs.Views.{item_view}
use Rattle.haya_bibtex_slices.proofs.InOrder.{all_texts, texts_more}
use Rattle.haya_bibtex_slices.proofs.slices.items_of.Goals as goal

pub texts-preserved : goal.texts-preserved
texts-preserved c =
    let empty : Bor (List ℕ) = record { ref_ptr = (0, 0); now = [] } in
    let are = rw c.in-Some.is at c.in_ok-more.ensures in (
      omega (arith, c.texts-test.true),
      texts_more c.args.texts.now c.texts.number empty (map item_view c.texts.items.items) (map item_view c.in-Some.more.items) _
          c.texts-test.true c.texts.invariant.1 are c.in_ok-push_items.ensures,
    )

pub returns : goal.returns
returns c =
    all_texts c.args.texts.now c.texts.number (map item_view c.texts.items.items) c.texts-test.false c.texts.invariant.1
