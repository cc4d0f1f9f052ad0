use Rattle.std.proofs.Common.{◌≡◌, map, true, arith}
use Rattle.std.specs.Prelude.{string_bytes}
use Rattle.haya_bibtex_slices.specs.Views.{item_view}
use Rattle.haya_bibtex_slices.proofs.PickedHits.{put_together}
use Rattle.haya_bibtex_slices.proofs.printing.hits_text.Goals as goal

pub returns-then-branch : goal.returns-then-branch
returns-then-branch c =
    let found : c.in_ok-push_hits.field-0 ≡ true = grind (arith, c.if-not-branch.false) in
    let definitions = rw c.new-parts.ensures.items at c.in_ok-push_definitions.ensures in
    let is = rw c.as_slice-3.ensures.value at c.in_ok-text.ensures in
    let says = rw c.as_str.ensures.value at (c.in_ok-says_hits.ensures c.if-branch.true) in
    put_together (map item_view c.args.items.now) c.args.hits.now (map (λ s. s.now) c.push_definitions.new.parts.items)
    (map (λ s. s.now) c.push_hits.new.parts.items) (map (λ s. s.now) c.push_items_at.new.parts.items) (string_bytes c.in_ok-text.text)
    definitions (c.in_ok-push_hits.ensures found) c.in_ok-push_items_at.ensures is says
