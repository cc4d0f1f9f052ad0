use denote.Shadow.{shadow}
use denote.Text.{Utf8}
use Rattle.std.proofs.Common.{length, map}
use Rattle.std.specs.Prelude.{All}
use Rattle.haya_bibtex_slices.specs.Items.{Says}
use Rattle.haya_bibtex_slices.specs.Views.{item_view}
use Rattle.haya_bibtex_slices.proofs.InOrder.{Continues}
use Rattle.haya_bibtex_slices.proofs.slices.item_slices.Given as goal

-- the items so far, and any of what is left, are those of the text
abbrev pub invariant-items : goal.invariant-items
invariant-items l =
    shadow (Utf8 l.rest) × Continues l.fn.text (map item_view l.items.items) l.rest
    × All Says (map item_view l.items.items)

abbrev pub decreases-items : goal.decreases-items
decreases-items l = length l.rest
