use Rattle.std.proofs.Common.{map, take}
use Rattle.haya_bibtex_slices.specs.Printed.{AddsPicked}
use Rattle.haya_bibtex_slices.specs.Views.{item_view}
use Rattle.haya_bibtex_slices.proofs.printing.push_hits.Given as goal

abbrev pub invariant-hits : goal.invariant-hits
invariant-hits l =
    AddsPicked (map item_view l.items) (take l.hit-index l.hits) (map (λ s. s.now) l.initial.parts.items) (map (λ s. s.now) l.parts.items)
