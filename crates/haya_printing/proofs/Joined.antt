-- The lines of several entries.
use Rattle.std.proofs.Common.{suc, List, [], ◌∷◌, refl, arith}
use Rattle.std.specs.Prelude.{All}
use Rattle.std.specs.List.{flat_map}
use Rattle.std.proofs.lemmas.List.Elements.{All-head, All-tail}
use Rattle.haya_entry.specs.Tree.{Tree}
use Rattle.hayagriva.specs.Library.{AreDistinct}
use Rattle.hayagriva.proofs.Parts.{AreApart-distinct}
use Rattle.haya_line_library.specs.Input.{Describes}
use Rattle.haya_line_library.proofs.Parts.{Describes-append}
use Rattle.haya_printing.specs.Printed.{entry_text}
use Rattle.haya_printing.proofs.EntryLines.{entry_text-whole}

abbrev IsSaid : Tree → Type 0
IsSaid t = Describes (entry_text t) (t ∷ [])

pub joined : (ts : List Tree) → AreDistinct ts → All IsSaid ts → Describes (flat_map entry_text ts) ts
joined [] distinct said = record { entries = []; rows = refl; of_entries = refl }
joined (t ∷ ts) distinct said =
    Describes-append (entry_text t) (flat_map entry_text ts) (t ∷ []) ts (entry_text-whole t) (AreApart-distinct (t ∷ []) ts distinct) (All-head IsSaid t ts said)
    (joined ts (λ i j d before within. distinct (suc i) (suc j) d (omega arith) (omega arith)) (All-tail IsSaid t ts said))
