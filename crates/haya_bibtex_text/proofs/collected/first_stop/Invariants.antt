use Rattle.std.proofs.Common.{List, length}
use Rattle.haya_bibtex_text.specs.Items.{Fails, RawItem, Says}
use Rattle.haya_bibtex_text.specs.declared.fault.Refusal.{Refusal}
use Rattle.haya_bibtex_text.proofs.collected.first_stop.Given as goal

-- where what is left says items, the text does, and the fault of what is left is its
abbrev pub invariant-items : goal.invariant-items
invariant-items l = record {
  says : (is : List RawItem) → Says l.left is → (all : List RawItem) × Says l.text all;
  fault : (f : Refusal) → Fails l.left f → Fails l.text f;
}

abbrev pub decreases-items : goal.decreases-items
decreases-items l = length l.left
