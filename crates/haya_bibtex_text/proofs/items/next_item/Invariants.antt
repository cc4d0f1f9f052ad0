use Rattle.std.proofs.Common.{◌≤◌, List, length}
use Rattle.haya_bibtex_text.specs.Items.{Fails, RawItem, Says}
use Rattle.haya_bibtex_text.specs.declared.fault.Refusal.{Refusal}
use Rattle.haya_bibtex_text.proofs.items.next_item.Given as goal

-- the items of what is left are the text's, and its fault is the text's
abbrev pub invariant-items : goal.invariant-items
invariant-items l = record {
  items : (is : List RawItem) → Says l.left is → Says l.text is;
  fault : (f : Refusal) → Fails l.left f → Fails l.text f;
  shorter : length l.left ≤ length l.text;
}

abbrev pub decreases-items : goal.decreases-items
decreases-items l = length l.left
