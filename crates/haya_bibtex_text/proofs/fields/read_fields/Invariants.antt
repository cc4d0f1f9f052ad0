use Rattle.std.proofs.Common.{◌≤◌, ◌++◌, List, ℕ, length, map}
use Rattle.haya_bibtex_text.specs.FieldViews.{field_view}
use Rattle.haya_bibtex_text.specs.Fields.{AreFields, FailFields, RawField}
use Rattle.haya_bibtex_text.specs.declared.fault.Refusal.{Refusal}
use Rattle.haya_bibtex_text.proofs.fields.read_fields.Given as goal

-- the fields so far and those of what is left are the text's, and the fault of what is left is its
abbrev pub invariant-fields : goal.invariant-fields
invariant-fields l = record {
  fields : (fs : List RawField) (rest : List ℕ) → AreFields l.entry l.close l.left fs rest →
      AreFields l.entry l.close l.text (map field_view l.fields.items ++ fs) rest;
  fault : (f : Refusal) → FailFields l.entry l.close l.left f → FailFields l.entry l.close l.text f;
  shorter : length l.left ≤ length l.text;
}

abbrev pub decreases-fields : goal.decreases-fields
decreases-fields l = length l.left
