use Rattle.std.proofs.Common.{◌≡◌, length, map}
use Rattle.haya_bibtex_text.specs.BibliographyViews.{field_texts}
use Rattle.haya_bibtex_text.proofs.Distinct.{are_distinct}
use Rattle.haya_bibtex_text.proofs.kept.all_stay.Given as goal

-- no two have one name where no two of those that are left do
abbrev pub invariant-fields : goal.invariant-fields
invariant-fields l = are_distinct (map field_texts l.fields) ≡ are_distinct (map field_texts l.left)

abbrev pub decreases-fields : goal.decreases-fields
decreases-fields l = length l.left
