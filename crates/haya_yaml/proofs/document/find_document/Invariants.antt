use Rattle.std.proofs.Common.{◌≡◌, ◌-◌, ◌≤◌, length, drop, false}
use Rattle.haya_yaml.specs.Documents.{document_of}
use Rattle.haya_yaml.specs.Line.{texts}
use Rattle.haya_yaml.proofs.document.find_document.Given as goal

abbrev pub invariant-lines : goal.invariant-lines
invariant-lines l = (l.place ≤ length l.lines) × (document_of l.told (texts (drop l.place l.lines)) ≡ document_of false (texts l.lines))

abbrev pub decreases-lines : goal.decreases-lines
decreases-lines l = length l.lines - l.place
