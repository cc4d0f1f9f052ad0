use Rattle.hayagriva.proofs.Parts.{from_entries-parts, from_entries-many}
use Rattle.hayagriva.proofs.laws.library_in_parts.Goals as goal

pub returns-clause-two : goal.returns-clause-two
returns-clause-two c = from_entries-parts

pub returns-clause-many : goal.returns-clause-many
returns-clause-many c = from_entries-many
