use Rattle.hayagriva.proofs.Parts.{AreApart-distinct, from_entries-distinct}
use Rattle.hayagriva.proofs.laws.distinct_entries_stand.Goals as goal

pub returns-clause-library : goal.returns-clause-library
returns-clause-library c = from_entries-distinct

pub returns-clause-cut : goal.returns-clause-cut
returns-clause-cut c = AreApart-distinct
