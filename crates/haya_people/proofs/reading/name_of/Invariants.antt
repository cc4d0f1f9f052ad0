use Rattle.std.proofs.Common.{length}
use Rattle.haya_people.specs.Reading.{words_of}
use Rattle.haya_people.proofs.Families.{NameSoFar}
use Rattle.haya_people.proofs.reading.name_of.Given as goal

abbrev pub invariant-words : goal.invariant-words
invariant-words l = NameSoFar l.family l.left l.last_word l.behind_lower l.is_all_lower

abbrev pub decreases-words : goal.decreases-words
decreases-words l = length (words_of l.left)
