use Rattle.haya_numbers.proofs.RomanLetters.{roman-places, roman-value}
use Rattle.haya_numbers.proofs.laws.roman_letters.Goals as goal

pub returns-clause-places : goal.returns-clause-places
returns-clause-places c = roman-places

pub returns-clause-value : goal.returns-clause-value
returns-clause-value c = roman-value
