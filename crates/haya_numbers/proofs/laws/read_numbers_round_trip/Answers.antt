use Rattle.haya_numbers.proofs.ExactNumbers.{exact_back}
use Rattle.haya_numbers.proofs.RoundTrips.{number_round_trip}
use Rattle.haya_numbers.proofs.laws.read_numbers_round_trip.Goals as goal

pub returns : goal.returns
returns c = λ text n u e. number_round_trip n (exact_back text n u e)
