use Rattle.haya_numbers.proofs.ExactPages.{exact_page_back, exact_pages_back, page_from_zero}
use Rattle.haya_numbers.proofs.RoundTrips.{pages_round_trip}
use Rattle.haya_numbers.proofs.laws.pages.read_pages_round_trip.Goals as goal

pub returns : goal.returns
returns c = record {
  read = λ text ps u e. pages_round_trip ps (exact_pages_back text ps u e);
  page = λ n small. pages_round_trip _ (exact_page_back n small);
  from_zero = page_from_zero;
}
