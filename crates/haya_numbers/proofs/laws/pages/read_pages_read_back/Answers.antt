use Rattle.haya_numbers.proofs.KeptParts.{page_kept, pages_kept}
use Rattle.haya_numbers.proofs.laws.pages.read_pages_read_back.Goals as goal

pub returns : goal.returns
returns c = record { kept = pages_kept; page = page_kept }
