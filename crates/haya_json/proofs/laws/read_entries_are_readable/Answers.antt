use Rattle.haya_json.proofs.LawsBelow.{laws_below}
use Rattle.haya_json.proofs.LibraryRead.{library_readable}
use Rattle.haya_json.proofs.LinesRead.{described_readable, list_readable}
use Rattle.haya_json.proofs.ValuesRead.{ReadAgain}
use Rattle.haya_json.proofs.laws.read_entries_are_readable.Goals as goal

pub returns : goal.returns
returns c =
    let again : ReadAgain = laws_below (record {
      texts = c.read_texts_read_back.ensures.read;
      chunk = c.read_texts_read_back.ensures.chunk;
      numbers = c.read_numbers_round_trip.ensures;
      bounds = c.read_numbers_read_back.ensures.bounds;
      pages = c.read_pages_round_trip.ensures.read;
      page = c.read_pages_round_trip.ensures.page;
      page_alone = c.read_pages_round_trip.ensures.from_zero;
      durations = c.read_durations_read_back.ensures.duration;
      ranges = c.read_durations_read_back.ensures.range;
      ends = c.read_durations_read_back.ensures.ends;
      dates = c.reads_the_forms_of_dates.ensures.value;
    })
    in
    record { library = library_readable again; list = list_readable again; of_lines = described_readable again }
