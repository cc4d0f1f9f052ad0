use Rattle.haya_time.proofs.DurationsKept.{duration_kept, ends_kept, range_kept}
use Rattle.haya_time.proofs.laws.durations.read_durations_read_back.Goals as goal

pub returns : goal.returns
returns c = record { duration = duration_kept; range = range_kept; ends = ends_kept }
