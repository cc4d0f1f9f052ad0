use Rattle.haya_text.proofs.Characters.{chars-trim_start}
use Rattle.haya_time.proofs.text.skip_whitespace.Goals as goal

pub returns : goal.returns
returns c = chars-trim_start _ _ c.trim_start.utf8 c.trim_start.ensures.trim
