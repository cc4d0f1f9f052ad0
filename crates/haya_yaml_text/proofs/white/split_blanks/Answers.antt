use Rattle.haya_yaml_text.proofs.Places.{behind_blanks}
use Rattle.haya_yaml_text.proofs.white.split_blanks.Goals as goal

pub split_at-requires : goal.split_at-requires
split_at-requires c = rw c.blanks.ensures (behind_blanks c.args.tabs c.args.text.now c.utf8.text)
