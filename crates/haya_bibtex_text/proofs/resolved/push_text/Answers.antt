use Rattle.haya_characters.proofs.Characters.{chars-joined}
use Rattle.haya_bibtex_text.proofs.resolved.push_text.Goals as goal

pub returns : goal.returns
returns c = chars-joined c.args.text.now c.push_str.new.self _ c.in_ok-push_str.ensures.bytes
