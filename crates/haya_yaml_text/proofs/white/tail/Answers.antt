use Rattle.std.proofs.lemmas.Str.{IsCharBoundary-after_ascii}
use Rattle.haya_yaml_text.proofs.white.tail.Goals as goal

pub behind-requires : goal.behind-requires
behind-requires c = IsCharBoundary-after_ascii c.args.text.now 0 c.utf8.text c.requires.some c.requires.ascii
