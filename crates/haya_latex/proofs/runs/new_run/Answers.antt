use Rattle.std.proofs.Common.{[], ◌∷◌, arith, length-append}
use Rattle.std.specs.Char.{encode_utf8}
use Rattle.std.proofs.lemmas.Str.{length-le-encodes}
use Rattle.haya_latex.proofs.runs.new_run.Goals as goal

pub returns-clause-text : goal.returns-clause-text
returns-clause-text c = grind (arith, length-le-encodes (c.args.c ∷ []), length-append (encode_utf8 c.args.c) [])
