use Rattle.std.proofs.Common.{length, ap, sym}
use Rattle.std.proofs.lemmas.Iterator.{YieldsList-from_chars}
use Rattle.std.proofs.lemmas.Iterator.Consumers.{count_from_yields_List}
use Rattle.std.proofs.lemmas.Str.{chars-IsAscii}
use Rattle.haya_bibtex_text.proofs.resolved.char_count.Goals as goal

pub returns-then-is_ascii : goal.returns-then-is_ascii
returns-then-is_ascii c = ap length (sym (chars-IsAscii c.args.text.now (rw c.if-is_ascii.true at c.is_ascii.ensures.cases)))

pub returns : goal.returns
returns c = count_from_yields_List _ c.count.result c.count.ensures.ran (YieldsList-from_chars c.args.text.now c.utf8.text cc)
