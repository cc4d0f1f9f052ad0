use Rattle.std.proofs.Common.{◌≡◌, ◌++◌, drop}
use Rattle.std.specs.Prelude.{string_bytes}
use Rattle.haya_yaml.specs.Line.{behind_feeds, joined, texts}
use Rattle.haya_yaml.proofs.line.joined.Given as goal

abbrev pub invariant-lines : goal.invariant-lines
invariant-lines l = string_bytes l.whole ++ behind_feeds (texts (drop l.line-index l.lines)) ≡ joined l.text (texts l.lines)
