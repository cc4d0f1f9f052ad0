use Rattle.std.proofs.Common.{◌≡◌, length}
use Rattle.std.specs.Str.Lines.{lines}
use Rattle.haya_line_library.proofs.Progress.{Progress}
use Rattle.haya_line_library.proofs.library_text.read_library.Given as goal

abbrev pub invariant-rows : goal.invariant-rows
invariant-rows l = record {
  counted : l.number ≡ length l.yielded;
  progress : Progress (lines l.fn.text) l.number l.library l.entries.chain;
}
