use Rattle.std.proofs.Common.{◌≡◌, [], length, take}
use Rattle.std.specs.Str.Lines.{lines}
use Rattle.haya_line_library.specs.Chain.{Taken}
use Rattle.haya_line_slices.proofs.reading.read_entry_lines.Given as goal

abbrev pub invariant-rows : goal.invariant-rows
invariant-rows l = record {
  counted : l.number ≡ length l.yielded;
  taken : Taken (take l.number (lines l.fn.part)) [] l.entries.chain;
}
