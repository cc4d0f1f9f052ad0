use Rattle.std.proofs.Common.{◌≡◌, length}
use Rattle.std.specs.Str.Lines.{lines}
use Rattle.haya_line_library.specs.Repeats.{repeats_view}
use Rattle.haya_line_library.proofs.Again.{Again}
use Rattle.haya_line_library.proofs.library_text.read_library_with_repeats.Given as goal

abbrev pub invariant-rows : goal.invariant-rows
invariant-rows l = record {
  counted : l.number ≡ length l.yielded;
  again : Again (lines l.fn.text) l.number l.library l.entries.chain (repeats_view l.repeats);
}
