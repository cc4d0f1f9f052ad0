use Rattle.std.proofs.Common.{◌⊎◌, inl, inr, ℕ, List, IsUtf8}
use Rattle.hayagriva.specs.Tree.{Tree}
use Rattle.haya_json.specs.JsonLines as json_lines
use Rattle.haya_json.specs.Libraries as json
use Rattle.haya_json.specs.Readable.{EntriesAreReadable}
use Rattle.haya_command.proofs.PrintedLines.{answers_back, lists_back}
use Rattle.haya_command.proofs.laws.printed_lines_read_back.Goals as goal

pub returns : goal.returns
returns c =
    let says = c.readable_entries_say_themselves.ensures in
    let one_line = c.printed_json_is_one_line.ensures in
    record {
      hits = lists_back says one_line;
      read = λ s text printed entries hits utf8 given are fits shown. answers_back says one_line s entries hits printed (readable text entries utf8 given) are fits shown;
    }
  where
    readable : (text : List ℕ) (entries : List Tree) → IsUtf8 text → json.Describes text entries ⊎ (json_lines.Describes text entries ⊎ json_lines.IsListOf text entries) → EntriesAreReadable entries
    readable text entries utf8 (inl d) = c.read_entries_are_readable.ensures.library text entries utf8 d
    readable text entries utf8 (inr (inl d)) = c.read_entries_are_readable.ensures.of_lines text entries utf8 d
    readable text entries utf8 (inr (inr list)) = c.read_entries_are_readable.ensures.list text entries utf8 list
