-- A library of distinct keys that one text lists.
use Rattle.std.proofs.Common.{IsTrue, ℕ, List, [], ◌∷◌, sym, ap, ◌∙◌, append-nil}
use Rattle.hayagriva.proofs.Parts.{from_entries-distinct}
use Rattle.hayagriva.specs.Library.{AreDistinct, from_entries}
use Rattle.hayagriva.specs.Tree.{Tree}
use Rattle.haya_command.specs.AskedLines.{IsListIn}
use Rattle.haya_command.specs.Reading.{AreReadAs, IsWhole, format_in}
use Rattle.haya_command.specs.declared.options.Options.{Options}
use Rattle.haya_command.proofs.Streams.{list_read}

pub one_list_read : (options : Options) (text : List ℕ) (entries : List Tree) → (IsTrue options.strict → IsWhole (format_in options text) text) → IsListIn (format_in options text) text entries → AreDistinct entries
    → AreReadAs options (text ∷ []) entries
one_list_read options text entries whole list distinct = record {
  parts = entries ∷ [];
  each = (list_read options text entries whole list distinct, tt);
  pushed = sym (from_entries-distinct entries distinct) ∙ ap from_entries (sym (append-nil entries));
}
