-- Libraries that were read are read again from what is printed of them.
use Rattle.std.proofs.Common.{◌≤◌, ℕ, List, IsUtf8}
use Rattle.json.specs.Json.{max_depth}
use Rattle.json.specs.Tree.{depth as nesting}
use Rattle.haya_entry.specs.Tree.{Tree}
use Rattle.haya_json.specs.Libraries.{Describes}
use Rattle.haya_json.specs.Printed.{library_json}
use Rattle.haya_json.specs.ReadBack.{ReadsBack}
use Rattle.haya_json.specs.Readable.{EntriesAreReadable}
use Rattle.haya_json.proofs.EntriesRead.{entries_readable, library_read}
use Rattle.haya_json.proofs.InOrder.{distinct_keys}
use Rattle.haya_json.proofs.ReadBacks.{described}
use Rattle.haya_json.proofs.SoundEntries.{says_itself}
use Rattle.haya_json.proofs.TokensParsed.{document_texts}
use Rattle.haya_json.proofs.ValuesRead.{ReadAgain}

-- the values of a library that was read are as their types say
pub library_readable : ReadAgain → (text : List ℕ) (library : List Tree) → IsUtf8 text → Describes text library → EntriesAreReadable library
library_readable again text library utf8 d = entries_readable library (library_read again d.value library (document_texts text d.value utf8 d.parsed) d.read)

-- such a library is described by what is printed of it
pub read_again : (text : List ℕ) (library : List Tree) → Describes text library → EntriesAreReadable library → nesting (library_json library) ≤ max_depth → ReadsBack library
read_again text library d readable shallow = described library (says_itself library readable (distinct_keys d.value library d.unique d.read) shallow)
