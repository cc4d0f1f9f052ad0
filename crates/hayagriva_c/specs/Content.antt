-- What a pointer of C's leads to, by what it is.
use Rattle.std.specs.Prelude.{ℕ, List, [], Option, None, Some, map, option_and_then, string_bytes}
use Rattle.haya_entry.specs.Tree.{Tree}
use Rattle.haya_views.specs.InOrder.{entry_at}
use Rattle.haya_views.specs.declared.entry_id.EntryId.{EntryId}
use Rattle.hayagriva_c.specs.Noted.{noted}
use Rattle.hayagriva_c.specs.declared.content.Asked.{Asked}
use Rattle.hayagriva_c.specs.declared.content.Content.{Content}
use Rattle.hayagriva_c.specs.declared.content.Content.TheVariants as held

-- the library
abbrev pub library_in : Content → Option (List Tree)
library_in (held.Library shelf) = Some shelf.library
library_in (held.Selector asked) = None
library_in (held.Words words) = None
library_in (held.Text text) = None

-- what was passed over of the text of a library
abbrev pub notes_in : Content → List (List ℕ × ℕ)
notes_in (held.Library shelf) = noted shelf.notes.items
notes_in (held.Selector asked) = []
notes_in (held.Words words) = []
notes_in (held.Text text) = []

-- the selector, with its names
abbrev pub selector_in : Content → Option Asked
selector_in (held.Library shelf) = None
selector_in (held.Selector asked) = Some asked
selector_in (held.Words words) = None
selector_in (held.Text text) = None

-- the entry that is meant, of a library
abbrev pub entry_in : Content → EntryId → Option Tree
entry_in content id = option_and_then (λ l. entry_at l id) (library_in content)

-- the names of a selector, or none
abbrev pub names_of : Option Asked → List (List ℕ)
names_of None = []
names_of (Some asked) = map string_bytes asked.names.items
