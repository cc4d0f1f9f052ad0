-- Entries that were read of lines of JSON.
use Rattle.std.proofs.Common.{◌≡◌, Bool, true, false, ℕ, List, [], ◌∷◌, ◌++◌, None, Ok, not, subst, sym, fold, length, IsUtf8, ◌==◌}
use Rattle.std.specs.Prelude.{All, codes, if◌then◌else◌}
use Rattle.std.specs.List.{AllZip, list_any}
use Rattle.std.specs.Str.Lines.{lines}
use Rattle.std.proofs.lemmas.List.Elements.{All-filter, All-head, All-tail}
use Rattle.json.specs.Json.{Json}
use Rattle.haya_json_elements.specs.Elements.{nonempty_lines}
use Rattle.haya_entry.specs.Tree.{Tree}
use Rattle.hayagriva.specs.Library.{has_key, key_of, push, with_replacement}
use Rattle.haya_json.specs.Entries.{entry_said}
use Rattle.haya_json.specs.JsonLines.{Describes, IsLineOf, IsListOf, entry_in, line_said}
use Rattle.haya_json.specs.Parts.{needed, plain_of}
use Rattle.haya_json.specs.Readable.{EntriesAreReadable, TreeIsReadable}
use Rattle.haya_json.proofs.EntriesRead.{EntriesWereRead, TreeWasRead, entries_readable, said_read}
use Rattle.haya_json.proofs.TextLines.{lines_utf8}
use Rattle.haya_json.proofs.TextsRead.{HasTexts, both_ok, needed_read, ok_same}
use Rattle.haya_json.proofs.TokensParsed.{document_texts}
use Rattle.haya_json.proofs.ValuesRead.{ReadAgain}

module _ (again : ReadAgain) where
  -- the entry of an object
  object_read : (j : Json) (t : Tree) → HasTexts j → entry_in j ≡ Ok t → TreeWasRead t
  object_read j t texts h =
      let said = both_ok (line_said j) _ t h in
      let key = both_ok (needed (codes "key") plain_of j) _ said.value said.first in
      subst TreeWasRead (ok_same said.then)
      (needed_read (λ v. TreeWasRead v.entry) (entry_said key.value None) (λ k v u g. said_read again key.value None k v u g) (codes "entry") j said.value texts key.then)

  -- the entries of lines
  all_read : (ls : List (List ℕ)) (entries : List Tree) → All IsUtf8 ls → AllZip IsLineOf ls entries → EntriesWereRead entries
  all_read [] [] utf8 list = tt
  all_read [] (t ∷ ts) utf8 list = absurd list
  all_read (l ∷ ls) [] utf8 list = absurd list
  all_read (l ∷ ls) (t ∷ ts) utf8 list =
      let one = list.0 in
      (object_read one.value t (document_texts l one.value (All-head IsUtf8 l ls utf8) one.parsed) one.read, all_read ls ts (All-tail IsUtf8 l ls utf8) list.1)

  -- the entries that a text lists
  pub list_readable : (text : List ℕ) (entries : List Tree) → IsUtf8 text → IsListOf text entries → EntriesAreReadable entries
  list_readable text entries utf8 list =
      entries_readable entries (all_read (nonempty_lines (lines text)) entries (All-filter (λ line. not (length line == 0)) IsUtf8 (lines text) (lines_utf8 text utf8)) list)

-- ---- their library

-- an entry in the place of another
replaced : (t : Tree) (ts : List Tree) → TreeIsReadable t → EntriesAreReadable ts → EntriesAreReadable (with_replacement t ts)
replaced t [] one all = tt
replaced t (u ∷ ts) one all = (by (has_key (key_of t) u), replaced t ts one all.1)
  where
    by : (b : Bool) → TreeIsReadable (if b then t else u)
    by true = one
    by false = all.0

-- an entry behind the others
behind : (t : Tree) (ts : List Tree) → TreeIsReadable t → EntriesAreReadable ts → EntriesAreReadable (ts ++ t ∷ [])
behind t [] one all = (one, tt)
behind t (u ∷ ts) one all = (all.0, behind t ts one all.1)

-- an entry that is pushed
pushed : (t : Tree) (ts : List Tree) → TreeIsReadable t → EntriesAreReadable ts → EntriesAreReadable (push t ts)
pushed t ts one all = by (list_any (has_key (key_of t)) ts)
  where
    by : (b : Bool) → EntriesAreReadable (if b then with_replacement t ts else ts ++ t ∷ [])
    by true = replaced t ts one all
    by false = behind t ts one all

-- entries that are pushed in turn
all_pushed : (done ts : List Tree) → EntriesAreReadable done → EntriesAreReadable ts → EntriesAreReadable (fold (λ d t. push t d) done ts)
all_pushed done [] all more = all
all_pushed done (t ∷ ts) all more = all_pushed (push t done) ts (pushed t done more.0 all) more.1

-- the library that a text describes
pub described_readable : ReadAgain → (text : List ℕ) (library : List Tree) → IsUtf8 text → Describes text library → EntriesAreReadable library
described_readable again text library utf8 d =
    subst EntriesAreReadable (sym d.of_entries) (all_pushed [] d.entries tt (list_readable again text d.entries utf8 d.listed))
