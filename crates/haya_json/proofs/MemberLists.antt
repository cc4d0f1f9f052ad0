-- The library of the entries that a text lists, a member a line.
use Rattle.std.proofs.Common.{◌≡◌, ◌≢◌, ℕ, List, [], ◌∷◌, None, Some, Ok, flat_map, refl, sym, ap, ◌∙◌, subst, append-nil}
use Rattle.std.specs.List.{AllPairs, AllZip}
use Rattle.json.specs.Json as json
use Rattle.json.specs.Json.{Json, Members, document, object}
use Rattle.json.specs.Strict.{HasUniqueKeys, MembersHaveUniqueKeys}
use Rattle.haya_json_elements.specs.Elements.{AreMembers, elements}
use Rattle.haya_json_elements.specs.declared.place.Brackets.TheVariants.{Curly}
use Rattle.haya_json_elements.proofs.Complete.{members-of-object}
use Rattle.haya_json_elements.proofs.Documents.{document_of_members}
use Rattle.haya_entry.specs.Tree.{Tree}
use Rattle.hayagriva.specs.Library.{AreDistinct}
use Rattle.haya_json.specs.Entries.{entry_of}
use Rattle.haya_json.specs.Libraries.{Describes, entries_of, library_of}
use Rattle.haya_json.specs.MemberLines.{IsMemberLineOf, LinesList, Lists, line_told}
use Rattle.haya_json.specs.Notes.{NotesView, kept_of}
use Rattle.haya_json.specs.Refusal.{to_member, within}
use Rattle.haya_json.specs.Told.{Tells, entries_told}
use Rattle.haya_json.proofs.InOrder.{distinct_keys, keys_of_entries}
use Rattle.haya_json.proofs.OneMember.{member_of_line, one_member}
use Rattle.haya_json.proofs.TextsRead.{both_ok, ok_same, within_ok}

-- ---- the members of lines

-- lines that say entries are members
members_of_lines : (ls : List (List ℕ)) (entries : List Tree) → AllZip IsMemberLineOf ls entries → (ms : Members) × AreMembers ls ms
members_of_lines [] [] listed = (json.no_members, tt)
members_of_lines [] (t ∷ ts) listed = absurd listed
members_of_lines (l ∷ ls) [] listed = absurd listed
members_of_lines (l ∷ ls) (t ∷ ts) listed =
    let first = listed.0 in
    let more = members_of_lines ls ts listed.1 in
    (json.member first.name first.value more.0, (first.parsed, more.1))

-- the entries of the members are those that the lines say, and no object in their values has a name
-- twice
entries_of_lines : (ls : List (List ℕ)) (ms : Members) (entries : List Tree) → AreMembers ls ms → AllZip IsMemberLineOf ls entries
    → MembersHaveUniqueKeys ms × (entries_of ms ≡ Ok entries)
entries_of_lines [] json.no_members [] are listed = (tt, refl)
entries_of_lines [] json.no_members (t ∷ ts) are listed = absurd listed
entries_of_lines [] (json.member k j ms) ts are listed = absurd are
entries_of_lines (l ∷ ls) json.no_members ts are listed = absurd are
entries_of_lines (l ∷ ls) (json.member k j ms) [] are listed = absurd listed
entries_of_lines (l ∷ ls) (json.member k j ms) (t ∷ ts) are listed =
    let first = listed.0 in
    let same = one_member l first.name k first.value j first.parsed are.0 in
    let more = entries_of_lines ls ms ts are.1 listed.1 in
    let read : entry_of k None j ≡ Ok t = rw (← same.0, ← same.1) first.read in
    ((rw (← same.1) first.unique, more.0), rw (read, more.1) refl)

-- the other way, lines that are members say the entries of these
lines_of_entries : (ls : List (List ℕ)) (ms : Members) (entries : List Tree) → AreMembers ls ms → MembersHaveUniqueKeys ms → entries_of ms ≡ Ok entries → AllZip IsMemberLineOf ls entries
lines_of_entries [] json.no_members ts are unique read = subst (AllZip IsMemberLineOf []) (ok_same read) tt
lines_of_entries [] (json.member k j ms) ts are unique read = absurd are
lines_of_entries (l ∷ ls) json.no_members ts are unique read = absurd are
lines_of_entries (l ∷ ls) (json.member k j ms) ts are unique read =
    let first = both_ok (within (to_member k) (entry_of k None j)) _ ts read in
    let more = both_ok (entries_of ms) _ ts first.then in
    let here : IsMemberLineOf l first.value = record { name = k; value = j; parsed = are.0; unique = unique.0; read = within_ok (to_member k) (entry_of k None j) first.value first.first } in
    subst (AllZip IsMemberLineOf (l ∷ ls)) (ok_same more.then) (here, lines_of_entries ls ms more.value are.1 unique.1 more.first)

-- what is told of lines is what is told of their members
told_of_lines : (ls : List (List ℕ)) (ms : Members) → AreMembers ls ms → flat_map line_told ls ≡ entries_told ms
told_of_lines [] json.no_members are = refl
told_of_lines [] (json.member k j ms) are = absurd are
told_of_lines (l ∷ ls) json.no_members are = absurd are
told_of_lines (l ∷ ls) (json.member k j ms) are =
    let first = member_of_line l k j are.0 in
    rw (first, append-nil, told_of_lines ls ms are.1) refl

-- ---- a text

-- the lines of a text that is an object are its members
record IsObjectOf (text : List ℕ) (ms : Members) : Type 0 where
  are : AreMembers (elements Curly text) ms
  parsed : document text ≡ Some (object ms)

object_of_lines : (text : List ℕ) (entries : List Tree) (kept : NotesView) → LinesList text entries kept → (ms : Members) × IsObjectOf text ms
object_of_lines text entries kept lines =
    let ms = members_of_lines (elements Curly text) entries lines.each in
    (ms.0, record { are = ms.1; parsed = document_of_members text ms.0 ms.1 })

-- a text lists what its lines do
pub list_of_lines : (text : List ℕ) (entries : List Tree) (kept : NotesView) → LinesList text entries kept → Lists text entries
list_of_lines text entries kept lines =
    let whole = object_of_lines text entries kept lines in
    let said = entries_of_lines (elements Curly text) whole.0 entries whole.1.are lines.each in
    record { members = whole.0; parsed = whole.1.parsed; unique = said.0; read = said.1 }

-- what is told of the lines is what is told of the whole
pub told_of_list : (text : List ℕ) (entries : List Tree) (kept : NotesView) → LinesList text entries kept → Tells text kept
told_of_list text entries kept lines =
    let whole = object_of_lines text entries kept lines in
    rw whole.1.parsed (lines.notes ∙ ap kept_of (told_of_lines (elements Curly text) whole.0 whole.1.are))

-- the other way, the lines of a text list what it does, and what is told of them is what is told of it
pub lines_of_list : (text : List ℕ) (entries : List Tree) (kept : NotesView) → Lists text entries → Tells text kept → LinesList text entries kept
lines_of_list text entries kept list tells =
    let are = members-of-object text list.members list.parsed in
    let of_members : kept ≡ kept_of (entries_told list.members) = rw list.parsed at tells in
    record {
      each = lines_of_entries (elements Curly text) list.members entries are list.unique list.read;
      notes = of_members ∙ ap kept_of (sym (told_of_lines (elements Curly text) list.members are));
    }

-- where no key comes twice, a text that lists entries describes the library of them
pub library_of_list : (text : List ℕ) (entries : List Tree) → Lists text entries → AreDistinct entries → Describes text entries
library_of_list text entries list distinct = record {
  value = object list.members;
  parsed = list.parsed;
  unique = (subst (AllPairs (λ a b. a ≢ b)) (keys_of_entries list.members entries list.read) distinct, list.unique);
  read = list.read;
}

-- the other way, a text that describes a library lists its entries
pub list_of_library : (text : List ℕ) (library : List Tree) → Describes text library → Lists text library
list_of_library text library d = by d.value d.parsed d.unique d.read
  where
    by : (j : Json) → document text ≡ Some j → HasUniqueKeys j → library_of j ≡ Ok library → Lists text library
    by (json.object ms) parsed unique read = record { members = ms; parsed = parsed; unique = unique.1; read = read }
    by json.null parsed unique read = cc
    by (json.boolean b) parsed unique read = cc
    by (json.number s) parsed unique read = cc
    by (json.string s) parsed unique read = cc
    by (json.array js) parsed unique read = cc

-- and no key comes twice in it
pub keys_of_library : (text : List ℕ) (library : List Tree) → Describes text library → AreDistinct library
keys_of_library text library d = distinct_keys d.value library d.unique d.read
