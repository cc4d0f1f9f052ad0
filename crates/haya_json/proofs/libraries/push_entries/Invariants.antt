use Rattle.std.proofs.Common.{◌≡◌, []}
use Rattle.std.specs.Vec.Iter.{into_iter_items}
use Rattle.json.specs.Value.{members_view}
use Rattle.haya_json.specs.Libraries.{entries_pushed}
use Rattle.haya_json.specs.Notes.{all_kept, notes_view}
use Rattle.haya_json.specs.Told.{entries_told}
use Rattle.haya_json.proofs.libraries.push_entries.Given as goal

-- the library of all members is what those left make of the library so far, and what is told of all
-- is what is told so far, and then of those left
abbrev pub invariant-entries : goal.invariant-entries
invariant-entries l = record {
  library :
      entries_pushed [] (members_view l.fn.members.items)
      ≡ entries_pushed l.library (members_view (into_iter_items l.name-iterator));
  notes :
      all_kept (entries_told (members_view l.fn.members.items)) (notes_view l.initial.notes)
      ≡ all_kept (entries_told (members_view (into_iter_items l.name-iterator))) (notes_view l.notes);
}
