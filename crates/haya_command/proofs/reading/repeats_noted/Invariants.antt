use Rattle.std.proofs.Common.{◌≡◌, map}
use Rattle.std.specs.Vec.Iter.{into_iter_items}
use Rattle.haya_line_library.specs.Repeats.{repeat_view, repeats_view}
use Rattle.haya_json.specs.Notes.{all_kept, kept_of, notes_view}
use Rattle.haya_command.specs.Reading.{again_note}
use Rattle.haya_command.proofs.reading.repeats_noted.Given as goal

-- what is kept so far, after the notes on the repeats left, is what is kept of all
abbrev pub invariant-repeats : goal.invariant-repeats
invariant-repeats l =
    all_kept (map again_note (map repeat_view (into_iter_items l.repeat-iterator))) (notes_view l.notes)
    ≡ kept_of (map again_note (repeats_view l.fn.repeats))
