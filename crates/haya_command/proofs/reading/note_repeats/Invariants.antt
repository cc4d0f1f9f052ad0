use Rattle.std.proofs.Common.{◌≡◌, ◌++◌, [], IsTrue, List}
use Rattle.hayagriva.specs.Tree.{Tree}
use Rattle.haya_json.specs.Notes.{all_kept, notes_view}
use Rattle.haya_command.specs.Reading.{keys_again}
use Rattle.haya_command.proofs.reading.note_repeats.Given as goal

-- those left end the list of all, and in a strict run none before them comes again; what is told of all is what is told so far, and then of those left; in a strict run nothing is
abbrev pub invariant-entries : goal.invariant-entries
invariant-entries l = record {
  ends : (first : List Tree) × (l.fn.more ≡ first ++ l.entry-iterator) × (IsTrue l.options.strict → keys_again l.library first ≡ []);
  told :
      all_kept (keys_again l.library l.fn.more) (notes_view l.initial.told)
      ≡ all_kept (keys_again l.library l.entry-iterator) (notes_view l.told);
  strict : IsTrue l.options.strict → notes_view l.told ≡ notes_view l.initial.told;
}
