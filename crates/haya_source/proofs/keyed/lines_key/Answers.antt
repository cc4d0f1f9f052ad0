use Rattle.std.proofs.Common.{◌≡◌, ◌∷◌, [], Some, ap, refl, ◌∙◌}
use Rattle.std.specs.Prelude.{slice_get}
use Rattle.haya_entry.specs.Tree.{view}
use Rattle.hayagriva.specs.Library.{key_of}
use Rattle.haya_line_library.specs.Input.{Describes}
use Rattle.haya_source.proofs.keyed.lines_key.Goals as goal

pub returns-in-Some : goal.returns-in-Some
returns-in-Some c = λ entry reads.
    let describes : Describes c.args.part.now (entry ∷ []) =
    record { entries = entry ∷ []; rows = reads; of_entries = refl } in
    let same = c.one_library.ensures c.args.part.now c.in-Ok.library (entry ∷ []) c.in-Ok.ensures.ok describes in
    let first : Some (view c.in-Some.entry.now) ≡ Some entry =
    c.in-Some.ensures ∙ ap (λ t. slice_get t 0) same in
    let entry_is : view c.in-Some.entry.now ≡ entry = cc (first) in
    c.in_ok-from_str-in-Some.ensures.ok ∙ c.key.ensures ∙ ap key_of entry_is
