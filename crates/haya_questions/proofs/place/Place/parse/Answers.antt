use Rattle.std.proofs.Common.{◌≡◌, None, Some, sym, ap, ◌∙◌}
use Rattle.std.specs.Prelude.{option_map}
use Rattle.haya_questions.specs.Place.{part_named, part_view, place_words}
use Rattle.haya_questions.proofs.PlaceLemmas.{no_place, place_found}
use Rattle.haya_questions.proofs.place.Place.parse.Goals as goal

pub returns-in_default-clause-fault : goal.returns-in_default-clause-fault
returns-in_default-clause-fault c =
    let text = c.args.text.now in
    let none : part_named (place_words text).1 ≡ None =
    ap part_named (sym c.split_name.ensures.word) ∙ sym c.part_named.ensures ∙ ap (option_map part_view) c.in_default.is in
    record { reads = no_place text none; is = c.in_ok-from_str.ensures.ok ∙ c.split_name.ensures.word }

pub returns-clause-ok : goal.returns-clause-ok
returns-clause-ok c =
    let text = c.args.text.now in
    let found : part_named (place_words text).1 ≡ Some (part_view c.in-Some.part) =
    ap part_named (sym c.split_name.ensures.word) ∙ sym c.part_named.ensures ∙ ap (option_map part_view) c.in-Some.is in
    place_found text _ _ (sym (c.in_ok-name.ensures ∙ c.split_name.ensures.name)) found
