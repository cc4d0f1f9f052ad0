use Rattle.std.proofs.Common.{◌≡◌, ◌++◌, [], ◌∷◌, ap, ◌∙◌}
use Rattle.std.specs.Prelude.{string_bytes}
use Rattle.std.proofs.lemmas.List.{map-append}
use Rattle.haya_json.specs.Notes.{notes_view}
use Rattle.haya_command.specs.Told.{told_names, told_views}
use Rattle.haya_command.proofs.CollectedTexts.{part_told}
use Rattle.haya_command.proofs.reading.add_part.Goals as goal

pub returns-clause-adds : goal.returns-clause-adds
returns-clause-adds c = λ reads tells.
    let text = string_bytes c.args.input.now.text in
    let before = c.args.told.now.items in
    let told = notes_view c.note_repeats.new.told in
    let pushed : c.push.new.self.items ≡ before ++ c.in_ok-new.field-0 ∷ [] = c.in_ok-push.ensures.items in
    record {
      part = c.args.part;
      kept = told;
      reads = reads;
      pushed = c.in_ok-push_all.ensures;
      tells =
          part_told c.args.options.now c.args.library.now text c.args.part (notes_view c.args.notes) told tells
          c.in_ok-note_repeats.ensures.told c.in_ok-note_repeats.ensures.strict;
      all =
          ap told_views pushed ∙ map-append (λ t. notes_view t.notes) before (c.in_ok-new.field-0 ∷ [])
          ∙ ap (λ kept. told_views before ++ kept ∷ []) c.in_ok-new.ensures.notes;
    }

pub returns-clause-names : goal.returns-clause-names
returns-clause-names c =
    let before = c.args.told.now.items in
    let pushed : c.push.new.self.items ≡ before ++ c.in_ok-new.field-0 ∷ [] = c.in_ok-push.ensures.items in
    ap told_names pushed ∙ map-append (λ t. string_bytes t.name) before (c.in_ok-new.field-0 ∷ [])
    ∙ ap (λ name. told_names before ++ name ∷ []) (c.in_ok-new.ensures.name ∙ c.as_str-2.ensures.value)
