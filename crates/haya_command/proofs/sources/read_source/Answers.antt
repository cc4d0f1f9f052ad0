use Rattle.std.proofs.Common.{◌≡◌, [], ap, refl, ◌∙◌}
use Rattle.std.specs.Prelude.{string_bytes}
use Rattle.hayagriva.specs.Library.{from_entries}
use Rattle.haya_source.specs.Elements as source
use Rattle.haya_command.specs.Reading.{AreCollected, all_pushed, format_in}
use Rattle.haya_command.specs.Told.{told_views}
use Rattle.haya_command.proofs.CollectedTexts.{collected_more}
use Rattle.haya_command.proofs.Sourced.{described}
use Rattle.haya_command.proofs.sources.read_source.Goals as goal

pub returns-clause-read : goal.returns-clause-read
returns-clause-read c =
    let options = c.args.options.now in
    let none : AreCollected options [] c.with_hash_keys-library.result (told_views c.new-told.result.items) =
    rw (c.with_hash_keys-library.ensures, c.new-told.ensures.items)
    (record { reads = record { parts = []; each = tt; pushed = refl }; each = tt }) in
    collected_more options [] c.with_hash_keys-library.result (told_views c.new-told.result.items) none (string_bytes c.args.input.now.text) _ _
    (c.in_ok-add_part.ensures.adds c.in_ok-part.ensures.library c.in_ok-part.ensures.notes)

pub returns-clause-elements : goal.returns-clause-elements
returns-clause-elements c = λ form kind.
    let text = string_bytes c.args.input.now.text in
    let part = c.in_ok-part.part in
    let describes : source.Describes c.args.kind text part =
    described form (format_in c.args.options.now text) c.args.kind text part kind c.in_ok-part.ensures.library.describes in
    let found = c.in-Ok.ensures describes in
    let pushed : c.add_part.new.library ≡ from_entries part =
    c.in_ok-add_part.ensures.pushed ∙ ap (λ l. all_pushed l part) c.with_hash_keys-library.ensures in
    let whole : from_entries part ≡ part = c.distinct_entries_stand.ensures.library part c.iter.ensures.distinct in
    (found.0, found.1, (found.2, found.1.each, pushed ∙ whole ∙ found.3))
