use Rattle.std.proofs.Common.{◌≡◌, ◌++◌, [], ◌∷◌, ap, append_assoc, sym, ◌∙◌}
use Rattle.std.proofs.lemmas.Grind.{flat_map-append}
use Rattle.hayagriva.specs.Library.{key_of}
use Rattle.hayagriva.specs.Tree.{view}
use Rattle.haya_json.specs.Notes.{all_kept, notes_view}
use Rattle.haya_json.specs.Told.{told_again}
use Rattle.haya_command.specs.Reading.{keys_again}
use Rattle.haya_command.proofs.CollectedTexts.{again_in_turn, none_again}
use Rattle.haya_command.proofs.reading.note_repeats.Goals as goal

pub returns-then-is_empty-clause-told : goal.returns-then-is_empty-clause-told
returns-then-is_empty-clause-told c = rw (c.is_empty.ensures.0 c.if-is_empty.true) (none_again c.args.more.now (notes_view c.args.told.now))

pub entries-preserved : goal.entries-preserved
entries-preserved c =
    let library = c.args.library.now in
    let t = view c.in-Some.entry.now in
    let ends = c.entries.invariant.ends in
    let kept = notes_view c.entries.told in
    let left : c.entries.entry-iterator ≡ t ∷ c.next.new.self = c.in-Some.ensures.steps in
    let told : notes_view c.note_repeat.new.told ≡ all_kept (told_again library (key_of t)) kept =
    c.in_ok-note_repeat.ensures.told ∙ ap (λ key. all_kept (told_again library key) kept) c.key.ensures in
    record {
      ends = (
        ends.0 ++ t ∷ [],
        ends.1 ∙ ap (λ ts. ends.0 ++ ts) left ∙ sym (append_assoc ends.0 (t ∷ []) c.next.new.self),
        λ s. flat_map-append (λ x. told_again library (key_of x)) ends.0 (t ∷ []) ∙ ap (λ l. l ++ keys_again library (t ∷ [])) (ends.2 s)
            ∙ ap (λ l. l ++ []) (sym (ap (told_again library) c.key.ensures) ∙ c.in_ok-note_repeat.ensures.none s),
      );
      told =
          c.entries.invariant.told ∙ ap (λ ts. all_kept (keys_again library ts) kept) left
          ∙ again_in_turn library t c.next.new.self kept ∙ ap (all_kept (keys_again library c.next.new.self)) (sym told);
      strict = λ s. c.in_ok-note_repeat.ensures.strict s ∙ c.entries.invariant.strict s;
    }
