use Rattle.std.proofs.Common.{◌≡◌, ◌+◌, ◌++◌, [], ◌∷◌, Some, take, ap, sym, subst, ◌∙◌, refl}
use Rattle.std.specs.Prelude.{string_bytes}
use Rattle.std.proofs.lemmas.List.{map-append, take_all, take_more}
use Rattle.haya_command.specs.Reading.{AreCollected, format_in, texts}
use Rattle.haya_command.specs.Source.{AreElementsIn}
use Rattle.haya_command.specs.SourceForm.{kind_in}
use Rattle.haya_command.specs.Told.{told_views}
use Rattle.haya_command.proofs.CollectedTexts.{collected_more}
use Rattle.haya_command.proofs.Sourced.{all-map-at, elements-more, no-elements}
use Rattle.haya_command.proofs.sources.read_several.Goals as goal

pub inputs-init : goal.inputs-init
inputs-init c =
    rw (c.with_hash_keys-library.ensures, c.new-told.ensures.items)
    (record {
      collected = record { reads = record { parts = []; each = tt; pushed = refl }; each = tt };
      elements = λ form kinds. ([], no-elements c.args.kind, c.new-places.ensures);
    })

pub inputs-preserved : goal.inputs-preserved
inputs-preserved c =
    let options = c.args.options.now in
    let inputs = c.args.inputs.now in
    let at = c.inputs.input-index in
    let taken : take (at + 1) inputs ≡ take at inputs ++ c.input-item.result ∷ [] =
    take_more inputs at c.input-item.result c.inputs-test.true ∙ ap (λ x. take at inputs ++ x ∷ []) (sym c.input-item.is) in
    let next : texts (take (at + 1) inputs) ≡ texts (take at inputs) ++ string_bytes c.input-item.result.text ∷ [] =
    ap texts taken ∙ map-append (λ i. string_bytes i.text) (take at inputs) (c.input-item.result ∷ []) in
    record {
      collected = rw next
          (collected_more options (texts (take at inputs)) c.inputs.library (told_views c.inputs.told.items) c.inputs.invariant.collected (string_bytes c.input-item.result.text) _ _ c.in-Ok.ensures.adds);
      elements = λ form kinds.
          let before = c.inputs.invariant.elements form kinds in
          let kind = subst (λ i. kind_in form (format_in options (string_bytes i.text)) ≡ Some c.args.kind) (sym c.input-item.is)
          (all-map-at (λ text. kind_in form (format_in options text) ≡ Some c.args.kind) (λ i. string_bytes i.text) inputs at c.input-item.result c.inputs-test.true kinds) in
          let more = c.in-Ok.ensures.elements form before.0 kind before.2 in (
            before.0 ++ more.0,
            subst (λ ts. AreElementsIn c.args.kind ts (before.0 ++ more.0)) (sym next)
                (elements-more c.args.kind (texts (take at inputs)) before.0 (string_bytes c.input-item.result.text) more.0 before.1 more.1),
            more.2,
          );
    }

pub returns-clause-read : goal.returns-clause-read
returns-clause-read c =
    subst (λ l. AreCollected c.args.options.now (texts l) c.inputs.library (told_views c.inputs.told.items))
    (take_all c.inputs.input-index c.args.inputs.now c.inputs-test.false) c.inputs.invariant.collected

pub returns-clause-elements : goal.returns-clause-elements
returns-clause-elements c = λ form kinds.
    let e = c.inputs.invariant.elements form kinds in (
      e.0,
      subst (λ l. AreElementsIn c.args.kind (texts l) e.0)
          (take_all c.inputs.input-index c.args.inputs.now c.inputs-test.false) e.1,
      e.2,
    )
