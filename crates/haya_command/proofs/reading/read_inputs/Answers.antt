use Rattle.std.proofs.Common.{◌≡◌, ◌+◌, ◌++◌, [], ◌∷◌, drop, take, ap, sym, subst, ◌∙◌, inl, inr, refl}
use Rattle.std.specs.Prelude.{string_bytes}
use Rattle.std.proofs.lemmas.List.{drop_more, map-append, take-append-drop, take_all, take_more}
use Rattle.haya_command.specs.Reading.{AreCollected, input_names, texts}
use Rattle.haya_command.specs.Told.{told_views}
use Rattle.haya_command.proofs.CollectedTexts.{collected_more}
use Rattle.haya_command.proofs.reading.read_inputs.Goals as goal

pub inputs-init : goal.inputs-init
inputs-init c =
    rw (c.with_hash_keys-library.ensures, c.new-told.ensures.items)
    (record { collected = record { reads = record { parts = []; each = tt; pushed = refl }; each = tt }; names = refl })

pub inputs-preserved : goal.inputs-preserved
inputs-preserved c =
    let inputs = c.args.inputs.now in
    let at = c.inputs.input-index in
    let taken : take (at + 1) inputs ≡ take at inputs ++ c.input-item.result ∷ [] =
    take_more inputs at c.input-item.result c.inputs-test.true ∙ ap (λ x. take at inputs ++ x ∷ []) (sym c.input-item.is) in
    let next : texts (take (at + 1) inputs) ≡ texts (take at inputs) ++ string_bytes c.input-item.result.text ∷ [] =
    ap texts taken ∙ map-append (λ i. string_bytes i.text) (take at inputs) (c.input-item.result ∷ []) in
    let called : input_names (take (at + 1) inputs) ≡ input_names (take at inputs) ++ string_bytes c.input-item.result.name ∷ [] =
    ap input_names taken ∙ map-append (λ i. string_bytes i.name) (take at inputs) (c.input-item.result ∷ []) in
    record {
      collected = rw next
          (collected_more c.args.options.now (texts (take at inputs)) c.inputs.library (told_views c.inputs.told.items) c.inputs.invariant.collected (string_bytes c.input-item.result.text) _ _ c.in-Ok.ensures.adds);
      names = c.in-Ok.ensures.names ∙ ap (λ l. l ++ string_bytes c.input-item.result.name ∷ []) c.inputs.invariant.names ∙ sym called;
    }

pub returns-in-Err-clause-fault : goal.returns-in-Err-clause-fault
returns-in-Err-clause-fault c =
    let inputs = c.args.inputs.now in
    let at = c.inputs.input-index in
    elim c.in-Err.ensures.fault [
      | inl memory ↦ inl memory
      | inr told ↦
          inr (record {
            before = take at inputs;
            input = c.input-item.result;
            after = drop (at + 1) inputs;
            library = c.inputs.library;
            parts = sym (take-append-drop at inputs) ∙ ap (λ l. take at inputs ++ l) (drop_more inputs at c.input-item.result c.inputs-test.true ∙ ap (λ x. x ∷ drop (at + 1) inputs) (sym c.input-item.is));
            told = told_views c.inputs.told.items;
            collected = c.inputs.invariant.collected;
            fault = told;
          })
    ]

pub returns-clause-read : goal.returns-clause-read
returns-clause-read c =
    let inputs = c.args.inputs.now in
    subst (λ l. AreCollected c.args.options.now (texts l) c.inputs.library (told_views c.inputs.told.items)) (take_all c.inputs.input-index inputs c.inputs-test.false) c.inputs.invariant.collected

pub returns-clause-names : goal.returns-clause-names
returns-clause-names c =
    c.inputs.invariant.names ∙ ap input_names (take_all c.inputs.input-index c.args.inputs.now c.inputs-test.false)
