use Rattle.std.proofs.Common.{◌≡◌, ◌≤◌, ◌+◌, ◌++◌, [], ◌∷◌, List, Result, Ok, Err, Some, take, ap, arith, length, sym, subst, ◌∙◌}
use Rattle.std.specs.Prelude.{IfOk, string_bytes}
use Rattle.std.proofs.lemmas.List.{take_all, take_more}
use Rattle.haya_source.specs.Elements.{AreElementsOf, Element}
use Rattle.haya_command.specs.KeptElements.{AreKept}
use Rattle.haya_command.specs.Reading.{format_in, texts}
use Rattle.haya_command.specs.Source.{AreElementsIn}
use Rattle.haya_command.specs.SourceForm.{kind_in}
use Rattle.haya_command.specs.declared.options.Input.{Input}
use Rattle.haya_command.proofs.Sourced.{all-map-at, elements-more, no-elements}
use Rattle.haya_command.proofs.sources.read_sources.Goals as goal

if_ok-map : {T E : Type 0} (P Q : T → Type 0) (r : Result T E) → ((x : T) → P x → Q x) → IfOk r P → IfOk r Q
if_ok-map P Q (Ok x) f h = f x h
if_ok-map P Q (Err e) f h = tt

pub returns-in-len1-clause-elements : goal.returns-in-len1-clause-elements
returns-in-len1-clause-elements c = λ form kinds.
    let inputs = c.args.inputs.now in
    let options = c.args.options.now in
    let kind = c.args.kind in
    let input = c.input-item.result in
    let here : kind_in form (format_in options (string_bytes input.text)) ≡ Some kind =
    subst (λ i. kind_in form (format_in options (string_bytes i.text)) ≡ Some kind) (sym c.input-item.is)
    (all-map-at (λ text. kind_in form (format_in options text) ≡ Some kind) (λ i. string_bytes i.text) inputs 0 input c.in-len1.len_at_least kinds) in
    let all : input ∷ [] ≡ inputs =
    ap (λ i. i ∷ []) c.input-item.is ∙ sym (take_more inputs 0 input c.in-len1.len_at_least)
    ∙ take_all 1 inputs (omega (arith, c.in-len1.len_below)) in
    if_ok-map
    (λ read. (es : List Element) × AreElementsOf kind (string_bytes input.text) es × AreKept kind es read.library read.elements)
    (λ read. (es : List Element) × AreElementsIn kind (texts inputs) es × AreKept kind es read.library read.elements)
    c.read_source.result
    (λ read found. (
      found.0,
      subst (λ l. AreElementsIn kind (texts l) found.0) all
          (elements-more kind [] [] (string_bytes input.text) found.0 (no-elements kind) found.1),
      found.2,
    ))
    (c.read_source.ensures.elements form here)
