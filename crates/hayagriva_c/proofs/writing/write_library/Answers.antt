use Rattle.std.proofs.Common.{◌≡◌, Some, sym, subst, ◌∙◌}
use Rattle.std.specs.Prelude.{option_and_then, option_map}
use Rattle.hayagriva_c.specs.Reading.{numbered}
use Rattle.hayagriva_c.specs.Writing.{PutsIf, WriteGives, text_in}
use Rattle.hayagriva_c.proofs.WrittenTexts.{none_put}
use Rattle.hayagriva_c.proofs.writing.write_library.Goals as goal

pub returns-in-Err : goal.returns-in-Err
returns-in-Err c =
    let w = c.args.written.now in
    let library = c.in-Some.shelf.now.library in
    let format = c.in-Some-of_number.format in
    let is : numbered c.args.format ≡ Some format = sym c.of_number.ensures ∙ c.in-Some-of_number.is in
    subst (λ s. WriteGives (option_map (λ s. s.now.library) s) c.args.format 6 w w) (sym c.in-Some.is)
    (subst (λ f. PutsIf (option_and_then (text_in library) f) 6 w w) (sym is) (none_put (text_in library format) w c.in-Err.ensures.memory))
