use Rattle.std.proofs.Common.{Some, ap, sym, ◌∙◌}
use Rattle.haya_json_elements.specs.declared.place.Brackets.TheVariants.{Curly, Square}
use Rattle.haya_slices.specs.Layout.{list_text}
use Rattle.haya_source.proofs.laws.all_elements_say_the_value.Goals as goal

pub returns-clause-items : goal.returns-clause-items
returns-clause-items c by text parts j laid parsed =
    let a = c.brackets_tell.ensures.array text parts j laid parsed in
    let are = c.slices_are_elements.ensures.items text parts a.0 laid (parsed ∙ ap (λ v. Some v) a.1) in
    c.slices_make_documents.ensures.items (list_text Square parts) parts a.0
    (c.lists_are_laid_out.ensures Square parts laid.elements) are
    ∙ sym (ap (λ v. Some v) a.1)

pub returns-clause-members : goal.returns-clause-members
returns-clause-members c text parts j laid parsed =
    let a = c.brackets_tell.ensures.object text parts j laid parsed in
    let are = c.slices_are_elements.ensures.members text parts a.0 laid (parsed ∙ ap (λ v. Some v) a.1) in
    c.slices_make_documents.ensures.members (list_text Curly parts) parts a.0
    (c.lists_are_laid_out.ensures Curly parts laid.elements) are
    ∙ sym (ap (λ v. Some v) a.1)
