use Rattle.std.proofs.Common.{◌≡◌, [], ap, refl, ◌∙◌}
use Rattle.std.specs.Prelude.{codes}
use Rattle.haya_bibtex_inherited.specs.Views.{fields_view}
use Rattle.haya_bibtex_entries.specs.People.{Editors, with_editors}
use Rattle.haya_bibtex_entries.specs.PeopleViews.{editors_view}
use Rattle.haya_bibtex_entries.proofs.people.all_editors.Goals as goal

-- those of each field, behind those of the fields before it
pub returns : goal.returns
returns c =
    let fs = fields_view c.args.fields.now in
    let none : Editors = record { persons = []; passed_over = [] } in
    let first : editors_view (record { persons = c.new.result; passed_over = c.new-2.result }) ≡ none =
    rw (c.new.ensures.items, c.new-2.ensures.items) refl in
    c.in_ok-add-4.ensures
    ∙ ap (with_editors fs (codes "editorc") (codes "editorctype"))
    (c.in_ok-add-3.ensures
    ∙ ap (with_editors fs (codes "editorb") (codes "editorbtype"))
    (c.in_ok-add-2.ensures
    ∙ ap (with_editors fs (codes "editora") (codes "editoratype"))
    (c.in_ok-add.ensures ∙ ap (with_editors fs (codes "editor") (codes "editortype")) first)))
