use Rattle.std.proofs.Common.{◌≡◌, [], ap, refl, ◌∙◌}
use Rattle.std.specs.Prelude.{codes}
use Rattle.haya_bibtex_inherited.specs.Views.{fields_view}
use Rattle.haya_bibtex_entries.specs.People.{Affiliated, with_typed}
use Rattle.haya_bibtex_entries.specs.PeopleViews.{affiliated_view}
use Rattle.haya_bibtex_entries.proofs.people.typed_editors.Goals as goal

-- those of each field, behind those of the fields before it
pub returns : goal.returns
returns c =
    let fs = fields_view c.args.fields.now in
    let none : Affiliated = record { lists = []; passed_over = [] } in
    let first : affiliated_view (record { lists = c.new.result; passed_over = c.new-2.result }) ≡ none =
    rw (c.new.ensures.items, c.new-2.ensures.items) refl in
    c.in_ok-add_typed-4.ensures
    ∙ ap (with_typed fs (codes "editorc") (codes "editorctype"))
    (c.in_ok-add_typed-3.ensures
    ∙ ap (with_typed fs (codes "editorb") (codes "editorbtype"))
    (c.in_ok-add_typed-2.ensures
    ∙ ap (with_typed fs (codes "editora") (codes "editoratype"))
    (c.in_ok-add_typed.ensures ∙ ap (with_typed fs (codes "editor") (codes "editortype")) first)))
