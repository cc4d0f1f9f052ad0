use Rattle.std.proofs.Common.{◌≡◌, [], ap, map, subst, sym, ◌∙◌, List}
use Rattle.haya_bibtex_inherited.specs.Entries.{EntryBytes}
use Rattle.haya_bibtex_inherited.specs.Inherited.{IsLibrary, entries_with}
use Rattle.haya_bibtex_inherited.specs.References.{ReferenceBytes}
use Rattle.haya_bibtex_inherited.specs.Views.{entry_bytes, reference_view}
use Rattle.haya_bibtex_inherited.proofs.Alone.{ReferToNone, only_own, own, own_library}
use Rattle.haya_bibtex_inherited.proofs.library.library_entries.Goals as goal

pub returns-clause-is : goal.returns-clause-is
returns-clause-is c =
    let es = map entry_bytes c.args.entries.now in
    let alone : ReferToNone es = c.may_any_refer.ensures c.if-may_any_refer.false in
    let none : map reference_view c.new.result.items ≡ [] = ap (map reference_view) c.new.ensures.items in
    subst (λ (l : List EntryBytes). IsLibrary es l (map reference_view c.new.result.items)) (sym c.in_ok-entries.ensures)
    (subst (λ (p : List ReferenceBytes). IsLibrary es (entries_with es (own es)) p) (sym none) (own_library es alone))

pub returns-clause-only : goal.returns-clause-only
returns-clause-only c = λ library passed is.
    let es = map entry_bytes c.args.entries.now in
    let alone : ReferToNone es = c.may_any_refer.ensures c.if-may_any_refer.false in
    let none : map reference_view c.new.result.items ≡ [] = ap (map reference_view) c.new.ensures.items in
    let only = only_own es library passed alone is in
    (only.0 ∙ sym c.in_ok-entries.ensures, only.1 ∙ sym none)
