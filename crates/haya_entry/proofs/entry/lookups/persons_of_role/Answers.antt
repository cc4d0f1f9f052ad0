use Rattle.std.proofs.Common.{◌≡◌, ◌++◌, map, Ok, sym, ap, ◌∙◌}
use Rattle.std.specs.Prelude.{OnOk}
use Rattle.std.proofs.lemmas.Iterator.{YieldsList-from_slice}
use Rattle.std.proofs.lemmas.Iterator.Adapters.{fact_from_extend}
use Rattle.haya_people.specs.Person.{person_view}
use Rattle.haya_entry.proofs.RoleLemmas.{persons_of_role-passed, persons_of_role-taken, persons-added}
use Rattle.haya_entry.proofs.entry.lookups.persons_of_role.Goals as goal

pub lists-preserved : goal.lists-preserved
lists-preserved c =
    let added : OnOk c.extend.result (map (λ p. person_view p.now) c.extend.new.self.items ≡ map (λ p. person_view p.now) c.lists.persons.items ++ map person_view c.list-item.result.names.items) =
    fact_from_extend (λ y. y.now) c.extend.result c.extend.ensures.ran (λ it b. YieldsList-from_slice c.deref.result.now cc)
    (λ xs e h. persons-added c.lists.persons.items c.extend.new.self.items xs c.list-item.result.names.items (e ∙ c.deref.ensures.value) h.0) in
    let was : c.extend.result ≡ Ok c.in_ok-extend.field-0 = c.in_ok-extend.was in
    let taken = persons_of_role-taken c.args.role.now c.args.lists.now c.lists.list-index c.list-item.result c.lists-test.true c.list-item.is (sym c.ne.ensures ∙ c.if-ne.false) in
    (rw was at added) ∙ ap (λ ps. ps ++ map person_view c.list-item.result.names.items) c.lists.invariant ∙ sym taken

pub lists-preserved-then-ne : goal.lists-preserved-then-ne
lists-preserved-then-ne c =
    c.lists.invariant ∙ sym (persons_of_role-passed c.args.role.now c.args.lists.now c.lists.list-index c.list-item.result c.lists-test.true c.list-item.is (sym c.ne.ensures ∙ c.if-ne.true))
