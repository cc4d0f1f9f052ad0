use Rattle.std.proofs.Common.{◌≡◌, ◌<◌, [], Some, ap, arith, get_or, length, subst, sym, ◌∙◌}
use Rattle.std.specs.Prelude.{slice_get}
use Rattle.std.proofs.lemmas.Slice.Eq.{bytes_eq-Decides}
use Rattle.haya_entry.specs.Tree.{view}
use Rattle.hayagriva.specs.Library.{AreDistinct, key_of}
use Rattle.haya_source.specs.Elements.{entries_of}
use Rattle.haya_source.specs.Places.{part_for}
use Rattle.haya_source.proofs.Found.{at, each_found, now_at, same_length, says_at}
use Rattle.haya_source.proofs.order.next_part.Goals as goal

pub returns-in-Some : goal.returns-in-Some
returns-in-Some c = λ es parts entries.
    let place = c.entries.place in
    let l : place < length es = omega (arith, same_length c.args.parts.now es parts, c.entries-test.true) in
    let a = at es place l in
    let distinct : AreDistinct (entries_of es) = subst AreDistinct entries c.requires.distinct in
    let same : Some (view c.in-Some.entry.now) ≡ Some a.element.1 =
    c.in-Some.ensures ∙ ap (λ t. slice_get t place) entries ∙ a.entry in
    let entry : view c.in-Some.entry.now ≡ a.element.1 = cc (same) in
    let equal : c.key.result.now ≡ c.args.key.now = (bytes_eq-Decides _ _).0 (sym c.eq.ensures ∙ c.if-eq.true) in
    let key : c.args.key.now ≡ key_of a.element.1 = sym equal ∙ c.key.ensures ∙ ap key_of entry in
    let found : part_for (key_of a.element.1) es ≡ Some a.element.0 =
    says_at (λ x. part_for (key_of x.1) es ≡ Some x.0) es place l (each_found es distinct) in
    ap (λ k. part_for k es) key ∙ found
    ∙ ap Some (sym (now_at c.args.parts.now place _ (omega (arith, c.entries-test.true)) ∙ ap (λ t. get_or t place []) parts ∙ a.part))
