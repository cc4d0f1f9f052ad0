use Rattle.std.proofs.Common.{◌≡◌, ◌<◌, ◌≤◌, ◌++◌, [], Some, ap, arith, get_or, length, ◌∙◌}
use Rattle.std.specs.Prelude.{slice_get, string_bytes}
use Rattle.std.proofs.lemmas.List.{take_all}
use Rattle.haya_entry.specs.Tree.{view}
use Rattle.hayagriva.specs.Library.{key_of}
use Rattle.haya_source.specs.Places.{kept_part, part_for}
use Rattle.haya_source.proofs.Found.{at, at_place, now_at, same_length}
use Rattle.haya_source.proofs.places.Places.add_in_order.Goals as goal

pub entries-preserved : goal.entries-preserved
entries-preserved c = λ es before parts entries h k.
    let place = c.entries.place in
    let l : place < length es = omega (arith, same_length c.args.parts.now es parts) in
    let a = at es place l in
    let same : Some (view c.in-Some.entry.now) ≡ Some a.element.1 =
    c.in-Some.ensures ∙ ap (λ t. slice_get t place) entries ∙ a.entry in
    let entry : view c.in-Some.entry.now ≡ a.element.1 = cc (same) in
    let key_is : string_bytes c.in_ok-from_str.field-0 ≡ key_of a.element.1 =
    c.in_ok-from_str.ensures.ok ∙ c.key.ensures ∙ ap key_of entry in
    at_place (kept_part c.entries.self) (kept_part c.put.new.self) before es place l _ _
    (now_at c.args.parts.now place _ (omega arith) ∙ ap (λ t. get_or t place []) parts ∙ a.part)
    key_is (c.entries.invariant es before parts entries h) c.in_ok-put.ensures k

pub returns : goal.returns
returns c = λ es before parts entries h key.
    let all : length es ≤ c.entries.place = omega (arith, same_length c.args.parts.now es parts) in
    c.entries.invariant es before parts entries h key
    ∙ ap (λ t. part_for key (before ++ t)) (take_all c.entries.place es all)
