use Rattle.std.proofs.Common.{◌<◌, ◌≤◌, ◌++◌, [], ap, arith, get_or, length, subst, sym, ◌∙◌}
use Rattle.std.proofs.lemmas.List.{take_all}
use Rattle.haya_source.specs.Elements.{Says}
use Rattle.haya_source.specs.Places.{kept_part, part_for}
use Rattle.haya_source.proofs.Found.{at, at_place, now_at, same_length, says_at}
use Rattle.haya_source.proofs.places.Places.add_read_again.Goals as goal

pub parts-preserved : goal.parts-preserved
parts-preserved c = λ es before parts say h k.
    let place = c.parts.place in
    let l : place < length es = omega (arith, same_length c.args.parts.now es parts) in
    let a = at es place l in
    let said = says_at (λ e. Says c.args.kind e.0 e.1) es place l say in
    at_place (kept_part c.parts.self) (kept_part c.put.new.self) before es place l _ _
    (now_at c.args.parts.now place _ (omega arith) ∙ ap (λ t. get_or t place []) parts ∙ a.part)
    (c.in_ok-key.ensures a.element.1
    (subst (λ p. Says c.args.kind p a.element.1)
    (sym (now_at c.args.parts.now place _ (omega arith) ∙ ap (λ t. get_or t place []) parts
    ∙ a.part)) said))
    (c.parts.invariant es before parts say h) c.in_ok-put.ensures k

pub returns : goal.returns
returns c = λ es before parts say h key.
    let all : length es ≤ c.parts.place = omega (arith, same_length c.args.parts.now es parts) in
    c.parts.invariant es before parts say h key
    ∙ ap (λ t. part_for key (before ++ t)) (take_all c.parts.place es all)
