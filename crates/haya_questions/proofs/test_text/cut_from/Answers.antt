use Rattle.std.proofs.Common.{◌+◌, length, get_or, sym, subst}
use Rattle.std.specs.Str.{IsCharBoundary}
use Rattle.haya_questions.specs.TestText.{AreSigns}
use Rattle.haya_questions.proofs.SignPlaces.{behind_signs}
use Rattle.haya_questions.proofs.test_text.cut_from.Goals as goal

pub range_from-requires : goal.range_from-requires
range_from-requires c =
    let text = c.args.text.now in
    let i = c.args.start in
    let operator = c.in_ok-operator.operator in
    let signs : AreSigns (get_or text i 0) (get_or text (i + 1) 0) operator = rw (c.byte_at.ensures, c.byte_at-2.ensures) at c.in_ok-operator.ensures.signs in
    let cut : IsCharBoundary text (i + length c.as_str.result.now) =
    subst (λ signs. IsCharBoundary text (i + length signs)) (sym c.as_str.ensures) (behind_signs text i operator c.utf8.text c.requires signs) in
    λ _. cut
