use Rattle.std.proofs.Common.{◌≡◌, filter, map, sym, ◌∙◌, subst}
use Rattle.haya_questions.specs.Test.{test_view}
use Rattle.haya_asked.specs.Asked.{passes}
use Rattle.haya_asked.proofs.AskedLemmas.{filter-always, nothing_in}
use Rattle.haya_asked.proofs.questions.passing_hits.Goals as goal

pub returns-then-is_empty : goal.returns-then-is_empty
returns-then-is_empty c =
    subst (λ tests. c.args.hits.items ≡ filter (passes (map test_view tests)) c.args.hits.items)
    (sym (nothing_in c.args.tests.now (sym c.is_empty.ensures ∙ c.if-is_empty.true))) (sym (filter-always c.args.hits.items))
