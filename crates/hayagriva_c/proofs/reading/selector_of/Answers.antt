use Rattle.std.proofs.Common.{subst, sym, ◌∙◌}
use Rattle.hayagriva_c.specs.Reading.{AsksAs, IsFront, WhyNoFront, WhyNoSelector, no_front}
use Rattle.hayagriva_c.proofs.Outcomes.{if_err, if_ok}
use Rattle.hayagriva_c.proofs.reading.selector_of.Goals as goal

pub returns-clause-selector : goal.returns-clause-selector
returns-clause-selector c =
    let text = c.in-Ok.ensures.cases in
    if_ok (λ read. IsFront c.in-Ok.text.now read.0 read.1) (λ read. AsksAs c.args.bytes.now read.0 read.1) c.front_of.result
    (λ read front. record { utf8 = text.1; nests = sym c.nests_too_deep.ensures ∙ c.if-nests_too_deep.false; front = subst (λ b. IsFront b read.0 read.1) text.0 front })
    c.front_of.ensures.selector

pub returns-clause-told : goal.returns-clause-told
returns-clause-told c =
    let text = c.in-Ok.ensures.cases in
    if_err (WhyNoFront c.in-Ok.text.now) (WhyNoSelector c.args.bytes.now) c.front_of.result (λ told why. no_front text.1 (subst (λ b. WhyNoFront b told) text.0 why)) c.front_of.ensures.told
