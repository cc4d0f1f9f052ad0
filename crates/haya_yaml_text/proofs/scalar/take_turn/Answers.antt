use Rattle.std.proofs.Common.{◌≡◌, [], drop, Some, true, false, refl, sym, ap, ◌∙◌, append-nil, get_or, length, ◌<◌, arith, rules}
use Rattle.std.specs.Prelude.{string_bytes}
use Rattle.std.proofs.lemmas.Str.{IsCharBoundary-after_ascii}
use Rattle.haya_yaml_text.specs.Signs.{begins_with, skip}
use Rattle.haya_yaml_text.specs.Scalars.{at_end, behind, may_end, scalar}
use Rattle.haya_yaml_text.specs.Turns.{stops}
use Rattle.haya_yaml_text.proofs.Steps.{at_feed, at_stop, begins_is, begins_some, skip_solid, whites}
use Rattle.haya_yaml_text.proofs.scalar.take_turn.Goals as goal

pub put_sign-requires-clause-solid : goal.put_sign-requires-clause-solid
put_sign-requires-clause-solid c =
    let rest = c.split_blanks.ensures.rest in
    let on : stops c.args.lines c.split_blanks.result.1.now ≡ false = ap (stops c.args.lines) (sym c.as_bytes.ensures.value) ∙ sym c.stops.ensures ∙ c.if-stops.false in
    let feed : begins_with 10 c.split_blanks.result.1.now ≡ false = ap (begins_with 10) (sym c.as_bytes-2.ensures.value) ∙ sym c.begins_with.ensures ∙ c.if-begins_with.false in
    rw rest (skip_solid c.args.lines c.args.text.now (rw rest at feed) (rw rest at on))

pub returns-clause-ok : goal.returns-clause-ok
returns-clause-ok c =
    let text = c.args.text.now in
    let white = c.split_blanks.result.0.now in
    let more = c.split_blanks.result.1.now in
    let whole : scalar c.args.lines c.args.style 0 c.args.fold [] text ≡ scalar c.args.lines c.args.style 0 c.args.fold white more =
    whites c.args.lines c.args.style c.args.fold [] text
    ∙ ap (λ w. scalar c.args.lines c.args.style 0 c.args.fold w (skip true text)) (sym c.split_blanks.ensures.front)
    ∙ ap (scalar c.args.lines c.args.style 0 c.args.fold white) (sym c.split_blanks.ensures.rest) in
    rw whole c.put_sign.ensures.ok

pub returns-clause-refused : goal.returns-clause-refused
returns-clause-refused c f e =
    let text = c.args.text.now in
    let white = c.split_blanks.result.0.now in
    let more = c.split_blanks.result.1.now in
    let whole : scalar c.args.lines c.args.style 0 c.args.fold [] text ≡ scalar c.args.lines c.args.style 0 c.args.fold white more =
    whites c.args.lines c.args.style c.args.fold [] text
    ∙ ap (λ w. scalar c.args.lines c.args.style 0 c.args.fold w (skip true text)) (sym c.split_blanks.ensures.front)
    ∙ ap (scalar c.args.lines c.args.style 0 c.args.fold white) (sym c.split_blanks.ensures.rest) in
    whole ∙ c.put_sign.ensures.refused f e

pub returns-then-not-may_end-clause-refused : goal.returns-then-not-may_end-clause-refused
returns-then-not-may_end-clause-refused c f e =
    let text = c.args.text.now in
    let white = c.split_blanks.result.0.now in
    let more = c.split_blanks.result.1.now in
    let whole : scalar c.args.lines c.args.style 0 c.args.fold [] text ≡ scalar c.args.lines c.args.style 0 c.args.fold white more =
    whites c.args.lines c.args.style c.args.fold [] text
    ∙ ap (λ w. scalar c.args.lines c.args.style 0 c.args.fold w (skip true text)) (sym c.split_blanks.ensures.front)
    ∙ ap (scalar c.args.lines c.args.style 0 c.args.fold white) (sym c.split_blanks.ensures.rest) in
    let on : stops c.args.lines c.split_blanks.result.1.now ≡ true = ap (stops c.args.lines) (sym c.as_bytes.ensures.value) ∙ sym c.stops.ensures ∙ c.if-stops.true in
    let no : may_end c.args.style ≡ false = grind arith in
    whole ∙ at_stop c.args.lines c.args.style c.args.fold white more on ∙ rw no refl

pub returns-then-stops-clause-ok : goal.returns-then-stops-clause-ok
returns-then-stops-clause-ok c =
    let text = c.args.text.now in
    let white = c.split_blanks.result.0.now in
    let more = c.split_blanks.result.1.now in
    let whole : scalar c.args.lines c.args.style 0 c.args.fold [] text ≡ scalar c.args.lines c.args.style 0 c.args.fold white more =
    whites c.args.lines c.args.style c.args.fold [] text
    ∙ ap (λ w. scalar c.args.lines c.args.style 0 c.args.fold w (skip true text)) (sym c.split_blanks.ensures.front)
    ∙ ap (scalar c.args.lines c.args.style 0 c.args.fold white) (sym c.split_blanks.ensures.rest) in
    let on : stops c.args.lines c.split_blanks.result.1.now ≡ true = ap (stops c.args.lines) (sym c.as_bytes.ensures.value) ∙ sym c.stops.ensures ∙ c.if-stops.true in
    let yes : may_end c.args.style ≡ true = grind arith in
    let is : at_end c.args.style more ≡ Some ([], more) = rw yes refl in
    ap (behind (string_bytes c.args.out.now)) (whole ∙ at_stop c.args.lines c.args.style c.args.fold white more on ∙ is)
    ∙ ap (λ t. Some (t, more)) (append-nil (string_bytes c.args.out.now))

pub behind-requires : goal.behind-requires
behind-requires c =
    let feed : begins_with 10 c.split_blanks.result.1.now ≡ true = ap (begins_with 10) (sym c.as_bytes-2.ensures.value) ∙ sym c.begins_with.ensures ∙ c.if-begins_with.true in
    let more = c.split_blanks.result.1.now in
    let some : 0 < length more = begins_some 10 more feed in
    let first : get_or more 0 0 ≡ 10 = begins_is 10 more feed in
    IsCharBoundary-after_ascii more 0 (search rules) some (omega (arith, first))

pub returns-then-begins_with-clause-ok : goal.returns-then-begins_with-clause-ok
returns-then-begins_with-clause-ok c =
    let text = c.args.text.now in
    let white = c.split_blanks.result.0.now in
    let more = c.split_blanks.result.1.now in
    let whole : scalar c.args.lines c.args.style 0 c.args.fold [] text ≡ scalar c.args.lines c.args.style 0 c.args.fold white more =
    whites c.args.lines c.args.style c.args.fold [] text
    ∙ ap (λ w. scalar c.args.lines c.args.style 0 c.args.fold w (skip true text)) (sym c.split_blanks.ensures.front)
    ∙ ap (scalar c.args.lines c.args.style 0 c.args.fold white) (sym c.split_blanks.ensures.rest) in
    let on : stops c.args.lines c.split_blanks.result.1.now ≡ false = ap (stops c.args.lines) (sym c.as_bytes.ensures.value) ∙ sym c.stops.ensures ∙ c.if-stops.false in
    let feed : begins_with 10 c.split_blanks.result.1.now ≡ true = ap (begins_with 10) (sym c.as_bytes-2.ensures.value) ∙ sym c.begins_with.ensures ∙ c.if-begins_with.true in
    ap (behind (string_bytes c.args.out.now)) (whole ∙ at_feed c.args.lines c.args.style c.args.fold white more feed on
    ∙ ap (λ g. scalar c.args.lines c.args.style 0 g [] (drop 1 more)) (sym c.more_feeds.ensures)
    ∙ ap (scalar c.args.lines c.args.style 0 c.more_feeds.result []) (sym c.behind.ensures.rest))
