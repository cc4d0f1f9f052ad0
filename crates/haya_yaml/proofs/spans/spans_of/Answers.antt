use Rattle.std.proofs.Common.{◌≡◌, ◌+◌, ◌-◌, ◌<◌, drop, get_or, length, length-set, set, true, sym, ap, ◌∙◌, arith}
use Rattle.haya_yaml.specs.Line.{texts}
use Rattle.haya_yaml.specs.Spans.{are_as_deep, have_spans}
use Rattle.haya_yaml.proofs.Depths.{set_more}
use Rattle.haya_yaml.proofs.spans.spans_of.Goals as goal

pub spans-preserved : goal.spans-preserved
spans-preserved c =
    let lines = c.args.lines.now in
    let spans = c.spans.spans.items in
    let n = c.spans.place - 1 in
    let more = c.as_deep.result in
    let span = c.index_mut.result.now in
    let within : n < length spans = omega (arith, c.spans-test.true, c.spans.invariant.0) in
    let deep : are_as_deep (get_or spans n span).depth more (texts (drop (n + 1) lines)) ≡ true =
    sym (ap (λ ss. are_as_deep (get_or ss n span).depth more (texts (drop (n + 1) lines))) c.as_slice.ensures.value) ∙ c.as_deep.ensures span in (
      omega (arith, c.spans.invariant.0, length-set spans n (record { depth = span.depth; more = more })),
      ap (λ s. have_spans (set spans n (record { depth = s.depth; more = more })) lines) c.index_mut.ensures.value
          ∙ set_more spans lines n more span c.spans.invariant.1 within deep,
    )
