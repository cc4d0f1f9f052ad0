use Rattle.std.proofs.Common.{◌++◌, take, ap, ◌∙◌}
use Rattle.haya_json_elements.specs.declared.place.Mode.TheVariants.{Between}
use Rattle.haya_slices.specs.Layout.{inside}
use Rattle.haya_slices.proofs.Strings.{white_leads}
use Rattle.haya_slices.proofs.element.token_len.Goals as goal

pub returns-in-Between-eq0-clause-leads : goal.returns-in-Between-eq0-clause-leads
returns-in-Between-eq0-clause-leads c = λ b ys.
    let white = take c.white_len.result c.args.rest.now in
    ap (λ m. inside b m c.args.depth (white ++ ys)) c.in-Between-eq0.is-0 ∙ ap (λ d. inside b Between d (white ++ ys)) c.in-Between-eq0.is-1
    ∙ white_leads b 0 white c.white_len.ensures.white ys
