use Rattle.std.proofs.Common.{◌∙◌, sym, ap}
use Rattle.json.specs.Lex.{class}
use Rattle.haya_json_elements.specs.Steps.{element_step}
use Rattle.haya_slices.specs.Layout.{within}
use Rattle.haya_slices.proofs.element.passed.Goals as goal

pub returns-in-Text : goal.returns-in-Text
returns-in-Text c = λ b.
    sym (ap (λ m. within (element_step b m c.args.depth (class c.args.byte) c.args.byte).0)
    c.in-Text.is ∙ c.behind_text.ensures.leads b c.args.depth)
