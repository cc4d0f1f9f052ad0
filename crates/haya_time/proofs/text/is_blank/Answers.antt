use Rattle.std.proofs.Common.{sym, ◌∙◌, ap}
use Rattle.std.specs.Str.{chars}
use Rattle.haya_time.specs.TextFront.{is_empty}
use Rattle.haya_time.proofs.TextFronts.{blank_by_rest}
use Rattle.haya_time.proofs.text.is_blank.Goals as goal

pub returns : goal.returns
returns c = c.is_at_end.ensures ∙ ap is_empty c.skip_whitespace.ensures ∙ sym (blank_by_rest (chars c.args.text.now))
