use Rattle.std.proofs.Common.{sym, ◌∙◌, ap}
use Rattle.std.specs.Char.{is_ascii_digit}
use Rattle.std.specs.List.{list_all}
use Rattle.std.specs.Str.{chars}
use Rattle.haya_time.proofs.DurationScans.{cut_boundary, take-cut, drop-cut, digits-none, digits-some}
use Rattle.haya_text.proofs.Numerics.{all-run}
use Rattle.haya_time.proofs.duration.scan.take_digits.Goals as goal

pub split_at-requires : goal.split_at-requires
split_at-requires c = cut_boundary _ _ _ c.skip_digits-rest.utf8 c.skip_digits-rest.ensures.cut

pub returns-then-starts_numeric-clause-cases : goal.returns-then-starts_numeric-clause-cases
returns-then-starts_numeric-clause-cases c = digits-none (chars c.args.text.now) (chars c.skip_whitespace-text.result.now) (chars c.skip_digits-rest.result.now) c.skip_whitespace-text.ensures c.skip_digits-rest.ensures.rest (sym c.starts_numeric.ensures ∙ c.if-starts_numeric.true)

pub returns-clause-cases : goal.returns-clause-cases
returns-clause-cases c =
    let cut = c.skip_digits-rest.ensures.cut in
    digits-some (chars c.args.text.now) (chars c.skip_whitespace-text.result.now) (chars c.skip_digits-rest.result.now) c.split_at.result.0.now (chars c.split_at.result.1.now)
    c.skip_whitespace-text.ensures c.skip_digits-rest.ensures.rest (sym c.starts_numeric.ensures ∙ c.if-starts_numeric.false)
    (c.split_at.ensures.front ∙ take-cut _ _ _ cut) (ap chars (c.split_at.ensures.back ∙ drop-cut _ _ _ cut))

pub returns-clause-digits : goal.returns-clause-digits
returns-clause-digits c =
    ap (list_all is_ascii_digit) (c.split_at.ensures.front ∙ take-cut _ _ _ c.skip_digits-rest.ensures.cut) ∙ all-run is_ascii_digit (chars c.skip_whitespace-text.result.now)
