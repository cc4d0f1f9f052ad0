use Rattle.std.proofs.Common.{◌∙◌, sym, string_bytes}
use Rattle.std.specs.Cmp.Derive.Mapped.{pointwise-map}
use Rattle.std.specs.Str.{bytes_eq}
use Rattle.haya_selectors.proofs.equal.same_names.Goals as goal

pub returns : goal.returns
returns c = c.eq.ensures ∙ sym (pointwise-map string_bytes bytes_eq c.args.left.now c.args.right.now)
