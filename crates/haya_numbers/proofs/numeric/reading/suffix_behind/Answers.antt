use Rattle.std.proofs.Common.{sym, ◌∙◌}
use Rattle.haya_numbers.proofs.Affixes.{suffix_with-nil, suffix_with-bytes}
use Rattle.haya_numbers.proofs.numeric.reading.suffix_behind.Goals as goal

pub returns-then-is_empty-clause-bytes : goal.returns-then-is_empty-clause-bytes
returns-then-is_empty-clause-bytes c = sym (suffix_with-nil _ c.args.suffix.now (sym c.is_empty.ensures ∙ c.if-is_empty.true))

pub returns-clause-bytes : goal.returns-clause-bytes
returns-clause-bytes c =
    let e = suffix_with-bytes c.args.white.now c.args.suffix.now c.utf8.white c.utf8.suffix (sym c.is_empty.ensures ∙ c.if-is_empty.false) in
    rw (← e, ← c.in_ok-format.ensures.ok) c.boxed.ensures.bytes
