use Rattle.std.proofs.Common.{sym, ◌∙◌}
use Rattle.haya_entry.proofs.Equal.{entries-tell}
use Rattle.haya_json.proofs.reading_back.is_equal.Goals as goal

pub returns : goal.returns
returns c =
    let tells = entries-tell c.args.one.now c.args.other.now in
    (λ holds. tells.0 (sym c.eq.ensures ∙ holds), λ same. c.eq.ensures ∙ tells.1 same)
