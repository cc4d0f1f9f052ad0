use Rattle.std.proofs.Common.{◌≡◌, true, arith}
use Rattle.std.proofs.lemmas.Grind.{common_steps}
use Rattle.haya_bibtex_values.proofs.Plain.{all_plain, kept_as_it_is, stands_as_it_is}
use Rattle.haya_bibtex_values.proofs.standing.is_plain.Goals as goal

pub returns-clause-trimmed : goal.returns-clause-trimmed
returns-clause-trimmed c =
    let plain : all_plain c.args.text.now ≡ true = grind (arith, common_steps) in
    λ _. stands_as_it_is c.args.text.now plain

pub returns-clause-whole : goal.returns-clause-whole
returns-clause-whole c =
    let plain : all_plain c.args.text.now ≡ true = grind (arith, common_steps) in
    λ _. kept_as_it_is c.args.text.now plain
