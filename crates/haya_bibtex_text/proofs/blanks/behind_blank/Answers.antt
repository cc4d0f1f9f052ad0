use Rattle.std.proofs.Common.{arith}
use Rattle.std.proofs.lemmas.Grind.{common_steps}
use Rattle.haya_bibtex_text.proofs.White.{sign_is_not, space_is_white}
use Rattle.haya_bibtex_text.proofs.blanks.behind_blank.Goals as goal

pub characters-preserved-in-32 : goal.characters-preserved-in-32
characters-preserved-in-32 c = record {
  left = grind (arith, common_steps, space_is_white);
  shorter = grind (arith, common_steps);
}

pub returns-in-38-to-126-clause-left : goal.returns-in-38-to-126-clause-left
returns-in-38-to-126-clause-left c =
    let other = sign_is_not c.in-Some.first.now (omega arith) (omega arith) in
    grind (arith, common_steps, other)
