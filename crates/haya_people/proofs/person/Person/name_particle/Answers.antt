use Rattle.std.proofs.Common.{rules, sym, ◌∙◌}
use Rattle.haya_people.proofs.Beginnings.{name_particle-listed, name_particle-shorter, name_particle-none}
use Rattle.haya_people.proofs.person.Person.name_particle.Goals as goal

pub returns-then-branch : goal.returns-then-branch
returns-then-branch c =
    sym (name_particle-listed _ _ _ _ c.in-Some.ensures.cases (sym c.in_ok-is_particle.ensures ∙ c.if-branch.true)) ∙ c.shorter.invariant.1

pub shorter-preserved : goal.shorter-preserved
shorter-preserved c =
    (search rules, sym (name_particle-shorter _ _ _ _ c.in-Some.ensures.cases (sym c.in_ok-is_particle.ensures ∙ c.if-branch.false)) ∙ c.shorter.invariant.1)

pub returns : goal.returns
returns c = sym (name_particle-none _ _ c.in_default.ensures.cases) ∙ c.shorter.invariant.1
