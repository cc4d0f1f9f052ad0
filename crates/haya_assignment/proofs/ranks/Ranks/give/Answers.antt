use Rattle.haya_assignment.proofs.ranks.Ranks.give.Goals as goal

pub returns-clause-others : goal.returns-clause-others
returns-clause-others c = λ u h. c.places.invariant.others u (λ t z l m. h t z m)
