use Rattle.json.proofs.Unique.Keys.{AreDistinct-permutation, AreDistinct-permutation_back}
use Rattle.haya_json.proofs.unique.are_distinct.Goals as goal

pub returns : goal.returns
returns c =
    let moved = c.sort_unstable.ensures.permutation in
    (λ yes. AreDistinct-permutation_back _ _ moved (c.neighbours_differ.ensures.0 yes), λ h. c.neighbours_differ.ensures.1 (AreDistinct-permutation _ _ moved h))
