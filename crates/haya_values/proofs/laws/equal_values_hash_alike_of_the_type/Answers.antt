use Rattle.haya_values.specs.contracts.maybe_typed.MaybeTypedHash.TheImpl.Laws as maybe_typed
use Rattle.haya_values.proofs.laws.equal_values_hash_alike_of_the_type.Goals as goal

-- the laws that come with the type's bound
pub returns : goal.returns
returns g c = let T = g.T in let met = g.met.T in
    maybe_typed.respects_eq-law g.row.T T.Hash T.Hash-dict T.Eq T.Eq-dict T.PartialEq T.PartialEq-dict
    (record { respects_eq = met.Hash.respects_eq })
    (record { laws = met.Eq.laws })
    (record { laws = met.PartialEq.laws })
