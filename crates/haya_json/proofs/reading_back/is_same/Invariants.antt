use Rattle.std.proofs.Common.{◌≡◌}
use Rattle.haya_json.proofs.reading_back.is_same.Given as goal

-- both are the same exactly where what is left of both is the same
abbrev pub invariant-entries : goal.invariant-entries
invariant-entries l =
    ((l.one ≡ l.other) → (l.entry-iterator ≡ l.others)) × ((l.entry-iterator ≡ l.others) → (l.one ≡ l.other))
