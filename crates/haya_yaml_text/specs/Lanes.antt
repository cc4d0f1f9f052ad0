-- Signs that are looked at together with those behind them.
use Rattle.std.specs.Prelude.{ℕ, List, Bool, nat_le, not, ◌==◌, ◌&&◌, ◌||◌}
use Rattle.std.specs.Simd.Lanes.{zip2}

-- signs, each with the one behind it
abbrev pub pairs : List ℕ → List ℕ → List (ℕ × ℕ)
pairs signs next = zip2 (λ c d. (c, d)) signs next

-- a sign may not go on in a scalar without quotes before the next one, and others do
abbrev pub may_stop : (ℕ × ℕ) → Bool
may_stop p =
    (nat_le p.0 35 || (p.0 == 58)) && (nat_le p.1 35 || (p.1 == 58) || not (p.0 == 32))
