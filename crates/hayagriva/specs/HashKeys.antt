-- What a map hashes with that was given two numbers.
use Rattle.std.specs.Prelude.{ℕ, ◌++◌}
use Rattle.std.specs.List.{fold}
use Rattle.std.specs.Hash.{u64}
use Rattle.std.specs.Hash.DefaultHasher.{initial, write}
use Rattle.std.specs.declared.hash.DefaultHasher.{DefaultHasher}
use Rattle.hayagriva.specs.declared.hash_keys.HashKeys.{HashKeys}

-- the hasher that each key goes into
abbrev pub hasher_of : HashKeys → DefaultHasher
hasher_of keys = keys.keyed

-- a hasher that has taken both numbers in
abbrev pub keyed : ℕ → ℕ → DefaultHasher
keyed first second = fold write initial (u64 first ++ u64 second)
