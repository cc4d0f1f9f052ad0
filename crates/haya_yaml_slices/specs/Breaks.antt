-- Places in a text where it may be divided.
use Rattle.std.specs.Prelude.{◌≡◌, ◌⊎◌, ◌+◌, ℕ, List, length, slice_index}

-- the front of bytes, their end, or a place behind a line feed
abbrev pub IsBreak : List ℕ → ℕ → Type 0
IsBreak bytes n =
    (n ≡ 0) ⊎ ((n ≡ length bytes) ⊎ ((m : ℕ) × (n ≡ m + 1) × (slice_index bytes m ≡ 10)))
