-- The bytes that are looked for in an element.
use Rattle.std.specs.Prelude.{◌≡◌, ◌<◌, ◌≤◌, ◌+◌, ◌-◌, ℕ, Bool, ◌==◌, ◌&&◌, ◌||◌, IsFalse, IsTrue, List, bit_or, drop, length, map, nat_le, slice_index, take}
use Rattle.std.specs.Simd.Lanes.{mask_l}
use Rattle.json.specs.Ascii as ascii
use Rattle.haya_slices.specs.declared.signs.Signs.{Signs}
use Rattle.haya_slices.specs.declared.signs.Sought.{Sought}
use Rattle.haya_slices.specs.declared.signs.Sought.TheVariants.{Turn, Mark}

abbrev pub is_bracket : ℕ → Bool
is_bracket x =
    ((x == ascii.open_brace) || (x == ascii.open_bracket))
    || ((x == ascii.close_brace) || (x == ascii.close_bracket))

-- outside of strings quotes and brackets, and in a string quotes and backslashes
abbrev pub is_sought : Sought → ℕ → Bool
is_sought Turn x = (x == ascii.quote) || is_bracket x
is_sought Mark x = (x == ascii.quote) || (x == ascii.backslash)

-- the first of the bytes that is looked for
pub record IsFirst (s : Sought) (bytes : List ℕ) (place : ℕ) : Type 0 where
  pub within : place < length bytes
  pub before : (k : ℕ) → k < place → IsFalse (is_sought s (slice_index bytes k))
  pub there : IsTrue (is_sought s (slice_index bytes place))

-- ---- signs

-- Quotes, backslashes and brackets, and with them U+0002 and `|`: with the bit that tells small
-- letters from capital ones they are a quote, or from an opening to a closing brace.
abbrev pub is_sign : ℕ → Bool
is_sign x =
    let low = bit_or x 32 in
    (low == ascii.quote) || (nat_le ascii.open_brace low && nat_le low ascii.close_brace)

-- of the bytes from one place to another, at most 64, a bit tells whether each is a sign
pub record AreSigns (bytes : List ℕ) (signs : Signs) : Type 0 where
  pub order : signs.start ≤ signs.end
  pub within : signs.end ≤ length bytes
  pub few : signs.end ≤ signs.start + 64
  pub bits : signs.bits
      ≡ mask_l (map is_sign (take (signs.end - signs.start) (drop signs.start bytes)))

-- a place is behind the first sign from another place on
pub record IsNextSign (bytes : List ℕ) (from behind : ℕ) : Type 0 where
  pub order : from < behind
  pub within : behind ≤ length bytes
  pub before : (k : ℕ) → from ≤ k → k + 1 < behind → IsFalse (is_sign (slice_index bytes k))
  pub there : IsTrue (is_sign (slice_index bytes (behind - 1)))
