-- What functions take from the front of a text, by its characters.
use Rattle.std.specs.Prelude.{◌≡◌, ℕ, List, Option, Some, None, MatchOption}
use Rattle.std.specs.Str.{chars}
use denote.Ref.{Bor}
use Rattle.haya_time.specs.DurationReading as reading
use Rattle.haya_time.specs.declared.duration.front.Front.{Front}

-- a value and the text behind it are taken exactly where they are read
abbrev pub Takes : {A : Type 0} → Option (A × Bor (List ℕ)) → Option (A × List ℕ) → Type 0
Takes result read = MatchOption result (read ≡ None) (λ p. read ≡ Some (p.0, chars p.1.now))

abbrev pub front_view : Front → reading.Front
front_view f = record {
  duration = f.duration;
  has_fraction = f.has_fraction;
  rest = chars f.rest.now;
}
