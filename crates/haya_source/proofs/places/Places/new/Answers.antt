use Rattle.std.proofs.Common.{ap}
use Rattle.std.specs.Map.{lookup}
use Rattle.std.specs.Prelude.{option_map, string_bytes}
use Rattle.std.specs.Str.{bytes_eq}
use Rattle.haya_source.specs.Places.{kept_part}
use Rattle.haya_source.proofs.places.Places.new.Goals as goal

pub returns : goal.returns
unfolding kept_part
returns c = λ key.
    ap (λ entries. option_map (λ s. s.now) (lookup (λ k. bytes_eq key (string_bytes k)) entries))
    c.with_hasher.ensures.empty
