use Rattle.std.proofs.Common.{ap}
use Rattle.std.specs.Cmp.Lexicographic.{pointwise}
use Rattle.std.specs.Map.{lookup}
use Rattle.std.specs.Prelude.{map, string_bytes}
use Rattle.std.specs.Str.{bytes_eq}
use Rattle.haya_asked.specs.Seen.{place_of}
use Rattle.haya_asked.proofs.seen.Seen.new.Goals as goal

pub returns : goal.returns
unfolding place_of
returns c = λ values. ap (lookup (λ k. pointwise bytes_eq values (map string_bytes k.items))) c.with_hasher.ensures.empty
