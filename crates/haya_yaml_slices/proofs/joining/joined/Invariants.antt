use Rattle.std.proofs.Common.{◌≡◌, flat_map, map, take}
use Rattle.std.specs.Prelude.{string_bytes}
use Rattle.haya_yaml_slices.specs.Joined.{line_ended}
use Rattle.haya_yaml_slices.proofs.joining.joined.Given as goal

abbrev pub invariant-parts : goal.invariant-parts
invariant-parts l =
    string_bytes l.text ≡ flat_map line_ended (map (λ s. s.now) (take l.part-index l.fn.parts))
