use Rattle.std.proofs.Common.{◌≡◌, Some, take}
use Rattle.std.specs.Prelude.{map}
use Rattle.hayagriva.specs.Library.{key_of}
use Rattle.hayagriva.specs.Query.{hit_entry}
use Rattle.haya_source.specs.Places.{kept_part}
use Rattle.haya_command.proofs.source_answering.kept_parts.Given as goal

-- the parts so far are those of the hits so far
abbrev pub invariant-hits : goal.invariant-hits
invariant-hits l =
    map (λ hit. kept_part l.fn.places (key_of (hit_entry hit))) (take l.hit-index l.hits)
    ≡ map (λ s. Some s.now) l.parts.items
