use Rattle.std.proofs.Common.{◌≡◌, ap, arith, length, ◌∙◌}
use Rattle.std.proofs.lemmas.List.{length-map}
use Rattle.hayagriva.specs.Library.{from_entries}
use Rattle.haya_source.specs.Elements.{entries_of}
use Rattle.haya_source.proofs.Found.{from_entries-whole, same_length}
use Rattle.haya_source.proofs.places.Places.add.Goals as goal

pub returns-then-parts-len : goal.returns-then-parts-len
returns-then-parts-len c = λ es before parts say library h.
    let as_many : length (from_entries (entries_of es)) ≡ length (entries_of es) =
    omega (
      arith,
      c.if-parts-len.true,
      c.len.ensures,
      ap length library,
      same_length c.args.parts.now es parts,
      length-map es (λ e. e.1),
    ) in
    c.add_in_order.ensures es before parts (library ∙ from_entries-whole (entries_of es) as_many) h
