use Rattle.std.proofs.Common.{◌≡◌, ℕ, ◌<◌, List, [], ◌∷◌, Option, None, Some, length, take, set, option_map, refl, arith}
use Rattle.std.proofs.lemmas.Bool.Decides.{nat_tests}
use Rattle.std.proofs.lemmas.List.{take_more_set}
use Rattle.std.specs.Io.KnownBytes.{Consumes, IsAtEnd}
use Rattle.haya_json_elements.specs.Elements.{end_of, lines_from}
use Rattle.haya_json_elements.specs.Steps.{mark}
use Rattle.haya_json_elements.specs.declared.place.Brackets.{Brackets}
use Rattle.haya_json_elements.specs.declared.place.Place.{Place}
use Rattle.haya_json_elements.specs.declared.place.Place.TheVariants.{Lost}
use Rattle.haya_json_elements.proofs.lines.ElementLinesRead.read.Goals as goal

-- at the end of a text that may not end, the mark is read
mark_read : (b : Brackets) (p : Place) (old new : Option (List ℕ)) → Consumes old new []
    → IsAtEnd new → end_of p ≡ mark ∷ []
    → Consumes (option_map (lines_from b p) old) (option_map (lines_from b Lost) new) (mark ∷ [])
mark_read b p None new read at_end ends = tt
mark_read b p (Some xs) None read at_end ends = absurd read
mark_read b p (Some xs) (Some ys) read at_end ends = rw (read, at_end) ends

pub returns-clause-bytes : goal.returns-clause-bytes
returns-clause-bytes g c =
    let room : 0 < length c.read.new.buf = grind (arith, nat_tests) in
    let none : c.in_ok-count.count ≡ 0 = omega arith in
    let read = rw none at c.in_ok-count.ensures.bytes in
    let front : take 1 (set c.read.new.buf 0 mark) ≡ mark ∷ [] =
    take_more_set c.read.new.buf 0 mark room in (
      rw front (mark_read c.args.self.now.brackets c.args.self.now.place _ _ read.0
          (read.1 refl room) c.if-may_end.ensures),
      λ one. cc,
    )
