use Rattle.std.proofs.lemmas.Grind.{put_two}
use Rattle.haya_numbers.proofs.Romans.{worth_left-more, letters_of-more}
use Rattle.haya_numbers.proofs.numeric.form.RomanDisplay.fmt.Goals as goal

pub letters-preserved : goal.letters-preserved
letters-preserved g c = record {
  left = worth_left-more _ _ _ _ _ c.letters-test.true c.letters.invariant.left;
  written = λ plain.
      let before = c.letters.invariant.written plain in
      put_two _ _ _ _ _ _ _ before (c.in_ok-write_copies.ensures before.plain cc) (letters_of-more _ _ _ _ _ c.letters-test.true c.letters.invariant.left);
}
