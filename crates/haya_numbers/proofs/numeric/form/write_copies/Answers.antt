use Rattle.std.proofs.lemmas.Grind.{put_two}
use Rattle.haya_numbers.proofs.Romans.{copies-more}
use Rattle.haya_numbers.proofs.numeric.form.write_copies.Goals as goal

pub copies-preserved : goal.copies-preserved
copies-preserved g c = λ plain.
    let before = c.copies.invariant plain in
    put_two _ _ _ _ _ _ _ before (c.in_ok-write.ensures.writes before.plain cc) (copies-more c.copies.counter c.args.letters.now)
