use Rattle.std.proofs.Common.{ℕ, List}
use Rattle.std.specs.Fmt.{HasWritten, IsPlainFormatter}
use Rattle.unicode_segmentation.specs.Iter.{graphemes_left}
use Rattle.haya_people.specs.Initials.{initials_of}
use Rattle.haya_people.specs.InitialsLeft.{style_of}
use Rattle.haya_people.proofs.Steps.{Written}
use Rattle.haya_people.proofs.initials.InitialsDisplay.fmt.Given as goal

-- what is written, and what is left to write, make up the initials
abbrev pub invariant-loop-grapheme : goal.invariant-loop-grapheme
invariant-loop-grapheme g l =
    IsPlainFormatter l.initial.f → (front : List ℕ) × HasWritten g.W.Write.write_str_gives l.initial.f front l.f
    × Written (style_of l.self) front l.place (graphemes_left l.grapheme-iterator) (initials_of (style_of l.self) l.self.given_name.now)
