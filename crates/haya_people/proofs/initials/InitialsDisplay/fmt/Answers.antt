use Rattle.std.proofs.Common.{◌++◌, refl, rules, ◌∙◌, ap, []}
use Rattle.std.proofs.lemmas.Grind.{put_two}
use Rattle.unicode_segmentation.specs.Iter.{graphemes_left}
use Rattle.haya_people.specs.InitialsLeft.{style_of}
use Rattle.haya_people.proofs.Steps.{written_none, written_next, written_initial, written_all}
use Rattle.haya_people.proofs.initials.InitialsDisplay.fmt.Goals as goal

pub loop-grapheme-init : goal.loop-grapheme-init
loop-grapheme-init g c =
    let all = ap graphemes_left c.into_iter-grapheme-iterator.ensures.into_iter_gives ∙ c.graphemes-grapheme-items.ensures.left in
    λ plain. ([], search rules, written_none (style_of c.args.self.now) c.args.self.now.given_name.now _ all)

pub loop-grapheme-preserved : goal.loop-grapheme-preserved
loop-grapheme-preserved g c =
    λ plain. let i = c.loop-grapheme.invariant plain in (
      _,
      put_two _ _ _ _ _ _ _ i.1 (c.in_ok-write.ensures.writes i.1.plain refl) refl,
      written_next (style_of c.args.self.now) i.0 c.loop-grapheme.place c.in-Some.grapheme.now _ _ _ c.step-next.result c.step-next.ensures c.in-Some.ensures.steps i.2,
    )

pub returns-in-Initial-clause-writes : goal.returns-in-Initial-clause-writes
returns-in-Initial-clause-writes g c =
    λ plain ok. let i = c.loop-grapheme.invariant plain in
    put_two _ _ _ _ _ _ _ i.1 (c.write-in-Initial.ensures.writes i.1.plain ok)
    (ap (λ l. i.0 ++ l) c.trim_end.ensures.trim ∙ written_initial (style_of c.args.self.now) i.0 c.loop-grapheme.place _ _ c.in-None.ensures.steps.0 c.in-Initial.is i.2)

pub returns-in-Apart : goal.returns-in-Apart
returns-in-Apart g c = record {
  writes = λ plain _. let i = c.loop-grapheme.invariant plain in
      rw (← written_all (style_of c.args.self.now) i.0 c.loop-grapheme.place _ _ c.in-None.ensures.steps.0 c.in-Apart.is i.2) i.1;
  styled = tt;
}
