use Rattle.std.proofs.Common.{◌≡◌, ◌==◌, map, refl, ◌∙◌, ap, lit<}
use Rattle.std.proofs.lemmas.Grind.{put_two}
use Rattle.std.proofs.lemmas.Iterator.Consumers.{YieldsList-end}
use Rattle.std.proofs.lemmas.Iterator.Splits.{YieldsList-from_str_split}
use Rattle.std.specs.List.{slice_split}
use Rattle.std.specs.Str.Iter.{split_text, split_has_more, split_pattern}
use Rattle.haya_people.specs.FirstName.{delimited}
use Rattle.haya_people.proofs.Items.{items_more, separator_more}
use Rattle.haya_people.proofs.first_name.DelimitedDisplay.fmt.Goals as goal

pub loop-item-preserved : goal.loop-item-preserved
loop-item-preserved g c = record {
  written = λ plain. let w = c.loop-item.invariant.written plain in
      put_two _ _ _ _ _ _ _ w (c.in_ok-write.ensures.writes w.plain refl)
      (items_more c.args.self.now.delimiter.now c.loop-item.yielded c.in-Some.item c.loop-item.separator.now c.delimiter_behind.result.now c.loop-item.invariant.separator c.delimiter_behind.ensures);
  separator = separator_more c.loop-item.yielded c.in-Some.item;
}

pub returns-clause-writes : goal.returns-clause-writes
unfolding delimited
returns-clause-writes g c =
    let same = c.into_iter-item-iterator.ensures.into_iter_gives in
    let chain = YieldsList-from_str_split {s = c.into_iter-item-iterator.result} 32 c.args.self.now.given_name.now (lit< tt) (ap split_text same ∙ c.split-item-items.ensures.text) (ap split_has_more same ∙ c.split-item-items.ensures.has_more) (ap split_pattern same ∙ c.split-item-items.ensures.pattern) in
    let end = YieldsList-end chain c.loop-item.yielded _ c.loop-item.yielded_by _ _ c.in-None.is c.next.ensures.steps in
    let all : map (λ t. t.now) c.loop-item.yielded ≡ slice_split (λ b. b == 32) c.args.self.now.given_name.now = end.0 in
    λ plain _. rw (← all) (c.loop-item.invariant.written plain)
