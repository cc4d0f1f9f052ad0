use Rattle.std.proofs.Common.{arith}
use Rattle.haya_yaml.proofs.Depths.{have_back, have_front, have_length}
use Rattle.haya_yaml.proofs.own.SpannedLines.split_at.Goals as goal

pub split_at-requires-2 : goal.split_at-requires-2
split_at-requires-2 c = omega (arith, c.requires, have_length c.args.self.spans.now c.args.self.texts.now c.args.self.spanned)

pub invariant_of-result : goal.invariant_of-result
invariant_of-result c = record {
  spanned =
      have_front c.args.count c.args.self.spans.now c.split_at-2.result.0.now c.args.self.texts.now c.split_at.result.0.now
      c.args.self.spanned c.split_at-2.ensures.front c.split_at.ensures.front;
}

pub invariant_of-result-2 : goal.invariant_of-result-2
invariant_of-result-2 c = record {
  spanned =
      have_back c.args.count c.args.self.spans.now c.split_at-2.result.1.now c.args.self.texts.now c.split_at.result.1.now
      c.args.self.spanned c.split_at-2.ensures.back c.split_at.ensures.back;
}
