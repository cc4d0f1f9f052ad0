use Rattle.std.proofs.Common.{◌≡◌, ◌+◌, ◌<◌, get_or, arith, rules}
use Rattle.std.proofs.lemmas.List.{get_or_read}
use Rattle.haya_assignment.proofs.Ranking.{ranked_given}
use Rattle.haya_assignment.proofs.ranks.Ranks.rank.Goals as goal

pub returns-then-count-self : goal.returns-then-count-self
returns-then-count-self c =
    record {
      as_long = c.give.ensures.as_long;
      ranked = λ A ps stays hs ranked layered.
          let r = c.args.self.now in
          let s = c.give.new.self in
          let is : c.index.result.now ≡ get_or r.ranks.items c.args.member 0 = get_or_read r.ranks.items c.args.member _ c.requires.member_in c.index.ensures 0 in
          let none : get_or r.ranks.items c.args.member 0 ≡ r.top = omega arith in
          let room : r.next + c.args.count < r.top = search rules in
          ranked_given A c.args.member ps stays hs r s c.args.members.now c.args.layers.now ranked layered none c.requires.known c.args.count room
          c.give.ensures.as_long c.give.ensures.top c.give.ensures.next c.give.ensures.others c.give.ensures.given c.requires.low;
    }
