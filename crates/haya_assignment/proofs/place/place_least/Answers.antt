use Rattle.std.proofs.Common.{◌≡◌, ◌≢◌, ℕ, ◌+◌, ◌<◌, ◌≤◌, true, false, refl, length, get_or, arith}
use Rattle.haya_assignment.specs.Assignment.{rows}
use Rattle.haya_assignment.specs.Placed.{accepts}
use Rattle.haya_assignment.specs.Ranked.{AreRanked, IsLayered}
use Rattle.haya_assignment.specs.Search.{AreLayers, HasFound, IsSearchedBelow, Reaches}
use Rattle.haya_assignment.proofs.Numbers.{grows_refl}
use Rattle.haya_assignment.proofs.Placing.{chain, least_below, one, placed_but, ready}
use Rattle.haya_assignment.proofs.Ranking.{beside, is_below, not_below, ranked_next}
use Rattle.haya_assignment.proofs.Reaching.{accepts_within}
use Rattle.haya_assignment.proofs.place.place_least.Goals as goal
use Rattle.haya_assignment.proofs.place.place_least.Goals.{in-Some, in_default}

pub seek-requires-clause-placed : goal.seek-requires-clause-placed
seek-requires-clause-placed c = placed_but (accepts (rows c.args.table.now)) c.args.member c.args.positions.now c.requires.placed

pub shift-requires-clause-chain : goal.shift-requires-clause-chain
shift-requires-clause-chain c =
    let A = accepts (rows c.args.table.now) in
    let ps = c.args.positions.now in
    let r = c.in_ok-sought.sought.reached in
    let stays = c.in_ok-stays.stays.items in
    let hs = c.in_ok-sought.sought.holders.items in
    let set = c.in_ok-stays.ensures.set in
    let unset = c.in_ok-stays.ensures.unset in
    let moves : get_or stays c.args.member false ≡ false = not_below stays c.args.ranks.now.ranks.items c.args.member set unset in
    let long = c.in_ok-sought.ensures.as_long in
    let grown = c.in_ok-sought.ensures.first in
    let reaches : Reaches A stays hs r = rw c.deref.ensures.value at c.in_ok-sought.ensures.reaches in
    chain A stays c.args.member c.args.parents ps hs c.in_ok-sought.ensures.holders r c.requires.member_in moves reaches long grown

pub returns-clause-placed : goal.returns-clause-placed
returns-clause-placed c =
    let A = accepts (rows c.args.table.now) in
    let ps = c.args.positions.now in
    let r = c.in_ok-sought.sought.reached in
    let stays = c.in_ok-stays.stays.items in
    let hs = c.in_ok-sought.sought.holders.items in
    let set = c.in_ok-stays.ensures.set in
    let unset = c.in_ok-stays.ensures.unset in
    let moves : get_or stays c.args.member false ≡ false = not_below stays c.args.ranks.now.ranks.items c.args.member set unset in
    let long = c.in_ok-sought.ensures.as_long in
    let grown = c.in_ok-sought.ensures.first in
    let reaches : Reaches A stays hs r = rw c.deref.ensures.value at c.in_ok-sought.ensures.reaches in
    elim c.match-sought.branch [
      | in-Some w ↦
          let found : HasFound A stays hs r w.in-Some.at w.in-Some.position = rw c.deref.ensures.value at (rw w.in-Some.is at c.in_ok-sought.ensures.found) in
          let is_ready = ready A stays c.args.member c.args.parents ps hs c.in_ok-sought.ensures.holders r c.requires.member_in moves reaches long grown _ _ found (placed_but A c.args.member ps c.requires.placed) in
          rw w.positions-is (w.shift.ensures.placed A (found.bound + 1) is_ready).0
      | in_default w ↦ rw w.positions-is c.requires.placed
    ]

pub returns-clause-fixed : goal.returns-clause-fixed
returns-clause-fixed c = λ k h.
    let A = accepts (rows c.args.table.now) in
    let ps = c.args.positions.now in
    let r = c.in_ok-sought.sought.reached in
    let stays = c.in_ok-stays.stays.items in
    let hs = c.in_ok-sought.sought.holders.items in
    let set = c.in_ok-stays.ensures.set in
    let unset = c.in_ok-stays.ensures.unset in
    let moves : get_or stays c.args.member false ≡ false = not_below stays c.args.ranks.now.ranks.items c.args.member set unset in
    let long = c.in_ok-sought.ensures.as_long in
    let grown = c.in_ok-sought.ensures.first in
    let reaches : Reaches A stays hs r = rw c.deref.ensures.value at c.in_ok-sought.ensures.reaches in
    let zero_rank : get_or c.args.ranks.now.ranks.items k 0 ≡ 0 = c.requires.ranked.fixed k h in
    let some_rank : 0 < get_or c.args.ranks.now.ranks.items c.args.member 0 = c.requires.ranked.later c.args.member (omega arith) c.requires.member_in in
    let many : length c.args.ranks.now.ranks.items ≡ length ps = c.requires.ranked.as_many in
    let stay : get_or stays k false ≡ true = is_below stays c.args.ranks.now.ranks.items c.args.member set unset k (omega arith) (omega arith) in
    elim c.match-sought.branch [
      | in-Some w ↦ rw w.positions-is (w.shift.ensures.kept stays moves reaches.moves k stay)
      | in_default w ↦ rw w.positions-is refl
    ]

pub returns-clause-least : goal.returns-clause-least
returns-clause-least c = λ others placed longer same.
    let A = accepts (rows c.args.table.now) in
    let ps = c.args.positions.now in
    let r = c.in_ok-sought.sought.reached in
    let stays = c.in_ok-stays.stays.items in
    let hs = c.in_ok-sought.sought.holders.items in
    let set = c.in_ok-stays.ensures.set in
    let unset = c.in_ok-stays.ensures.unset in
    let moves : get_or stays c.args.member false ≡ false = not_below stays c.args.ranks.now.ranks.items c.args.member set unset in
    let long = c.in_ok-sought.ensures.as_long in
    let grown = c.in_ok-sought.ensures.first in
    let reaches : Reaches A stays hs r = rw c.deref.ensures.value at c.in_ok-sought.ensures.reaches in
    let many : length c.args.ranks.now.ranks.items ≡ length ps = c.requires.ranked.as_many in
    let out : (u v : ℕ) → u < length ps → v < length ps → get_or stays v false ≡ true → get_or stays u false ≡ false → get_or others u 0 ≢ get_or ps v 0 = λ u v hu hv stay move.
    let low : get_or c.args.ranks.now.ranks.items v 0 < get_or c.args.ranks.now.ranks.items c.args.member 0 = set v stay in
    let high : get_or c.args.ranks.now.ranks.items c.args.member 0 ≤ get_or c.args.ranks.now.ranks.items u 0 = unset u move (omega arith) in
    beside A c.args.member c.args.ranks.now ps c.requires.ranked others placed longer same u v hu hv (omega arith) in
    elim c.match-sought.branch [
      | in-Some w ↦
          let found : HasFound A stays hs r w.in-Some.at w.in-Some.position = rw c.deref.ensures.value at (rw w.in-Some.is at c.in_ok-sought.ensures.found) in
          let is_ready = ready A stays c.args.member c.args.parents ps hs c.in_ok-sought.ensures.holders r c.requires.member_in moves reaches long grown _ _ found (placed_but A c.args.member ps c.requires.placed) in
          let new : get_or w.shift.new.positions c.args.member 0 < found.bound + 1 = (w.shift.ensures.placed A (found.bound + 1) is_ready).1 in
          let old : found.bound ≤ get_or others c.args.member 0 =
          least_below A stays c.args.member c.args.parents ps hs c.in_ok-sought.ensures.holders r c.requires.member_in moves reaches long grown found.before found.bound found.some found.grown found.searched others placed longer out in
          rw w.positions-is (omega arith)
      | in_default w ↦
          let searched : IsSearchedBelow A stays c.args.parents hs r.members.items = rw c.deref.ensures.value at (rw w.in_default.is at c.in_ok-sought.ensures.searched) in
          let old : c.args.parents ≤ get_or others c.args.member 0 =
          least_below A stays c.args.member c.args.parents ps hs c.in_ok-sought.ensures.holders r c.requires.member_in moves reaches long grown r.members.items c.args.parents reaches.some (grows_refl r.members.items) searched others placed longer out in
          let within : get_or ps c.args.member 0 < c.args.parents = accepts_within c.args.table.now c.args.parents c.args.member _ c.requires.width (c.requires.placed.accepted c.args.member c.requires.member_in) in
          rw w.positions-is (omega arith)
    ]

pub returns-clause-ranked : goal.returns-clause-ranked
returns-clause-ranked c =
    let A = accepts (rows c.args.table.now) in
    let ps = c.args.positions.now in
    let r = c.in_ok-sought.sought.reached in
    let stays = c.in_ok-stays.stays.items in
    let hs = c.in_ok-sought.sought.holders.items in
    let set = c.in_ok-stays.ensures.set in
    let unset = c.in_ok-stays.ensures.unset in
    let moves : get_or stays c.args.member false ≡ false = not_below stays c.args.ranks.now.ranks.items c.args.member set unset in
    let long = c.in_ok-sought.ensures.as_long in
    let grown = c.in_ok-sought.ensures.first in
    let reaches : Reaches A stays hs r = rw c.deref.ensures.value at c.in_ok-sought.ensures.reaches in
    let many : length c.args.ranks.now.ranks.items ≡ length ps = c.requires.ranked.as_many in
    let layers = c.in_ok-sought.sought.layers.items in
    let lay : AreLayers A stays hs r.members.items layers = rw c.deref.ensures.value at c.in_ok-sought.ensures.layered in
    let layered : IsLayered A c.args.member ps stays hs c.args.ranks.now r.members.items layers =
    record {
      one = one A stays c.args.member c.args.parents ps hs c.in_ok-sought.ensures.holders r c.requires.member_in moves reaches long grown;
      held = c.in_ok-sought.ensures.holders.held;
      low = set;
      high = λ u move h. unset u move (omega arith);
      moves = λ t z h. let few : length layers ≤ length r.members.items = lay.fewer in reaches.moves t z (omega arith);
      closed = lay;
    } in
    let ranked : AreRanked A c.args.member c.rank.new.self ps = c.rank.ensures.ranked A ps stays hs c.requires.ranked (rw (c.deref-2.ensures.value, c.deref-3.ensures.value) layered) in
    let long' : length c.match-sought.positions ≡ length ps = elim c.match-sought.branch [
      | in-Some w ↦ rw w.positions-is w.shift.ensures.as_long
      | in_default w ↦ rw w.positions-is refl
    ] in
    ranked_next A c.args.member c.rank.new.self ps ranked c.match-sought.positions _ c.requires.member_in (returns-clause-placed c) long' (returns-clause-fixed c) refl refl refl
