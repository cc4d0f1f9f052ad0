use Rattle.std.proofs.Common.{◌≡◌, ℕ, ◌+◌, false, get_or, length, replicate, rules}
use Rattle.haya_assignment.specs.Assignment.{rows}
use Rattle.haya_assignment.specs.Placed.{accepts}
use Rattle.haya_assignment.specs.Search.{HasFound, Reaches}
use Rattle.haya_assignment.proofs.Placing.{ready, stuck}
use Rattle.haya_assignment.proofs.Reaching.{accepts_within, none_set}
use Rattle.haya_assignment.proofs.place.place.Goals as goal

pub returns-in-Some-clause-placed : goal.returns-in-Some-clause-placed
returns-in-Some-clause-placed c =
    let ps = c.args.positions.now in
    let sought = c.in_ok-sought.sought in
    let stays = c.in_ok-stays.stays.items in
    let is : stays ≡ replicate (length ps) false = search rules in
    let none : (u : ℕ) → get_or stays u false ≡ false = λ u. rw is (none_set (length ps) u) in
    let reaches : Reaches (accepts (rows c.args.table.now)) stays sought.holders.items sought.reached = rw c.deref.ensures.value at c.in_ok-sought.ensures.reaches in
    let found : HasFound (accepts (rows c.args.table.now)) stays sought.holders.items sought.reached c.in-Some.at c.in-Some.position = rw c.deref.ensures.value at (rw c.in-Some.is at c.in_ok-sought.ensures.found) in
    (c.shift.ensures.placed (accepts (rows c.args.table.now)) (found.bound + 1)
    (ready _ stays c.args.member c.args.parents ps sought.holders.items c.in_ok-sought.ensures.holders sought.reached c.requires.member_in (none c.args.member) reaches c.in_ok-sought.ensures.as_long c.in_ok-sought.ensures.first _ _ found c.requires.placed)).0

pub returns-clause-stuck : goal.returns-clause-stuck
returns-clause-stuck c =
    let ps = c.args.positions.now in
    let sought = c.in_ok-sought.sought in
    let stays = c.in_ok-stays.stays.items in
    let is : stays ≡ replicate (length ps) false = search rules in
    let none : (u : ℕ) → get_or stays u false ≡ false = λ u. rw is (none_set (length ps) u) in
    let reaches : Reaches (accepts (rows c.args.table.now)) stays sought.holders.items sought.reached = rw c.deref.ensures.value at c.in_ok-sought.ensures.reaches in
    stuck _ stays c.args.member c.args.parents ps sought.holders.items c.in_ok-sought.ensures.holders sought.reached c.requires.member_in (none c.args.member) reaches c.in_ok-sought.ensures.as_long c.in_ok-sought.ensures.first none
    (λ i j ok. accepts_within c.args.table.now c.args.parents i j c.requires.width ok) (rw c.deref.ensures.value at (rw c.in-None.is at c.in_ok-sought.ensures.searched))
